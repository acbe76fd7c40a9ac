use Rattle.tabled_settings.proofs.Common.{IfOk-weaker, refl}
use Rattle.tabled_select.proofs.Located.{vec-gives}
use Rattle.tabled_settings.proofs.line_names.ColumnNamesLocation.locate.Goals as goal

pub returns-clause-lists : goal.returns-clause-lists
returns-clause-lists g c =
    IfOk-weaker c.find_columns.result _ _
    (λ found e. (found.items, rw (c.deref.ensures.value, c.self.view_is) at e, λ iter b. vec-gives found iter found.items b.0 b.1 refl))
    c.find_columns.ensures
