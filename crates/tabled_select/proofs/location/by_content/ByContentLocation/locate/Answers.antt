use Rattle.tabled_select.proofs.Common.{IfOk-weaker, map-id, refl}
use Rattle.tabled_select.proofs.Located.{vec-gives}
use Rattle.tabled_select.proofs.location.by_content.ByContentLocation.locate.Goals as goal

pub returns-clause-lists : goal.returns-clause-lists
returns-clause-lists g c =
    IfOk-weaker c.search_text.result _ _
    (λ found e. (found.items, rw (map-id, c.as_str.ensures.value, c.self.view_is) at e, λ iter b. vec-gives found iter found.items b.0 b.1 refl))
    c.search_text.ensures
