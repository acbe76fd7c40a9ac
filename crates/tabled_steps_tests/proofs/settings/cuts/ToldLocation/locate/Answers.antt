use Rattle.std.proofs.Common.{refl}
use Rattle.std.proofs.lemmas.Result.{IfOk-weaker}
use Rattle.tabled_select.proofs.Located.{vec-gives}
use Rattle.tabled_steps_tests.proofs.settings.cuts.ToldLocation.locate.Goals as goal

pub returns-clause-lists : goal.returns-clause-lists
returns-clause-lists g c =
    IfOk-weaker c.from_slice.result _ _
    (λ found e. (found.items, e, λ iter b. vec-gives found iter found.items b.0 b.1 refl))
    c.from_slice.ensures.items
