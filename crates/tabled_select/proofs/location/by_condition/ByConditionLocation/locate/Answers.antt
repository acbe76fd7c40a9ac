use Rattle.tabled_select.proofs.Common.{IfOk-weaker, map-id}
use Rattle.tabled_select.proofs.Located.{vec-gives}
use Rattle.tabled_select.proofs.location.by_condition.ByConditionLocation.locate.Goals as goal

pub returns-clause-lists : goal.returns-clause-lists
returns-clause-lists g c =
    IfOk-weaker c.search.result _ _
    (λ found e. (e.0, rw (← c.self.view_is) e.1, λ iter b. vec-gives found iter e.0 b.0 b.1 (rw map-id at e.2)))
    c.search.ensures
