use Rattle.tabled_select.proofs.Common.{IfOk-weaker, List, items_from_collect, subst, sym}
use Rattle.tabled_select.proofs.location.found.coordinates.Goals as goal

pub returns-clause-lists : goal.returns-clause-lists
returns-clause-lists g c =
    let listed = c.in_ok-locate.ensures.lists in
    IfOk-weaker c.collect.result _ _
    (λ all e. subst (λ (found : List _). g.L.Location.locates c.args.location.now (g.R.GridStore.grid c.args.records.now) found) (sym e) listed.1)
    (items_from_collect {steps = g.L.IntoIter.IntoIter.Iterator.next_gives} {s = c.into_iter.result} c.collect.result c.collect.ensures.ran (record { runs = (listed.2 _ c.into_iter.ensures.into_iter_gives).gives }))
