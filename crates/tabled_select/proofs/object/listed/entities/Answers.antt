use Rattle.tabled_select.proofs.Common.{Entity, IfOk-weaker, List, items_from_collect, subst, sym}
use Rattle.tabled_select.proofs.object.listed.entities.Goals as goal

pub returns : goal.returns
returns g c =
    let listed = c.in_ok-cells.ensures.lists in
    IfOk-weaker c.collect.result _ _
    (λ all e. subst (λ (entities : List Entity). g.O.Object.lists c.args.object.now (g.R.GridStore.grid c.args.records.now) entities) (sym e) listed.1)
    (items_from_collect {steps = g.O.Iter.Iterator.next_gives} {s = c.in_ok-cells.field-0} c.collect.result c.collect.ensures.ran (record { runs = listed.2.gives }))
