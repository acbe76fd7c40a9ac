use Rattle.tabled_settings.proofs.Common.{◌∙◌, ap, sym}
use Rattle.tabled_settings.proofs.LineReads.{counted}
use Rattle.tabled_settings.proofs.TakenInOrder.{taken-distinct}
use Rattle.tabled_settings.specs.Kept.{taken_in_order}
use Rattle.tabled_settings.proofs.keep.keep_located.Goals as goal

pub arrange-requires-clause-once : goal.arrange-requires-clause-once
arrange-requires-clause-once g c = let m = c.in_ok-indexes.ensures in rw (m.2, c.count-count.ensures.count) (taken-distinct m.0 _)

pub returns-clause-ok : goal.returns-clause-ok
returns-clause-ok g c =
    let m = c.in_ok-indexes.ensures in
    let grid = g.R.GridStore.grid c.args.records.now in
    let indexes = m.2 ∙ ap (taken_in_order m.0) (c.count-count.ensures.count ∙ sym (counted c.args.axis grid)) in
    record { found = m.0; located = m.1; rearranged = rw indexes at c.in_ok-arrange.ensures.ok }
