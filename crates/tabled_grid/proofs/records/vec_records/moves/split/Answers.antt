use Rattle.tabled_grid.proofs.FlatSplits.{split_size, split_more}
use Rattle.tabled_grid.proofs.records.vec_records.moves.split.Goals as goal

pub loop-preserved : goal.loop-preserved
loop-preserved g c = record {
  size = split_size _ _ _ _ c.loop-test.true _ c.loop.invariant.size c.in_ok-take_row.ensures.left;
  whole = split_more _ _ _ _ c.loop-test.true _ _ _ _ _ c.loop.invariant.whole c.in_ok-push.ensures.items c.in_ok-take_row.ensures.row c.in_ok-take_row.ensures.left;
}
