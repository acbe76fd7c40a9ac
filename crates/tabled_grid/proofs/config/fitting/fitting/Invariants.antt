use Rattle.tabled_grid.proofs.MetAnchors.{KeepsFittingBefore}
use Rattle.tabled_grid.proofs.config.fitting.fitting.Given as goal

abbrev pub invariant-loop-i : goal.invariant-loop-i
invariant-loop-i l = KeepsFittingBefore l.rows l.columns l.anchors l.i l.kept.items l.marks.items
