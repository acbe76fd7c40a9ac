use Rattle.std.proofs.Common.{subst, sym}
use Rattle.tabled_grid.proofs.Common.{AreAnchors}
use Rattle.tabled_grid.proofs.SortedEntries.{rectangles_anchors}
use Rattle.tabled_html.proofs.limits.within_limits.Goals as goal

pub drop_past_limits-requires : goal.drop_past_limits-requires
drop_past_limits-requires c = subst AreAnchors (sym c.into_rectangles-anchors.ensures.rectangles) (rectangles_anchors c.args.cfg)
