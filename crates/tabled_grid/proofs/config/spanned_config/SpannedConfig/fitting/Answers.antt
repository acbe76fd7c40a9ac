use Rattle.tabled_grid.proofs.Common.{rectangles}
use Rattle.tabled_grid.proofs.Fitting.{anchors-fitting}
use Rattle.tabled_grid.proofs.SortedEntries.{rectangles_anchors}
use Rattle.tabled_grid.proofs.config.spanned_config.SpannedConfig.fitting.Goals as goal

pub fitting-requires : goal.fitting-requires
fitting-requires c = rw c.rectangles.ensures.rectangles (rectangles_anchors c.args.self.now).sorted

pub from_rectangles-requires : goal.from_rectangles-requires
from_rectangles-requires c = rw (c.in_ok-kept.ensures, c.rectangles.ensures.rectangles) (anchors-fitting c.args.rows c.args.columns (rectangles c.args.self.now) (rectangles_anchors c.args.self.now))
