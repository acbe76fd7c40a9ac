use Rattle.tabled_grid.proofs.Common.{}
use Rattle.tabled_grid.proofs.SortedEntries.{rectangles-map_of}
use Rattle.tabled_grid.proofs.config.spanned_config.SpannedConfig.get_row_spans.Goals as goal

pub returns : goal.returns
returns c = record { spans = rw (← c.self.view_is, rectangles-map_of c.self.inside.anchors.items c.self.invariant) (rw c.deref.ensures.value at c.heights.ensures) }
