use Rattle.tabled_grid.proofs.Common.{◌∙◌, sym}
use Rattle.tabled_grid.proofs.SortedEntries.{rectangles-map_of}
use Rattle.tabled_grid.proofs.config.spanned_config.SpannedConfig.rectangles.Goals as goal

pub returns : goal.returns
returns c = record { rectangles = rw (← c.self.view_is) (c.deref.ensures.value ∙ sym (rectangles-map_of c.self.inside.anchors.items c.self.invariant)) }
