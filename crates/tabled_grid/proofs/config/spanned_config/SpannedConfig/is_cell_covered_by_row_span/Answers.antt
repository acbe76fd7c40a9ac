use Rattle.tabled_grid.proofs.Common.{Rectangle, ap, list_any, reaches_down, sym}
use Rattle.tabled_grid.proofs.SortedEntries.{rectangles-map_of}
use Rattle.tabled_grid.proofs.config.spanned_config.SpannedConfig.is_cell_covered_by_row_span.Goals as goal

pub returns : goal.returns
returns c = record {
  covered = rw (← c.self.view_is, c.is_covered_down.ensures, c.deref.ensures.value)
      (ap (list_any (λ (e : Rectangle). reaches_down e c.args.pos)) (sym (rectangles-map_of c.self.inside.anchors.items c.self.invariant)));
}
