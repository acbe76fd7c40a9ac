use Rattle.tabled_grid.proofs.Common.{Rectangle, ap, list_any, reaches_across, sym}
use Rattle.tabled_grid.proofs.SortedEntries.{rectangles-map_of}
use Rattle.tabled_grid.proofs.config.spanned_config.SpannedConfig.is_cell_covered_by_column_span.Goals as goal

pub returns : goal.returns
returns c = record {
  covered = rw (← c.self.view_is, c.is_covered_across.ensures, c.deref.ensures.value)
      (ap (list_any (λ (e : Rectangle). reaches_across e c.args.pos)) (sym (rectangles-map_of c.self.inside.anchors.items c.self.invariant)));
}
