use Rattle.tabled_grid.proofs.Common.{ap, crosses_line, list_any, sym}
use Rattle.tabled_grid.proofs.SortedEntries.{rectangles-map_of}
use Rattle.tabled_grid.proofs.config.spanned_config.SpannedConfig.crosses.Goals as goal

pub returns : goal.returns
returns c = record {
  crosses = rw (← c.self.view_is, c.cross.ensures, c.deref.ensures.value)
      (ap (list_any (crosses_line c.args.axis c.args.line)) (sym (rectangles-map_of c.self.inside.anchors.items c.self.invariant)));
}
