use Rattle.tabled_grid.proofs.Common.{ap, map_of, shifted_in, sym}
use Rattle.tabled_grid.proofs.Shifts.{anchors_shifted}
use Rattle.tabled_grid.proofs.SortedEntries.{rectangles-map_of}
use Rattle.tabled_grid.proofs.config.spanned_config.SpannedConfig.shift.Goals as goal

pub invariant_of-self : goal.invariant_of-self
invariant_of-self c = rw c.shift.ensures (anchors_shifted c.args.axis c.args.from c.self.inside.anchors.items c.self.invariant)

pub returns : goal.returns
returns c = record {
  shifted = rw (← c.self.view_is, c.shift.ensures)
      (ap (λ es. map_of (shifted_in c.args.axis c.args.from es)) (sym (rectangles-map_of c.self.inside.anchors.items c.self.invariant)));
}
