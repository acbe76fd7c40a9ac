use Rattle.tabled_grid.proofs.Common.{map_of, refl, sym}
use Rattle.tabled_grid.proofs.SortedAnchors.{anchors_dropped, dropped_is}
use Rattle.tabled_grid.proofs.config.spanned_config.SpannedConfig.drop_hidden.Goals as goal

pub invariant_of-self : goal.invariant_of-self
invariant_of-self c = rw c.drop_hidden.ensures (anchors_dropped c.self.inside.anchors.items c.self.invariant)

pub returns : goal.returns
returns c = record { dropped = rw (← c.self.view_is, c.drop_hidden.ensures) (sym (dropped_is c.self.inside.anchors.items (map_of c.self.inside.anchors.items) (record { valid = c.self.invariant; is = refl })).is) }
