use Rattle.tabled_grid.proofs.Common.{ap, map_of, not, refl, sym}
use Rattle.tabled_grid.proofs.SortedAnchors.{hidden_is}
use Rattle.tabled_grid.proofs.config.spanned_config.SpannedConfig.is_cell_visible.Goals as goal

pub returns : goal.returns
returns c = record { visible = rw (← c.self.view_is, c.is_hidden.ensures, c.deref.ensures.value) (ap not (sym (hidden_is c.self.inside.anchors.items (map_of c.self.inside.anchors.items) c.args.pos (record { valid = c.self.invariant; is = refl })))) }
