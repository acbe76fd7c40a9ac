use Rattle.tabled_grid.proofs.MergedAnchors.{with_sizes_make}
use Rattle.tabled_grid.proofs.config.spanned_config.SpannedConfig.set_sizes.Goals as goal

pub invariant_of-self : goal.invariant_of-self
invariant_of-self c =
    let made = with_sizes_make c.self.inside.anchors.items c.args.sizes.now c.self.invariant c.requires.each in
    rw (c.in-Ok.ensures, c.deref.ensures.value) made.valid

pub returns-in-Ok-clause-ok : goal.returns-in-Ok-clause-ok
returns-in-Ok-clause-ok c =
    let made = with_sizes_make c.self.inside.anchors.items c.args.sizes.now c.self.invariant c.requires.each in
    rw (← c.self.view_is, c.in-Ok.ensures, c.deref.ensures.value) made.is
