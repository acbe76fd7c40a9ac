use Rattle.tabled_grid.proofs.Spans.{no_anchor, remove_anchor}
use Rattle.tabled_grid.proofs.config.spanned_config.SpannedConfig.remove.Goals as goal

pub invariant_of-self : goal.invariant_of-self
invariant_of-self c = rw c.remove-anchor.ensures.items (remove_anchor _ c.self.invariant c.args.pos c.in-Ok.i c.remove-anchor.result (rw c.deref.ensures.value at c.in-Ok.ensures.within) (rw c.deref.ensures.value at c.in-Ok.ensures.found)).valid

pub returns-in-Ok : goal.returns-in-Ok
returns-in-Ok c = rw (← c.self.view_is, c.remove-anchor.ensures.items) (remove_anchor _ c.self.invariant c.args.pos c.in-Ok.i c.remove-anchor.result (rw c.deref.ensures.value at c.in-Ok.ensures.within) (rw c.deref.ensures.value at c.in-Ok.ensures.found)).is

pub returns-in-Err : goal.returns-in-Err
returns-in-Err c = rw (← c.self.view_is) (no_anchor _ c.self.invariant c.args.pos c.in-Err.field-0 (rw c.deref.ensures.value at c.in-Err.ensures.within) (rw c.deref.ensures.value at c.in-Err.ensures.found)).is
