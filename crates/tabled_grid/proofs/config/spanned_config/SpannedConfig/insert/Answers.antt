use Rattle.tabled_grid.proofs.Common.{Err, false≢true}
use Rattle.tabled_grid.proofs.SortedEntries.{get-map_of, searched}
use Rattle.tabled_grid.proofs.Spans.{insert_anchor, set_anchor}
use Rattle.tabled_grid.proofs.config.spanned_config.SpannedConfig.insert.Goals as goal

pub invariant_of-self : goal.invariant_of-self
invariant_of-self c = (set_anchor _ c.self.invariant c.args.pos c.args.size c.in-Ok.i c.requires (rw c.deref.ensures.value at c.in-Ok.ensures.within) (rw c.deref.ensures.value at c.in-Ok.ensures.found)).valid

pub returns-in-Ok-clause-ok : goal.returns-in-Ok-clause-ok
returns-in-Ok-clause-ok c = rw (← c.self.view_is) (set_anchor _ c.self.invariant c.args.pos c.args.size c.in-Ok.i c.requires (rw c.deref.ensures.value at c.in-Ok.ensures.within) (rw c.deref.ensures.value at c.in-Ok.ensures.found)).is

pub invariant_of-self-in-Err : goal.invariant_of-self-in-Err
invariant_of-self-in-Err c = rw c.in_ok-insert-in-Err.ensures.items (insert_anchor _ c.self.invariant c.args.pos c.args.size c.in-Err.i c.requires (rw c.deref.ensures.value at c.in-Err.ensures.within) (rw c.deref.ensures.value at c.in-Err.ensures.found)).valid

pub returns-in_ok-insert-in-Err-clause-ok : goal.returns-in_ok-insert-in-Err-clause-ok
returns-in_ok-insert-in-Err-clause-ok c = rw (← c.self.view_is, c.in_ok-insert-in-Err.ensures.items) (insert_anchor _ c.self.invariant c.args.pos c.args.size c.in-Err.i c.requires (rw c.deref.ensures.value at c.in-Err.ensures.within) (rw c.deref.ensures.value at c.in-Err.ensures.found)).is

-- where the search found none, there was no anchor
pub returns-in_err-insert-in-Err-clause-promised : goal.returns-in_err-insert-in-Err-clause-promised
returns-in_err-insert-in-Err-clause-promised c =
    let anchors = c.self.inside.anchors.items in
    let up = c.self.invariant.sorted in
    let missed = searched anchors c.args.pos (Err c.in-Err.i) up (rw c.deref.ensures.value at c.in-Err.ensures.within) (rw c.deref.ensures.value at c.in-Err.ensures.found) in
    λ some. absurd (false≢true (rw (← c.self.view_is, get-map_of anchors c.args.pos c.self.invariant, missed) at some))
