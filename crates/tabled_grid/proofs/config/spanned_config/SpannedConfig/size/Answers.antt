use Rattle.tabled_grid.proofs.Common.{Err, Ok, Rectangle, ap, refl}
use Rattle.tabled_grid.proofs.SortedEntries.{get-map_of, searched}
use Rattle.tabled_grid.proofs.config.spanned_config.SpannedConfig.size.Goals as goal

pub returns-in-Ok-clause-value : goal.returns-in-Ok-clause-value
returns-in-Ok-clause-value c =
    let anchors = c.self.inside.anchors.items in
    let up = c.self.invariant.sorted in
    let found = searched anchors c.args.pos (Ok c.in-Ok.i) up (rw c.deref.ensures.value at c.in-Ok.ensures.within) (rw c.deref.ensures.value at c.in-Ok.ensures.found) in
    rw (← c.self.view_is, get-map_of anchors c.args.pos c.self.invariant, found c.index.result.now) (ap (λ (anchor : Rectangle). anchor.size) c.index.ensures)

pub returns-in-Err-clause-value : goal.returns-in-Err-clause-value
returns-in-Err-clause-value c =
    let anchors = c.self.inside.anchors.items in
    let up = c.self.invariant.sorted in
    let missed = searched anchors c.args.pos (Err c.in-Err.field-0) up (rw c.deref.ensures.value at c.in-Err.ensures.within) (rw c.deref.ensures.value at c.in-Err.ensures.found) in
    rw (← c.self.view_is, get-map_of anchors c.args.pos c.self.invariant, missed) refl
