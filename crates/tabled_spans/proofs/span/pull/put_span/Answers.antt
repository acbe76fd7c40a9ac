use Rattle.tabled_spans.proofs.Common.{◌∙◌, Err, Ok, Rectangle, Some, ap, pairs, position_cmp, put, put_found, put_missed, rectangle, searchable, searched, sym}
use Rattle.tabled_spans.proofs.SetSizes.{span-put, size-set, size-unset, sorted-put}
use Rattle.tabled_spans.proofs.span.pull.put_span.Goals as goal

pub returns-in-Ok-clause-sorted : goal.returns-in-Ok-clause-sorted
returns-in-Ok-clause-sorted c =
    let es = c.args.changes.now.items in
    sorted-put es _ c.args.pos c.resized-size.result c.requires.sorted
    (sym (put_found es c.args.pos c.resized-size.result c.in-Ok.k (rectangle c.args.pos c.resized-size.result) c.requires.sorted (rw c.deref.ensures.value at c.in-Ok.ensures.within) ((rw c.deref.ensures.value at c.in-Ok.ensures.found) (rectangle c.args.pos c.resized-size.result))))

pub returns-in-Ok-clause-sizes : goal.returns-in-Ok-clause-sizes
returns-in-Ok-clause-sizes c =
    let es = c.args.changes.now.items in
    let found = searched es c.args.pos (Ok c.in-Ok.k) c.requires.sorted (rw c.deref.ensures.value at c.in-Ok.ensures.within) (rw c.deref.ensures.value at c.in-Ok.ensures.found) c.index.result.now in
    let has = size-set c.args.cfg.now es c.args.pos c.index.result.now.size c.requires.sorted c.requires.full (found ∙ ap (λ (e : Rectangle). Some e.size) (sym c.index.ensures)) in
    span-put c.args.cfg.now es _ c.args.axis c.args.pos c.index.result.now.size c.args.many c.requires.some c.requires.sorted has
    (sym (put_found es c.args.pos c.resized-size.result c.in-Ok.k (rectangle c.args.pos c.resized-size.result) c.requires.sorted (rw c.deref.ensures.value at c.in-Ok.ensures.within) ((rw c.deref.ensures.value at c.in-Ok.ensures.found) (rectangle c.args.pos c.resized-size.result))) ∙ ap (λ s. put position_cmp c.args.pos s (pairs es)) c.resized-size.ensures.size)

pub returns-in_ok-insert-in-Err-clause-sorted : goal.returns-in_ok-insert-in-Err-clause-sorted
returns-in_ok-insert-in-Err-clause-sorted c =
    let es = c.args.changes.now.items in
    let parts = (rw c.deref.ensures.value at c.in-Err.ensures.found) (searchable es c.args.pos c.requires.sorted) in
    sorted-put es _ c.args.pos c.resized-size-in-Err.result c.requires.sorted
    (ap pairs c.in_ok-insert-in-Err.ensures.items ∙ sym (put_missed es c.args.pos c.resized-size-in-Err.result c.in-Err.k (rw c.deref.ensures.value at c.in-Err.ensures.within) parts.0 parts.1))

pub returns-in_ok-insert-in-Err-clause-sizes : goal.returns-in_ok-insert-in-Err-clause-sizes
returns-in_ok-insert-in-Err-clause-sizes c =
    let es = c.args.changes.now.items in
    let missed = searched es c.args.pos (Err c.in-Err.k) c.requires.sorted (rw c.deref.ensures.value at c.in-Err.ensures.within) (rw c.deref.ensures.value at c.in-Err.ensures.found) in
    let parts = (rw c.deref.ensures.value at c.in-Err.ensures.found) (searchable es c.args.pos c.requires.sorted) in
    let has = size-unset c.args.cfg.now es c.args.pos c.requires.sorted missed ∙ sym c.size.ensures.value in
    span-put c.args.cfg.now es _ c.args.axis c.args.pos c.size.result c.args.many c.requires.some c.requires.sorted has
    (ap pairs c.in_ok-insert-in-Err.ensures.items ∙ sym (put_missed es c.args.pos c.resized-size-in-Err.result c.in-Err.k (rw c.deref.ensures.value at c.in-Err.ensures.within) parts.0 parts.1) ∙ ap (λ s. put position_cmp c.args.pos s (pairs es)) c.resized-size-in-Err.ensures.size)
