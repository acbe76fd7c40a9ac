use Rattle.tabled_spans.proofs.Common.{[], ◌∙◌, ◌∷◌, ◌≡◌, Bool, IsCoverOf, Size, ap, are_visible, if◌then◌else◌, false, rectangle, resized, size_at, subst, sym, true, with_size, with_sizes}
use Rattle.tabled_spans.proofs.span.grow.grow_at.Goals as goal

pub returns-then-not-is_free-clause-cover : goal.returns-then-not-is_free-clause-cover
returns-then-not-is_free-clause-cover c = λ m is _.
    let axis = c.args.axis in
    let p = c.args.pos in
    let hidden : are_visible axis m p c.args.many ≡ false = sym (c.is_free.ensures m is) ∙ c.if-not-is_free.true in
    subst (λ (b : Bool). IsCoverOf (with_sizes m (if b then rectangle p (resized axis (size_at m p) c.args.many) ∷ [] else [])) c.args.cover.now) (sym hidden) is

pub returns-clause-cover : goal.returns-clause-cover
returns-clause-cover c = λ m is at.
    let axis = c.args.axis in
    let p = c.args.pos in
    let many = c.args.many in
    let shown : are_visible axis m p many ≡ true = sym (c.is_free.ensures m is) ∙ c.if-not-is_free.false in
    let new : c.resized-new.result ≡ resized axis (size_at m p) many = c.resized-new.ensures.size ∙ ap (λ (s : Size). resized axis s many) (c.size-old.ensures.value ∙ sym at) in
    let set = subst (λ (s : Size). IsCoverOf (with_size m p s) c.replace.new.self) new (c.replace.ensures.cover m is (at ∙ sym c.size-old.ensures.value)) in
    subst (λ (b : Bool). IsCoverOf (with_sizes m (if b then rectangle p (resized axis (size_at m p) many) ∷ [] else [])) c.replace.new.self) (sym shown) set
