-- Lists that are gone over from the front.
use Rattle.tabled_steps.proofs.Common.{[], ◌∷◌, AlwaysYields, Entity, List, ap, arith, length, subst, sym}
use Rattle.std.specs.Iterator.{YieldsFirst}

abbrev head : Entity → List Entity → Entity
head other [] = other
head other (e ∷ es) = e

abbrev tail : List Entity → List Entity
tail [] = []
tail (e ∷ es) = es

-- a list gives its items
pub gives_items : (es : List Entity) → AlwaysYields (YieldsFirst (λ (s : List Entity). s)) (λ (e : Entity). e) es es
gives_items [] = λ x left p. omega (arith, ap length p)
gives_items (e ∷ es) = (
  (λ left p. omega (arith, ap length p.0)),
  λ x left p. (sym (ap (head e) p), subst (λ s. AlwaysYields (YieldsFirst (λ (s : List Entity). s)) (λ (e : Entity). e) s es) (ap tail p) (gives_items es)),
)
