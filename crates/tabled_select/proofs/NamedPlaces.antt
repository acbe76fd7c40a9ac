-- The places that entities name in a table.
use Rattle.tabled_select.proofs.Common.{[], ◌++◌, ◌<◌, ◌∙◌, ◌∷◌, ◌≡◌, AllByRecursion, Entity, List, Position, all-append, ap, append_assoc, flat, inside, inside-within, refl, sym, ℕ}

-- a place lies in a table
abbrev pub IsWithin : ℕ → ℕ → Position → Type 0
IsWithin rows columns p = (p.row < rows) × (p.col < columns)

-- what entities name in a table lies in it
pub flat-within : (entities : List Entity) (rows columns : ℕ) → AllByRecursion (IsWithin rows columns) (flat entities rows columns)
flat-within [] rows columns = tt
flat-within (e ∷ entities) rows columns = all-append (IsWithin rows columns) (inside e rows columns) (flat entities rows columns) (inside-within e rows columns) (flat-within entities rows columns)

-- of two lists of entities, one after the other
pub flat-append : (a b : List Entity) (rows columns : ℕ) → flat (a ++ b) rows columns ≡ flat a rows columns ++ flat b rows columns
flat-append [] b rows columns = refl
flat-append (e ∷ a) b rows columns = ap (λ ps. inside e rows columns ++ ps) (flat-append a b rows columns) ∙ sym (append_assoc (inside e rows columns) (flat a rows columns) (flat b rows columns))
