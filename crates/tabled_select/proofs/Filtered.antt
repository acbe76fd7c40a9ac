-- What answers of a closure keep.
use Rattle.tabled_select.proofs.Common.{[], ◌∙◌, ◌∷◌, ◌≡◌, Bool, Filters, List, arith, false, filter, items_where_true, length, refl, subst, sym, true}
use Rattle.std.specs.List.Retain.{IsFiltered, ReturnsInTurn}

module _ {X P : Type 0} (R : P → X → Bool → P → Type 0) (answers : X → Bool → Type 0) (p : P) (says : (x : X) (b : Bool) (q : P) → R p x b q → (q ≡ p) × answers x b) where
  kept : (bs : List Bool) (xs : List X) (q : P) → length bs ≡ length xs → ReturnsInTurn R p bs xs q → Filters answers xs (items_where_true bs xs)
  kept [] [] q l r = refl
  kept [] (x ∷ xs) q l r = absurd (omega arith)
  kept (b ∷ bs) [] q l r = absurd (omega arith)
  kept (true ∷ bs) (x ∷ xs) q l r =
      let said = says x true r.0 r.1 in
      (true, items_where_true bs xs, said.1, kept bs xs q (omega arith) (subst (λ (j : P). ReturnsInTurn R j bs xs q) said.0 r.2), refl)
  kept (false ∷ bs) (x ∷ xs) q l r =
      let said = says x false r.0 r.1 in
      (false, items_where_true bs xs, said.1, kept bs xs q (omega arith) (subst (λ (j : P). ReturnsInTurn R j bs xs q) said.0 r.2), refl)

-- a closure that stays as it was, asked in turn
pub Filters-from_IsFiltered : {X P : Type 0} {R : P → X → Bool → P → Type 0} {p : P} (answers : X → Bool → Type 0) (xs ys : List X) → IsFiltered R p xs ys → ((x : X) (b : Bool) (q : P) → R p x b q → (q ≡ p) × answers x b) → Filters answers xs ys
Filters-from_IsFiltered {R = R} {p = p} answers xs ys f says = subst (λ zs. Filters answers xs zs) (sym f.4) (kept R answers p says f.0 xs f.1 f.2 f.3)

-- answers that are those of a test
pub Filters-is : {X : Type 0} (answers : X → Bool → Type 0) (test : X → Bool) → ((x : X) (b : Bool) → answers x b → b ≡ test x) → (xs kept : List X) → Filters answers xs kept → kept ≡ filter test xs
Filters-is answers test says [] kept f = f
Filters-is answers test says (x ∷ xs) kept f = f.4 ∙ rw (says x f.0 f.2, Filters-is answers test says xs f.1 f.3) refl
