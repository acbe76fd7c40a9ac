-- Rows that become columns, by their places.
use Rattle.tabled_grid.proofs.Common.{◌<◌, ◌∙◌, ◌≡◌, AllByRecursion, FillsThrough, Grid, IsEven, List, TakesOnce, ap, arith, common_steps, cond, eqb, false, length, ne_eqb, place, refl, subst, sym, transposed, transposed_rows, turned_places, ℕ}
use Rattle.tabled_grid.proofs.Transposed.{at-transposed, length-transposed, same_rows, wide-transposed}

abbrev grid : {A : Type 0} → ℕ → ℕ → List (List A) → Grid A
grid rows columns cells = record { rows = rows; columns = columns; cells = cells }

pub same_grid : {A : Type 0} (r s c d : ℕ) (xs ys : List (List A)) → r ≡ s → c ≡ d → xs ≡ ys → grid r c xs ≡ grid s d ys
same_grid r s c d xs ys e f g = rw (e, f, g) refl

module _ {A : Type 0} (old : Grid A) where
  pub turned_once : TakesOnce (turned_places old.rows old.columns) old
  turned_once = grind (arith, common_steps)

  pub turned_all : (is_blank : A → Type 0) (new : Grid A) → IsEven old → 0 < old.columns → FillsThrough is_blank (turned_places old.rows old.columns) old new → new ≡ transposed old
  turned_all is_blank new even some fills =
      let more : eqb old.columns 0 ≡ false = ne_eqb old.columns 0 (λ e. omega (arith, e, some)) in
      let wide : new.columns ≡ cond (eqb old.columns 0) 0 old.rows = fills.reads.columns ∙ sym (ap (λ b. cond b 0 old.rows) more) in
      let cells : new.cells ≡ transposed_rows old.columns old.cells =
      same_rows old.columns old.rows new.cells (transposed_rows old.columns old.cells)
      (fills.reads.even.tall ∙ fills.reads.rows) (length-transposed old.columns old.cells even.wide)
      (rw fills.reads.columns at fills.reads.even.wide)
      (subst (λ (n : ℕ). AllByRecursion (λ (row : List A). length row ≡ n) (transposed_rows old.columns old.cells)) even.tall (wide-transposed old.columns old.cells))
      (λ a b h k. fills.reads.moved (place a b) (record { row = omega (arith, h, fills.reads.rows); col = omega (arith, k, fills.reads.columns) }) ∙ sym (at-transposed old.columns old.cells a b even.wide)) in
      same_grid new.rows old.columns new.columns (cond (eqb old.columns 0) 0 old.rows) new.cells (transposed_rows old.columns old.cells) fills.reads.rows wide cells
