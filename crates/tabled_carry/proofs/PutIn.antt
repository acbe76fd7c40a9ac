-- Merged cells once a row or a column is put in.
use Rattle.tabled_carry.proofs.Common.{[], ◌+◌, ◌∷◌, ◌≡◌, ◌≤◌, ◌⊎◌, Columns, Fits, List, Position, Rectangle, Size, Some, SpanMap, arith, cases_Bool, cond, crosses_line, eqb-true, false, false_from_ne_true, fits_beside, get, inl, inr, is_crossed, line_of, list_any, ltb-true, nat_eq, nat_lt, rectangles, refl, shifted, span_at, true, ℕ}
use Rattle.tabled_grid.specs.declared.records.axis.Axis.{Axis}

none_cross : (axis : Axis) (es : List Rectangle) → list_any (crosses_line axis 0) es ≡ false
none_cross axis [] = refl
none_cross axis (e ∷ es) =
    let before : nat_lt (line_of axis e.first) 0 ≡ false = false_from_ne_true _ (λ t. omega (arith, ltb-true _ _ t)) in
    rw (before, none_cross axis es) refl

-- no rectangle begins before the first line
pub none_crosses_the_first : (axis : Axis) (m : SpanMap) → is_crossed axis 0 m ≡ false
none_crosses_the_first axis m = none_cross axis (rectangles m)

-- without rows nothing is put in, and there are no merged cells
pub fits_beside_rows : (m : SpanMap) (j rows columns : ℕ) → is_crossed Columns j m ≡ false → Fits m rows columns → Fits (shifted Columns j m) rows (cond (nat_eq rows 0) columns (columns + 1))
fits_beside_rows m j rows columns free fits = elim (cases_Bool (nat_eq rows 0)) [
  | inl t ↦ rw t (record { each = λ e has. absurd (none (eqb-true _ _ t) e has) })
  | inr f ↦ rw f wider
]
  where
    wider : Fits (shifted Columns j m) rows (columns + 1)
    wider = fits_beside m j rows columns free fits

    -- a rectangle would have rows
    none : rows ≡ 0 → (e : Rectangle) → get (shifted Columns j m) e.first ≡ Some e.size → ⊥
    none rowless e has = omega (arith, rowless, (span_at (shifted Columns j m) e.first e.size has).height, (wider.each e has).inside.bottom)
