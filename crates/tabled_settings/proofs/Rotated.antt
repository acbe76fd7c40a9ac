-- Tables turned by a quarter, or upside down.
use Rattle.std.proofs.lemmas.Grind.{common_steps}
use Rattle.tabled_settings.proofs.Common.{◌+◌, ◌-◌, ◌<◌, ◌∙◌, ◌≡◌, ◌⊎◌, Axis, Bottom, Columns, Grid, IsEven, LeadsBack, Left, Position, ReadsThrough, ReversesLines, Right, Rotate, Rows, Takes, Top, across, ap, arith, at-transposed, cell_at, columns_if, count_along, count_of, eqb, false, inl, inr, line_of, lines_from, ne_eqb, place, quarter_of, refl, rotated, subst, sym, transposed, upside_down, ℕ}
use Rattle.tabled_settings.proofs.Reversed.{whole_read}

-- there are as many columns as there were rows, where there is a row
pub as_wide : (c r : ℕ) → 0 < c → columns_if c r ≡ r
as_wide c r some = let more : eqb c 0 ≡ false = ne_eqb c 0 (λ e. omega (arith, e, some)) in rw more refl

pub into_wide : (c r j : ℕ) → 0 < c → j < r → j < columns_if c r
into_wide c r j some = subst (λ (n : ℕ). j < n) (sym (as_wide c r some))

pub out_of_wide : (c r j : ℕ) → 0 < c → j < columns_if c r → j < r
out_of_wide c r j some = subst (λ (n : ℕ). j < n) (as_wide c r some)

module _ {A : Type 0} where
  pub upside_down_done : (n : ℕ) (g new : Grid A) → n ≡ g.rows → ReversesLines Rows 0 n g new → ReadsThrough (upside_down g.rows g.columns) g new
  upside_down_done n g new is r =
      let all = whole_read Rows n g new is r in
      record { even = all.even; rows = all.rows; columns = all.columns; moved = λ p inside. all.moved p inside ∙ ap (λ (m : ℕ). cell_at g (place (m - 1 - p.row) p.col)) is }

  -- a cell across
  cell_across : (g over : Grid A) (a b : ℕ) → IsEven g → over ≡ transposed g → cell_at over (place a b) ≡ cell_at g (place b a)
  cell_across g over a b even is = ap (λ (h : Grid A). cell_at h (place a b)) is ∙ at-transposed g.columns g.cells a b even.wide

  pub quarter_done : (axis : Axis) (n : ℕ) (g over new : Grid A) → IsEven g → over ≡ transposed g → n ≡ count_along axis over → ReversesLines axis 0 n over new → ReadsThrough (rotated (quarter_of axis) g.rows g.columns) g new
  quarter_done axis n g over new even is count r = turned axis count (whole_read axis n over new count r)
    where
      high : over.rows ≡ g.columns
      high = ap (λ (h : Grid A). h.rows) is

      far : over.columns ≡ columns_if g.columns g.rows
      far = ap (λ (h : Grid A). h.columns) is

      turned : (axis : Axis) → n ≡ count_along axis over → ReadsThrough (lines_from axis (λ i. n - 1 - i) over.rows over.columns) over new → ReadsThrough (rotated (quarter_of axis) g.rows g.columns) g new
      turned Rows tall all = record { even = all.even; rows = all.rows ∙ high; columns = all.columns ∙ far; moved = λ p inside. all.moved p inside ∙ cell_across g over (n - 1 - p.row) p.col even is ∙ ap (λ (m : ℕ). cell_at g (place p.col (m - 1 - p.row))) (tall ∙ high) }
      turned Columns wide all = record { even = all.even; rows = all.rows ∙ high; columns = all.columns ∙ far; moved = λ p inside. all.moved p inside ∙ cell_across g over p.row (n - 1 - p.col) even is ∙ ap (λ (m : ℕ). cell_at g (place (m - 1 - p.col) p.row)) (wide ∙ far ∙ as_wide g.columns g.rows (omega (arith, inside.row, all.rows, high))) }

  pub top_or_bottom_done : (s : Rotate) (n : ℕ) (g new : Grid A) → (s ≡ Top) ⊎ (s ≡ Bottom) → n ≡ g.rows → ReversesLines Rows 0 n g new → ReadsThrough (rotated s g.rows g.columns) g new
  top_or_bottom_done s n g new (inl e) is r = rw e (upside_down_done n g new is r)
  top_or_bottom_done s n g new (inr e) is r = rw e (upside_down_done n g new is r)

-- a new place takes the cell of an old one, where rows and columns are exchanged and then those along an axis are reversed
pub record TakesTurned (axis : Axis) (rows columns : ℕ) (p q : Position) : Type 0 where
  pub within : line_of axis p < count_of (across axis) rows columns
  pub across_within : line_of (across axis) p < count_of axis rows columns
  pub line : line_of (across axis) p ≡ line_of axis q
  pub far : line_of axis p + line_of (across axis) q + 1 ≡ count_of (across axis) rows columns

module _ (rows columns : ℕ) (p q : Position) where
  pub takes_turned : (axis : Axis) → TakesTurned axis rows columns p q → Takes (rotated (quarter_of axis) rows columns) p q
  takes_turned Rows t = grind (arith, common_steps, into_wide)
  takes_turned Columns t = grind (arith, common_steps, into_wide)

  pub taken_turned : (axis : Axis) → Takes (rotated (quarter_of axis) rows columns) p q → TakesTurned axis rows columns p q
  taken_turned Rows t = grind (arith, common_steps, out_of_wide)
  taken_turned Columns t = grind (arith, common_steps, out_of_wide)

-- a turn to the right leads back from one to the left
pub left_leads_back : (rows columns : ℕ) → LeadsBack (rotated Left rows columns) (rotated Right columns rows)
left_leads_back rows columns = grind (arith, common_steps, taken_turned, takes_turned)
