-- The map with a panel.
use Rattle.tabled_spans.proofs.Common.{◌∙◌, ◌≡◌, ◌≤◌, Axis, Columns, Comes, None, Position, Rows, Size, SpanMap, across, ap, arith, at, came, column_span-is, get, line_of, moves, none, place_in, refl, row_span-is, shifted, size_at, size_at-none, sized, some, stays, with_panel, with_size, with_span, ℕ}

starts : (axis : Axis) (line : ℕ) → line_of axis (place_in axis line 0) ≡ line
starts Rows line = refl
starts Columns line = refl

-- nothing comes to the line that is put in
comes_beside : (axis : Axis) (line : ℕ) (old a : Position) → Comes axis line old a → line_of axis a ≡ line → ⊥
comes_beside Rows line old a (stays before is) same = omega (arith, before, ap (λ (p : Position). p.row) is, same)
comes_beside Rows line old a (moves after is) same = omega (arith, after, ap (λ (p : Position). p.row) is, same)
comes_beside Columns line old a (stays before is) same = omega (arith, before, ap (λ (p : Position). p.col) is, same)
comes_beside Columns line old a (moves after is) same = omega (arith, after, ap (λ (p : Position). p.col) is, same)

pub no_anchor : (axis : Axis) (line : ℕ) (m : SpanMap) → get (shifted axis line m) (place_in axis line 0) ≡ None
no_anchor axis line m = elim (at (shifted axis line m) (place_in axis line 0)) [
  | none e ↦ e
  | some size e ↦ let it = came axis line m (place_in axis line 0) size e in absurd (comes_beside axis line it.old (place_in axis line 0) it.comes (starts axis line))
]

pub panel_merged : (axis : Axis) (line many : ℕ) (m : SpanMap) → 1 ≤ many → with_span (across axis) (shifted axis line m) (place_in axis line 0) many ≡ with_panel axis line many m
panel_merged Rows line many m h =
    let here : size_at (shifted Rows line m) (place_in Rows line 0) ≡ sized 1 1 = size_at-none (shifted Rows line m) (place_in Rows line 0) (no_anchor Rows line m) in
    column_span-is (shifted Rows line m) (place_in Rows line 0) many h ∙ ap (λ (s : Size). with_size (shifted Rows line m) (place_in Rows line 0) (sized s.height many)) here
panel_merged Columns line many m h =
    let here : size_at (shifted Columns line m) (place_in Columns line 0) ≡ sized 1 1 = size_at-none (shifted Columns line m) (place_in Columns line 0) (no_anchor Columns line m) in
    row_span-is (shifted Columns line m) (place_in Columns line 0) many h ∙ ap (λ (s : Size). with_size (shifted Columns line m) (place_in Columns line 0) (sized many s.width)) here
