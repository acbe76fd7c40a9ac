-- Rectangles lie well after a panel where they did before it.
use Rattle.tabled_spans.proofs.Common.{◌+◌, ◌<◌, ◌∙◌, ◌≡◌, ◌≤◌, ◌⊎◌, Axis, Columns, Fits, Grid, In, List, None, Panels, Position, Rows, Size, Some, SpanMap, across, and_parts, ap, ap₂, arith, cases_Bool, cases_lt, cases_place, cond, cond-true, count_along, eqb-true, false, false_from_ne_true, fits_below, fits_beside, fits_with, get, get-remove, has_room, inl, inr, is_crossed, leb-true, line_is_free, nat_eq, not-true, place_in, rectangle, same_map, shifted, sized, subst, sym, tied, with_line_at, with_panel, with_size, with_size-other, ℕ}
use borrow.Author.Tests.{ltb-true}
use Rattle.tabled_spans.proofs.PanelMaps.{no_anchor}

-- the size of one cell where there is no anchor changes nothing
pub one_cell : (m : SpanMap) (p : Position) → get m p ≡ None → with_size m p (sized 1 1) ≡ m
one_cell m p absent = same_map (with_size m p (sized 1 1)) m (λ q. elim (cases_place q p) [
  | inl e ↦ ap (get (with_size m p (sized 1 1))) e ∙ get-remove m p p ∙ cond-true _ _ _ (tied p) ∙ sym absent ∙ ap (get m) (sym e)
  | inr n ↦ with_size-other m p (sized 1 1) q n
])

-- a size over cells that no rectangle has, which may be that of one cell
pub fits_over : (m : SpanMap) (p : Position) (size : Size) (rows columns : ℕ) → get m p ≡ None → 1 ≤ size.height → 1 ≤ size.width → p.row + size.height ≤ rows → p.col + size.width ≤ columns → ((a q : Position) (s : Size) → get m a ≡ Some s → In (rectangle a s) q → In (rectangle p size) q → a ≡ p) → Fits m rows columns → Fits (with_size m p size) rows columns
fits_over m p size rows columns absent high wide down across free fits = fits_sized (cases_lt 1 size.height) (cases_lt 1 size.width)
  where
    more : (1 < size.height) ⊎ (1 < size.width) → Fits (with_size m p size) rows columns
    more h = fits_with m p size rows columns (record { height = high; width = wide; merges = h }) down across free fits

    fits_sized : (1 < size.height) ⊎ (size.height ≤ 1) → (1 < size.width) ⊎ (size.width ≤ 1) → Fits (with_size m p size) rows columns
    fits_sized (inl h) c = more (inl h)
    fits_sized (inr l) (inl h) = more (inr h)
    fits_sized (inr l) (inr k) =
        let one : size ≡ sized 1 1 = ap₂ sized (omega arith) (omega arith) in
        subst (λ (n : SpanMap). Fits n rows columns) (sym (ap (with_size m p) one ∙ one_cell m p absent)) fits

module _ {A : Type 0} where
  fits_panel : (axis : Axis) (line : ℕ) (cells : List A) (g : Grid A) (m : SpanMap) → line ≤ count_along axis g → 0 < count_along (across axis) g → is_crossed axis line m ≡ false → Fits m g.rows g.columns → Fits (with_panel axis line (count_along (across axis) g) m) ((with_line_at axis line cells g).rows) ((with_line_at axis line cells g).columns)
  fits_panel Rows line cells g m within some free fits =
      fits_over (shifted Rows line m) (place_in Rows line 0) (sized 1 g.columns) (g.rows + 1) g.columns (no_anchor Rows line m) (omega arith) (omega arith) (omega arith) (omega arith)
      (λ a q s has holds over. absurd (line_is_free Rows line m a q s free has holds (omega (arith, over.top, over.bottom)))) (fits_below m line g.rows g.columns free fits)
  fits_panel Columns line cells g m within some free fits =
      let rows : nat_eq g.rows 0 ≡ false = false_from_ne_true _ (λ e. omega (arith, eqb-true _ _ e)) in
      subst (λ b. Fits (with_panel Columns line g.rows m) g.rows (cond b g.columns (g.columns + 1))) (sym rows)
      (fits_over (shifted Columns line m) (place_in Columns line 0) (sized g.rows 1) g.rows (g.columns + 1) (no_anchor Columns line m) (omega arith) (omega arith) (omega arith) (omega arith)
      (λ a q s has holds over. absurd (line_is_free Columns line m a q s free has holds (omega (arith, over.left, over.right)))) (fits_beside m line g.rows g.columns free fits))

  pub panels_fit : (is_blank : A → Type 0) (text_of : A → List ℕ) (axis : Axis) (line : ℕ) (text : List ℕ) (g : Grid A) (m : SpanMap) (h : Grid A) (n : SpanMap) → Fits m g.rows g.columns → Panels is_blank text_of axis line text g m h n → Fits n h.rows h.columns
  panels_fit is_blank text_of axis line text g m h n fits panel = elim (cases_Bool (has_room axis line g m)) [
    | inl room ↦
        let parts = and_parts _ _ room in
        let others = and_parts _ _ parts.1 in
        let put = panel.puts room in
        rw (put.is, panel.merges room) (fits_panel axis line put.cells g m (leb-true _ _ parts.0) (ltb-true _ _ others.0) (not-true _ others.1) fits)
    | inr none ↦ let same = panel.leaves none in rw (same.0, same.1) fits
  ]

  pub same_fits : (g : Grid A) (m : SpanMap) (h : Grid A) (n : SpanMap) → Fits m g.rows g.columns → (h ≡ g) × (n ≡ m) → Fits n h.rows h.columns
  same_fits g m h n fits same = rw (same.0, same.1) fits
