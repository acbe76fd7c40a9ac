-- Tables turned twice, and places that are taken once.
use Rattle.std.proofs.lemmas.Grind.{common_steps}
use Rattle.tabled_settings.proofs.Common.{◌-◌, ◌<◌, ◌∙◌, ◌≡◌, Axis, Bottom, Grid, IsEven, IsInside, IsTakenOnce, Left, Offset, Places, Position, ReadsThrough, Right, Rotate, Rows, Top, ap, arith, cell_at, count_of, half_rotated, limit_end, nat_tests, place, refl, reversed, reversed_index, rotated, subst, upside_down, ℕ}
use Rattle.tabled_settings.proofs.Rotated.{as_wide, left_leads_back, into_wide}
use Rattle.tabled_settings.proofs.ThereAndBack.{as_it_was, lines_twice, leads_there, lines_once, taken_once}

-- read in the shape that a grid has
reshaped : {A : Type 0} (places : ℕ → ℕ → Places) (r c : ℕ) (h l : Grid A) → h.rows ≡ r → h.columns ≡ c → ReadsThrough (places h.rows h.columns) h l → ReadsThrough (places r c) h l
reshaped places r c h l rows columns reads = subst (λ (m : ℕ). ReadsThrough (places m c) h l) rows (subst (λ (n : ℕ). ReadsThrough (places h.rows n) h l) columns reads)

module _ {A : Type 0} (g h l : Grid A) where
  pub left_then_right : IsEven g → 0 < g.rows → 0 < g.columns → ReadsThrough (rotated Left g.rows g.columns) g h → ReadsThrough (rotated Right h.rows h.columns) h l → l ≡ g
  left_then_right even some any first second =
      let wide : h.columns ≡ g.rows = first.columns ∙ as_wide g.columns g.rows any in
      as_it_was (rotated Left g.rows g.columns) (rotated Right g.columns g.rows) (left_leads_back g.rows g.columns) g h l even refl (as_wide g.rows g.columns some)
      (λ q h k. (place (g.columns - 1 - q.col) q.row, record { row = h; col = k; from = refl }))
      first (reshaped (rotated Right) g.columns g.rows h l first.rows wide second)

  pub left_twice : 0 < g.rows → 0 < g.columns → ReadsThrough (rotated Left g.rows g.columns) g h → ReadsThrough (rotated Left h.rows h.columns) h l → ReadsThrough (half_rotated g.rows g.columns) g l
  left_twice some any first second =
      let wide : h.columns ≡ g.rows = first.columns ∙ as_wide g.columns g.rows any in
      let columns : l.columns ≡ g.columns = second.columns ∙ as_wide h.columns h.rows (omega (arith, wide, some)) ∙ first.rows in
      record {
        even = second.even;
        rows = second.rows ∙ wide;
        columns = columns;
        moved = λ p inside.
            let at : IsInside h (place p.col (h.columns - 1 - p.row)) = record { row = omega (arith, inside.col, columns, first.rows); col = omega (arith, inside.row, second.rows) } in
            second.moved p inside ∙ first.moved (place p.col (h.columns - 1 - p.row)) at
            ∙ ap (λ (n : ℕ). cell_at g (place (n - 1 - p.row) (g.columns - 1 - p.col))) wide;
      }

pub top_twice : {A : Type 0} (g h l : Grid A) → IsEven g → ReadsThrough (upside_down g.rows g.columns) g h → ReadsThrough (upside_down h.rows h.columns) h l → l ≡ g
top_twice g h l even first second = lines_twice Rows (λ i. g.rows - 1 - i) g.rows g.columns (λ i below. (omega (arith, below), omega (arith, below))) g h l even refl refl first (reshaped upside_down g.rows g.columns h l first.rows first.columns second)

-- an index that is reversed twice is the index, and it stays below n
pub reversed_back : (s e n i : ℕ) → reversed_index s e n (reversed_index s e n i) ≡ i
reversed_back s e n i = grind (arith, nat_tests)

pub reversed_below : (s e n i : ℕ) → i < n → reversed_index s e n i < n
reversed_below s e n i h = grind (arith, nat_tests)

pub reversed_twice : {A : Type 0} (axis : Axis) (s : ℕ) (limit : Offset) (g h l : Grid A) → IsEven g → ReadsThrough (reversed axis s limit g.rows g.columns) g h → ReadsThrough (reversed axis s limit h.rows h.columns) h l → l ≡ g
reversed_twice axis s limit g h l even first second =
    let n : ℕ = count_of axis g.rows g.columns in
    let e : ℕ = limit_end limit s n in
    lines_twice axis (reversed_index s e n) g.rows g.columns (λ i below. (reversed_below s e n i below, reversed_back s e n i)) g h l even refl refl first (reshaped (reversed axis s limit) g.rows g.columns h l first.rows first.columns second)

upside_down_once : (rows columns : ℕ) (q : Position) → q.row < rows → q.col < columns → IsTakenOnce (upside_down rows columns) q
upside_down_once rows columns = lines_once Rows (λ i. rows - 1 - i) rows columns (λ i h. (omega (arith, h), omega (arith, h)))

pub rotated_once : (s : Rotate) (rows columns : ℕ) (q : Position) → q.row < rows → q.col < columns → IsTakenOnce (rotated s rows columns) q
rotated_once Left rows columns q h k =
    taken_once (rotated Left rows columns) (rotated Right columns rows) (left_leads_back rows columns) (place (columns - 1 - q.col) q.row) q
    (record { row = h; col = into_wide rows columns q.col (omega (arith, h)) k; from = refl })
rotated_once Right rows columns q h k =
    taken_once (rotated Right rows columns) (rotated Left columns rows) (leads_there (rotated Left columns rows) (rotated Right rows columns) (left_leads_back columns rows)) (place q.col (rows - 1 - q.row)) q
    (record { row = h; col = into_wide rows columns q.col (omega (arith, h)) k; from = refl })
rotated_once Top rows columns q h k = upside_down_once rows columns q h k
rotated_once Bottom rows columns q h k = upside_down_once rows columns q h k

pub reversed_once : (axis : Axis) (s : ℕ) (limit : Offset) (rows columns : ℕ) (q : Position) → q.row < rows → q.col < columns → IsTakenOnce (reversed axis s limit rows columns) q
reversed_once axis s limit rows columns = grind (arith, common_steps, lines_once, reversed_below, reversed_back)
