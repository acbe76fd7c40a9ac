-- How merged cells lie after spans.
use Rattle.tabled_spans.proofs.Common.{◌+◌, ◌-◌, ◌<ℤ◌, ◌<◌, ◌≡◌, ◌≤◌, AllByRecursion, Axis, Columns, DoesFirstWrites, Entity, Fits, Grid, IsFlat, LieWithin, List, Midway, None, Option, OptionKeeps, Position, Rows, Some, SpanMap, Spans, SpansFirst, are_visible, arith, back_of, cond_both, count_of, drop_hidden, fits_dropped, flat_column_span, flat_dropped, fold-keeps, grown, grown_at, grown_each, in_line, inside, inside-within, is_visible, line_of, map_grid, midway, midway_flat, midway_heightened, midway_narrow, midway_widened, min, narrow_dropped, narrow_row_span, pos, pulled, pulled_at, refl, size_at, span_writes, spanned, suc, take, taken, true, with_span, within_high, within_wide, ℕ, ℤ}
use Rattle.tabled_options.proofs.Keeps.{keeps_same_or}
use Rattle.tabled_options.proofs.Shapes.{shape_texts}
use Rattle.tabled_spans.proofs.FreeCells.{all_pass}
use Rattle.tabled_spans.proofs.SpanChanges.{index_within}

-- a span over visible cells of a table keeps what holds in the middle
midway_visible : (axis : Axis) (m : SpanMap) (p : Position) (many rows columns : ℕ) → 1 ≤ many → p.row < rows → p.col < columns → line_of axis p + many ≤ count_of axis rows columns → are_visible axis m p many ≡ true → Midway m rows columns → Midway (with_span axis m p many) rows columns
midway_visible Columns m p many rows columns some row col fits all mid = midway_widened m p many some rows columns row fits (all_pass (is_visible m) Columns p p.col many all) mid
midway_visible Rows m p many rows columns some row col fits all mid = midway_heightened m p many some rows columns col fits (all_pass (is_visible m) Rows p p.row many all) mid

-- what a span over visible cells keeps where it is made, it keeps
grown-keeps : (P : SpanMap → Type 0) (axis : Axis) (size n : ℕ) (m : SpanMap) (p : Position) → (are_visible axis m p (min size (n - line_of axis p)) ≡ true → P (with_span axis m p (min size (n - line_of axis p)))) → P m → P (grown_at axis size n m p)
grown-keeps P axis size n m p made kept = cond_both (are_visible axis m p (min size (n - line_of axis p))) _ _ P made (λ hidden. kept)

midway_grown : (axis : Axis) (size rows columns : ℕ) → 1 ≤ size → (m : SpanMap) (p : Position) → p.row < rows → p.col < columns → Midway m rows columns → Midway (grown_at axis size (count_of axis rows columns) m p) rows columns
midway_grown axis size rows columns least m p row col mid =
    let room = index_within axis p rows columns row col in
    grown-keeps (λ k. Midway k rows columns) axis size (count_of axis rows columns) m p (λ t. midway_visible axis m p (min size (count_of axis rows columns - line_of axis p)) rows columns (omega arith) row col (omega arith) t mid) mid

-- spans at places of a table, one after another, keep what holds in the middle
pub midway_each : (axis : Axis) (size : ℕ) (places : List Position) (m : SpanMap) (rows columns : ℕ) → 1 ≤ size → AllByRecursion (λ (p : Position). (p.row < rows) × (p.col < columns)) places → Midway m rows columns → Midway (grown_each axis size (count_of axis rows columns) m places) rows columns
midway_each axis size places m rows columns least within mid = fold-keeps (λ k. Midway k rows columns) (grown_at axis size (count_of axis rows columns)) rows columns (midway_grown axis size rows columns least) places m within mid

-- spans of size at least 1 keep merged cells inside and apart
fits_grown : (axis : Axis) (size : ℕ) (e : Entity) (m : SpanMap) (rows columns : ℕ) → 1 ≤ size → Fits m rows columns → Fits (grown axis size e rows columns m) rows columns
fits_grown axis size e m rows columns least fits = fits_dropped _ rows columns (midway_each axis size (inside e rows columns) m rows columns least (inside-within e rows columns) (midway m rows columns fits))

-- merged cells of one row, or of one column, inside a table
record AreFlat (axis : Axis) (m : SpanMap) (rows columns : ℕ) : Type 0 where
  pub flat : IsFlat axis m
  pub within : LieWithin (size_at m) rows columns

flat_span : (axis : Axis) (m : SpanMap) (p : Position) (many rows columns : ℕ) → 1 ≤ many → p.row < rows → p.col < columns → line_of axis p + many ≤ count_of axis rows columns → AreFlat axis m rows columns → AreFlat axis (with_span axis m p many) rows columns
flat_span Columns m p many rows columns some row col fits flat = record { flat = flat_column_span m p many some flat.flat; within = within_wide m p many some rows columns row fits flat.within }
flat_span Rows m p many rows columns some row col fits flat = record { flat = narrow_row_span m p many some flat.flat; within = within_high m p many some rows columns col fits flat.within }

flat_grown : (axis : Axis) (size rows columns : ℕ) → 1 ≤ size → (m : SpanMap) (p : Position) → p.row < rows → p.col < columns → AreFlat axis m rows columns → AreFlat axis (grown_at axis size (count_of axis rows columns) m p) rows columns
flat_grown axis size rows columns least m p row col flat =
    let room = index_within axis p rows columns row col in
    grown-keeps (λ k. AreFlat axis k rows columns) axis size (count_of axis rows columns) m p (λ t. flat_span axis m p (min size (count_of axis rows columns - line_of axis p)) rows columns (omega arith) row col (omega arith) flat) flat

-- the place in another row or column of the table is in the table
moved : (axis : Axis) (p : Position) (k many rows columns : ℕ) → p.row < rows → p.col < columns → k < count_of axis rows columns → ((in_line axis p k).row < rows) × ((in_line axis p k).col < columns)
moved Rows p k many rows columns row col h = (h, col)
moved Columns p k many rows columns row col h = (row, h)

pub index_moved : (axis : Axis) (p : Position) (k : ℕ) → line_of axis (in_line axis p k) ≡ k
index_moved Rows p k = refl
index_moved Columns p k = refl

-- the cells that a span takes are in its line
record Takes (cells : ℕ × ℕ) (n : ℕ) : Type 0 where
  pub some : 1 ≤ cells.1
  pub within : cells.0 + cells.1 ≤ n

takes : (back : Option ℕ) (n j : ℕ) → j < n → Takes (taken back n j) n
takes None n j h = record { some = omega arith; within = omega arith }
takes (Some back) n j h = record { some = omega arith; within = omega arith }

flat_pulled : (axis : Axis) (back : Option ℕ) (rows columns : ℕ) (m : SpanMap) (p : Position) → p.row < rows → p.col < columns → AreFlat axis m rows columns → AreFlat axis (pulled_at axis back (count_of axis rows columns) m p) rows columns
flat_pulled axis back rows columns m p row col flat =
    let n = count_of axis rows columns in
    let cells = taken back n (line_of axis p) in
    let t = takes back n (line_of axis p) (index_within axis p rows columns row col) in
    let there = moved axis p cells.0 cells.1 rows columns row col (omega (arith, t.some, t.within)) in
    flat_span axis m (in_line axis p cells.0) cells.1 rows columns t.some there.0 there.1 (rw (index_moved axis p cells.0) t.within) flat

flat_dropped_along : (axis : Axis) (m : SpanMap) (rows columns : ℕ) → AreFlat axis m rows columns → Fits (drop_hidden m) rows columns × IsFlat axis (drop_hidden m)
flat_dropped_along Columns m rows columns flat = (fits_dropped m rows columns (midway_flat m rows columns flat.flat flat.within), flat_dropped m flat.flat)
flat_dropped_along Rows m rows columns flat = (fits_dropped m rows columns (midway_narrow m rows columns flat.flat flat.within), narrow_dropped m flat.flat)

-- spans of any size along lines keep merged cells of one line so, inside and apart
pub flat_spanned : (axis : Axis) (size : ℤ) (e : Entity) (m : SpanMap) (rows columns : ℕ) → Fits m rows columns → IsFlat axis m → Fits (spanned axis size e rows columns m) rows columns × IsFlat axis (spanned axis size e rows columns m)
flat_spanned axis size e m rows columns fits flat = flat_of_any_size size
  where
    start : AreFlat axis m rows columns
    start = record { flat = flat; within = (midway m rows columns fits).within }

    all : (back : Option ℕ) → Fits (pulled axis back e rows columns m) rows columns × IsFlat axis (pulled axis back e rows columns m)
    all back = flat_dropped_along axis _ rows columns (fold-keeps (λ k. AreFlat axis k rows columns) (pulled_at axis back (count_of axis rows columns)) rows columns (flat_pulled axis back rows columns) (inside e rows columns) m (inside-within e rows columns) start)

    flat_of_any_size : (s : ℤ) → Fits (spanned axis s e rows columns m) rows columns × IsFlat axis (spanned axis s e rows columns m)
    flat_of_any_size (pos (suc s)) = flat_dropped_along axis _ rows columns (fold-keeps (λ k. AreFlat axis k rows columns) (grown_at axis (suc s) (count_of axis rows columns)) rows columns (flat_grown axis (suc s) rows columns (omega arith)) (inside e rows columns) m (inside-within e rows columns) start)
    flat_of_any_size s = all (back_of s)

module _ {A : Type 0} (text_of : A → List ℕ) (axis : Axis) (size : ℤ) (e : Entity) (P : SpanMap → ℕ → ℕ → Type 0) where
  -- what a span keeps of the merged cells of a table, the option keeps, also where it is refused
  pub option_keeps : ((m : SpanMap) (rows columns : ℕ) → P m rows columns → P (spanned axis size e rows columns m) rows columns) → OptionKeeps (λ (g : Grid A) (c : SpanMap). P c g.rows g.columns) (Spans text_of axis size e) (SpansFirst text_of axis size e)
  option_keeps keeps = record {
    done = λ old cfg new new_cfg holds s.
        let shape = shape_texts text_of (span_writes axis size e (map_grid text_of old)) old new cfg cfg s.texts refl in
        rw (shape.0, shape.1, s.spans) (keeps cfg old.rows old.columns holds);
    refused = keeps_same_or (λ (g : Grid A) (c : SpanMap). P c g.rows g.columns) (DoesFirstWrites text_of (span_writes axis size e)) (λ old cfg new new_cfg holds w.
        let shape = shape_texts text_of (take w.0.count (span_writes axis size e (map_grid text_of old))) old new cfg new_cfg w.0.is w.1 in
        rw (shape.0, shape.1, shape.2) holds);
  }

pub fits_spanned : (axis : Axis) (size : ℤ) (e : Entity) → pos 0 <ℤ size → (m : SpanMap) (rows columns : ℕ) → Fits m rows columns → Fits (spanned axis size e rows columns m) rows columns
fits_spanned axis (pos (suc s)) e positive m rows columns fits = fits_grown axis (suc s) e m rows columns (omega arith) fits
fits_spanned axis _ e positive m rows columns fits = absurd (omega (arith, positive))
