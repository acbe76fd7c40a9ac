-- The lines of some indexes, brought to the front.
use Rattle.std.proofs.lemmas.Grind.{common_steps}
use Rattle.tabled_settings.proofs.Common.{◌+◌, ◌-◌, ◌<◌, ◌∙◌, ◌≡◌, ◌≢◌, ◌≤◌, ◌⊎◌, Axis, Bool, BringsLines, Columns, Grid, HasLines, IsEven, IsEven-first, IsInside, IsStrictlyIncreasing, KeepsLines, List, Places, ReadsThrough, Rows, SpanMap, Swapped, along, ap, ap₂, arith, carried, cases_eq, cell_at, columns_if, cond, count_along, count_in, end_index, eqb, extracted, false, first_along, first_index, get_or, get_or-range_with_len, indexes_in, inl, inr, kept_lines, length, length-range_with_len, line_cells, lines_from, min, part, place, range_with_len, refl, same_shape, shape_after, swap, sym, true, ℕ}
use Rattle.std.specs.declared.ops.Bound.{Bound}
use Rattle.tabled_settings.proofs.LineReads.{line_first, lines_read, lines_swapped, shape_swapped}
use Rattle.tabled_settings.proofs.RisingLists.{index_within, rises}

pub has_lines : {A : Type 0} (axis : Axis) (n : ℕ) (g cur new : Grid A) → n ≤ count_along axis cur → cur.rows ≡ g.rows → cur.columns ≡ g.columns → IsEven cur → new ≡ first_along axis n cur → HasLines axis n g new
has_lines {A} Rows n g cur new h rows columns even is = record {
  even = rw is (IsEven-first Rows n cur h even);
  rows = ap (λ (h : Grid A). h.rows) is;
  columns = ap (λ (h : Grid A). h.columns) is ∙ ap (columns_if n) columns;
}
has_lines {A} Columns n g cur new h rows columns even is = record {
  even = rw is (IsEven-first Columns n cur h even);
  rows = ap (λ (h : Grid A). h.rows) is ∙ rows;
  columns = ap (λ (h : Grid A). h.columns) is;
}

pub lines_are : {A : Type 0} (axis : Axis) (n : ℕ) (g new : Grid A) → HasLines axis n g new → count_along axis new ≡ n
lines_are Rows n g new s = s.rows
lines_are Columns n g new s = s.columns

module _ {A : Type 0} (axis : Axis) (kept : List ℕ) where
  pub brings_none : (g : Grid A) → IsEven g → BringsLines axis kept 0 g g
  brings_none g even = record { shape = same_shape g even; front = λ a h. absurd (omega (arith, h)); behind = λ a h past. refl }

  -- one line more
  module _ (up : IsStrictlyIncreasing kept) (k n i : ℕ) (g cur new : Grid A) (b : BringsLines axis kept k g cur) (here : k < length kept) (at : i ≡ get_or kept k 0) (is : new ≡ along axis (λ _ xs. swap xs k i) cur) (next : n ≡ k + 1) (within : i < count_along axis cur) where
    low : k ≤ i
    low = omega (arith, at, index_within kept up k here)

    moved : Swapped (line_cells axis cur) (line_cells axis new) k i
    moved = lines_swapped axis cur new k i b.shape.even (omega (arith, within, low)) within is

    front_at : (a : ℕ) → a < n → (a ≡ k) ⊎ (a ≢ k) → line_cells axis new a ≡ line_cells axis g (get_or kept a 0)
    front_at a h (inl same) =
        ap (line_cells axis new) same ∙ moved.0
        ∙ b.behind i low (λ c l. omega (arith, at, rises kept up c k l here))
        ∙ ap (line_cells axis g) (at ∙ ap (λ (m : ℕ). get_or kept m 0) (sym same))
    front_at a h (inr off) = moved.2 a off (λ same. absurd (omega (arith, same, h, next, off, low))) ∙ b.front a (omega (arith, h, off, next))

    pub brings_more : BringsLines axis kept n g new
    brings_more = record {
      shape = shape_after g cur new b.shape (shape_swapped axis cur new k i b.shape.even is);
      front = λ a h. front_at a h (cases_eq a k);
      behind = λ a h past.
          moved.2 a (λ same. absurd (omega (arith, same, h, next))) (λ same. absurd (omega (arith, same, at, past k (omega (arith, next)))))
          ∙ b.behind a (omega (arith, h, next)) (λ c l. past c (omega (arith, l, next)));
    }

  -- and the rest cut off
  pub kept_all : (k : ℕ) (g cur new : Grid A) → BringsLines axis kept k g cur → k ≡ length kept → k ≤ count_along axis cur → new ≡ first_along axis k cur → KeepsLines axis kept g new
  kept_all k g cur new b all fits cut = record {
    shape = rw (← all) (has_lines axis k g cur new fits b.shape.rows b.shape.columns b.shape.even cut);
    each = λ a h. let below : a < k = omega (arith, h, all) in line_first axis cur new k a b.shape.even below cut ∙ b.front a below;
  }

  -- they are read as they were
  pub kept_read : (g new : Grid A) → KeepsLines axis kept g new → ReadsThrough (kept_lines axis kept g.rows g.columns) g new
  kept_read g new k = lines_read axis (λ (i : ℕ). get_or kept i 0) _ _ g new k.shape.even k.shape.rows k.shape.columns (λ a h. k.each a (omega (arith, h, lines_are axis (length kept) g new k.shape)))

-- n lines from an index on
module _ {A : Type 0} (axis : Axis) (s n : ℕ) where
  -- they are at the front already, where the index is 0
  pub front_brought : (k : ℕ) (g cur : Grid A) → k ≤ n → s ≡ 0 → BringsLines axis (range_with_len s n) 0 g cur → BringsLines axis (range_with_len s n) k g cur
  front_brought k g cur within first b = grind (arith, common_steps, get_or-range_with_len)

  pub range_read : (g new : Grid A) → KeepsLines axis (range_with_len s n) g new → HasLines axis n g new × ReadsThrough (lines_from axis (λ i. s + i) new.rows new.columns) g new
  range_read g new k =
      let many = length-range_with_len s n in (
        (rw many at k.shape),
        lines_read axis (λ i. s + i) new.rows new.columns g new k.shape.even refl refl
            (λ i h.
            let within : i < n = omega (arith, h, many, lines_are axis (length (range_with_len s n)) g new k.shape) in
            k.each i (omega (arith, within, many)) ∙ ap (line_cells axis g) (get_or-range_with_len s n i 0 within)),
      )

-- no columns are kept without rows
columns_left : (b : Bool) (e c s : ℕ) → min e (cond b 0 c) - s ≡ cond b 0 (min e c - s)
columns_left true e c s = omega arith
columns_left false e c s = refl

-- rows, and then columns of these
pub extract_done : {A : Type 0} (in_rows in_columns : Bound ℕ × Bound ℕ) (rs re cs ce : ℕ) (g mid new : Grid A) → rs ≡ first_index in_rows.0 → re ≡ end_index in_rows.1 g.rows → cs ≡ first_index in_columns.0 → ce ≡ end_index in_columns.1 g.columns →
    KeepsLines Rows (indexes_in rs re g.rows) g mid → KeepsLines Columns (indexes_in cs ce mid.columns) mid new → ReadsThrough (extracted in_rows in_columns g.rows g.columns) g new
extract_done {A} in_rows in_columns rs re cs ce g mid new first_row end_row first_column end_column rows columns =
    let first = range_read Rows rs (min re g.rows - rs) g mid rows in
    let second = range_read Columns cs (min ce mid.columns - cs) mid new columns in
    let tall : mid.rows ≡ count_in in_rows g.rows = first.0.rows ∙ ap₂ (λ (e s : ℕ). min e g.rows - s) end_row first_row in
    record {
      even = second.0.even;
      rows = second.0.rows ∙ tall;
      columns = second.0.columns
          ∙ ap (λ (c : ℕ). min ce c - cs) first.0.columns
          ∙ columns_left (eqb (min re g.rows - rs) 0) ce g.columns cs
          ∙ ap₂ (λ (n m : ℕ). columns_if n m) (sym first.0.rows ∙ tall) (ap₂ (λ (e s : ℕ). min e g.columns - s) end_column first_column);
      moved = λ p inside.
          let at : IsInside mid (place p.row (cs + p.col)) = record { row = omega (arith, inside.row, second.0.rows); col = omega (arith, inside.col, second.0.columns) } in
          second.1.moved p inside
          ∙ first.1.moved (place p.row (cs + p.col)) at
          ∙ ap₂ (λ (i j : ℕ). cell_at g (place (i + p.row) (j + p.col))) first_row first_column;
    }

-- merged cells go along with them
pub extract_carried : (in_rows in_columns : Bound ℕ × Bound ℕ) (rs re cs ce rows columns r c : ℕ) (places : Places) (m k : SpanMap) → rs ≡ first_index in_rows.0 → re ≡ end_index in_rows.1 rows → cs ≡ first_index in_columns.0 → ce ≡ end_index in_columns.1 columns → rows ≡ r → columns ≡ c →
    places ≡ part rs re cs ce rows columns → k ≡ carried places rows columns m → k ≡ carried (extracted in_rows in_columns r c) r c m
extract_carried in_rows in_columns rs re cs ce rows columns r c places m k first_row end_row first_column end_column tall wide part is = rw (first_row, end_row, first_column, end_column, tall, wide) at (is ∙ ap (λ (p : Places). carried p rows columns m) part)
