-- Lines in the opposite order, by swaps from both ends.
use Rattle.std.proofs.lemmas.Grind.{common_steps}
use Rattle.tabled_settings.proofs.Common.{◌+◌, ◌-◌, ◌<◌, ◌∙◌, ◌≡◌, ◌≢◌, ◌≤◌, ◌⊎◌, Axis, Columns, Grid, IsEven, List, Offset, ReadsThrough, ReversesEnds, ReversesLines, Swapped, add-one, along, ap, arith, cases_eq, cases_lt, count_along, inl, inr, le-leb, limit_end, line_cells, lines_from, lt-ltb, map, map-id, map-map, nat_tests, refl, reversed, reversed_index, same_count, same_shape, shape_after, subst, suc, swap, sym, zero, ℕ}
use Rattle.tabled_settings.proofs.LineReads.{counted, lines_read, lines_swapped, shape_swapped}

module _ {A : Type 0} (axis : Axis) (s e : ℕ) where
  pub ends_none : (g : Grid A) → IsEven g → ReversesEnds axis s e 0 g g
  ends_none g even = grind (arith, common_steps, same_shape)

  -- one swap more
  module _ (k n low high : ℕ) (g cur new : Grid A) (r : ReversesEnds axis s e k g cur) (is : new ≡ along axis (λ _ xs. swap xs low high) cur)
      (next : n ≡ k + 1) (at_low : low ≡ s + k) (at_high : high + k + 1 ≡ e) (apart : low < high) (within : high < count_along axis cur) where
    moved : Swapped (line_cells axis cur) (line_cells axis new) low high
    moved = lines_swapped axis cur new low high r.shape.even (omega (arith, apart, within)) within is

    front_at : (i : ℕ) → s ≤ i → i < s + n → (i ≡ low) ⊎ (i ≢ low) → line_cells axis new i ≡ line_cells axis g (s + e - 1 - i)
    front_at i h l (inl at) = grind (arith, common_steps, moved)
    front_at i h l (inr off) = moved.2 i off (λ at. absurd (omega (arith, at, l, off, next, at_low, apart))) ∙ r.front i h (omega (arith, l, off, next, at_low))

    back_at : (i : ℕ) → e ≤ i + n → i < e → (i ≡ high) ⊎ (i ≢ high) → line_cells axis new i ≡ line_cells axis g (s + e - 1 - i)
    back_at i h l (inl at) = grind (arith, common_steps, moved)
    back_at i h l (inr off) = moved.2 i (λ at. absurd (omega (arith, at, h, off, next, at_high, apart))) off ∙ r.back i (omega (arith, h, off, next, at_high)) l

    pub ends_more : ReversesEnds axis s e n g new
    ends_more = record {
      shape = shape_after g cur new r.shape (shape_swapped axis cur new low high r.shape.even is);
      front = λ i h l. front_at i h l (cases_eq i low);
      back = λ i h l. back_at i h l (cases_eq i high);
      between = λ i h l. moved.2 i (λ at. absurd (omega (arith, at, h, next, at_low))) (λ at. absurd (omega (arith, at, l, next, at_high))) ∙ r.between i (omega (arith, h, next)) (omega (arith, l, next));
      outside = λ i h. off i h;
    }
      where
        off : (i : ℕ) → (i < s) ⊎ (e ≤ i) → line_cells axis new i ≡ line_cells axis g i
        off i (inl less) = moved.2 i (λ at. absurd (omega (arith, at, less, at_low))) (λ at. absurd (omega (arith, at, less, at_low, apart))) ∙ r.outside i (inl less)
        off i (inr more) = moved.2 i (λ at. absurd (omega (arith, at, more, at_high, apart))) (λ at. absurd (omega (arith, at, more, at_high))) ∙ r.outside i (inr more)

  -- all of them
  pub ends_all : (k : ℕ) (g new : Grid A) → s + k ≤ e → e ≤ s + k + k + 1 → ReversesEnds axis s e k g new → ReversesLines axis s e g new
  ends_all k g new fits all r = grind (arith, common_steps)

-- a row after some swaps from both ends
pub ends : {A : Type 0} → ℕ → ℕ → ℕ → List A → List A
ends s e zero xs = xs
ends s e (suc k) xs = swap (ends s e k xs) (s + k) (e - 1 - k)

pub ends_start : {A : Type 0} (s e : ℕ) (xs : List A) → ends s e 0 xs ≡ xs
unfolding ends
ends_start s e xs = refl

pub ends_next : {A : Type 0} (s e k : ℕ) (xs : List A) → ends s e (k + 1) xs ≡ swap (ends s e k xs) (s + k) (e - 1 - k)
unfolding ends
ends_next s e k xs = ap (λ (n : ℕ). ends s e n xs) (add-one k)

-- the columns of rows after these
pub ends_of_rows : {A : Type 0} (s e k : ℕ) (g : Grid A) → IsEven g → s + k + k ≤ e → e ≤ g.columns → ReversesEnds Columns s e k g (record g { cells = map (ends s e k) g.cells })
unfolding ends
ends_of_rows s e zero g even fits within = subst (λ (rows : List (List _)). ReversesEnds Columns s e 0 g (record g { cells = rows })) (sym (map-id g.cells)) (ends_none Columns s e g even)
ends_of_rows s e (suc k) g even fits within =
    ends_more Columns s e k (suc k) (s + k) (e - 1 - k) g (record g { cells = map (ends s e k) g.cells }) _ (ends_of_rows s e k g even (omega (arith, fits)) within) (ap (λ (rows : List (List _)). record g { cells = rows }) (sym (map-map _ _ g.cells))) (omega arith) refl (omega (arith, fits)) (omega (arith, fits)) (omega (arith, fits, within))

-- the index where a line comes from
pub index_inside : (s e n i : ℕ) → e ≤ n → s ≤ i → i < e → reversed_index s e n i ≡ s + e - 1 - i
index_inside s e n i fits h l = rw (le-leb e n fits, le-leb s i h, lt-ltb i e l) refl

pub index_outside : (s e n i : ℕ) → (i < s) ⊎ (e ≤ i) → reversed_index s e n i ≡ i
index_outside s e n i (inl less) = grind (arith, nat_tests)
index_outside s e n i (inr past) = grind (arith, nat_tests)

module _ {A : Type 0} (axis : Axis) (s e : ℕ) where
  pub reversed_read : (n : ℕ) (g new : Grid A) → n ≡ count_along axis g → e ≤ n → ReversesLines axis s e g new → ReadsThrough (lines_from axis (reversed_index s e n) g.rows g.columns) g new
  reversed_read n g new is fits r = lines_read axis (reversed_index s e n) g.rows g.columns g new r.shape.even r.shape.rows r.shape.columns (λ i h. at i (cases_lt i s) (cases_lt i e))
    where
      at : (i : ℕ) → (i < s) ⊎ (s ≤ i) → (i < e) ⊎ (e ≤ i) → line_cells axis new i ≡ line_cells axis g (reversed_index s e n i)
      at i (inl less) end = r.outside i (inl less) ∙ ap (line_cells axis g) (sym (index_outside s e n i (inl less)))
      at i (inr from) (inr past) = r.outside i (inr past) ∙ ap (line_cells axis g) (sym (index_outside s e n i (inr past)))
      at i (inr from) (inl below) = r.inside i from below ∙ ap (line_cells axis g) (sym (index_inside s e n i fits from below))

-- a whole grid
pub whole_read : {A : Type 0} (axis : Axis) (n : ℕ) (g new : Grid A) → n ≡ count_along axis g → ReversesLines axis 0 n g new → ReadsThrough (lines_from axis (λ i. n - 1 - i) g.rows g.columns) g new
whole_read axis n g new is r = lines_read axis (λ i. n - 1 - i) g.rows g.columns g new r.shape.even r.shape.rows r.shape.columns
    (λ i h. let same : 0 + n - 1 - i ≡ n - 1 - i = omega arith in r.inside i (omega arith) (omega (arith, h, is, same_count axis g new r.shape)) ∙ ap (line_cells axis g) same)

pub reversed_done : {A : Type 0} (axis : Axis) (s : ℕ) (limit : Offset) (n : ℕ) (g : Grid A) → n ≡ count_along axis g → (e : ℕ) (new : Grid A) → e ≡ limit_end limit s n → e ≤ n → ReversesLines axis s e g new → ReadsThrough (reversed axis s limit g.rows g.columns) g new
reversed_done axis s limit n g is e new at fits r =
    subst (λ (m : ℕ). ReadsThrough (lines_from axis (reversed_index s (limit_end limit s m) m) g.rows g.columns) g new) (is ∙ sym (counted axis g))
    (subst (λ (k : ℕ). ReadsThrough (lines_from axis (reversed_index s k n) g.rows g.columns) g new) at (reversed_read axis s e n g new is fits r))
