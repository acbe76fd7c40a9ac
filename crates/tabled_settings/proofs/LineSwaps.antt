-- Lines that change places, and those that come to the front by it.
use Rattle.tabled_settings.proofs.Common.{◌+◌, ◌-◌, ◌<◌, ◌∙◌, ◌≡◌, ◌≢◌, ◌≤◌, ◌⊎◌, Axis, Columns, Grid, IsEven, KeepsLines, List, Swapped, along, ap, arith, cases_eq, cases_lt, count_along, first_along, get_or, get_or-range_with_len, inl, inr, length, length-range_with_len, line_cells, map, map-id, map-map, range_with_len, refl, same_count, same_shape, shape_after, subst, suc, swap, swapped_from_swap, sym, zero, ℕ}
use Rattle.std.proofs.lemmas.List.Edits.{length-swap}
use Rattle.tabled_settings.specs.Arranged.{BringToFront, SwapForward, SwapsLines, after_swaps}
use Rattle.tabled_settings.proofs.KeptLines.{has_lines}
use Rattle.tabled_settings.proofs.LineReads.{line_first, lines_swapped, shape_swapped}
use Rattle.tabled_settings.proofs.SwapsFound.{after_more, after_none}

pub length-after : {X : Type 0} (swaps : List ℕ) (k : ℕ) (xs : List X) → length (after_swaps swaps k xs) ≡ length xs
unfolding after_swaps
length-after swaps zero xs = refl
length-after swaps (suc k) xs = length-swap (after_swaps swaps k xs) k (get_or swaps k 0) ∙ length-after swaps k xs

-- no more lines are brought to the front than there are
pub few_swaps : (swaps : List ℕ) (n : ℕ) → SwapForward swaps n → length swaps ≤ n
few_swaps swaps n f = elim (cases_lt 0 (length swaps)) [
  | inl some ↦ omega (arith, some, f.ahead (length swaps - 1) (omega (arith, some)), f.within (length swaps - 1) (omega (arith, some)))
  | inr none ↦ omega (arith, none)
]

module _ {A : Type 0} (axis : Axis) (swaps : List ℕ) where
  pub swapped_none : (g : Grid A) → IsEven g → SwapsLines axis swaps 0 g g
  swapped_none g even = record {
    shape = same_shape g even;
    each = λ i h.
        let at : get_or (after_swaps swaps 0 (range_with_len 0 (count_along axis g))) i 0 ≡ 0 + i = ap (λ (xs : List ℕ). get_or xs i 0) (after_none swaps (range_with_len 0 (count_along axis g))) ∙ get_or-range_with_len 0 (count_along axis g) i 0 h in
        let first : 0 + i ≡ i = omega arith in
        ap (line_cells axis g) (sym (at ∙ first));
  }

  -- one swap more
  module _ (k n s : ℕ) (g cur new : Grid A) (b : SwapsLines axis swaps k g cur) (at : s ≡ get_or swaps k 0) (high : k < count_along axis g) (within : s < count_along axis g) (is : new ≡ along axis (λ _ xs. swap xs k s) cur) (next : n ≡ k + 1) where
    abbrev order : ℕ → List ℕ
    order m = after_swaps swaps m (range_with_len 0 (count_along axis g))

    lines : Swapped (line_cells axis cur) (line_cells axis new) k s
    lines = let same = same_count axis g cur b.shape in lines_swapped axis cur new k s b.shape.even (omega (arith, same, high)) (omega (arith, same, within)) is

    indexes : Swapped (λ i. get_or (order k) i 0) (λ i. get_or (order n) i 0) k s
    indexes =
        let long : length (order k) ≡ count_along axis g = length-after swaps k (range_with_len 0 (count_along axis g)) ∙ length-range_with_len 0 (count_along axis g) in
        swapped_from_swap (order k) (order n) k s 0 (omega (arith, long, high)) (omega (arith, long, within)) (ap order next ∙ after_more swaps k (range_with_len 0 (count_along axis g)) ∙ ap (swap (order k) k) (sym at))

    line_at : (i : ℕ) → i < count_along axis g → (i ≡ k) ⊎ (i ≢ k) → (i ≡ s) ⊎ (i ≢ s) → line_cells axis new i ≡ line_cells axis g (get_or (order n) i 0)
    line_at i h (inl same) other =
        let index : get_or (order n) i 0 ≡ get_or (order k) s 0 = ap (λ (m : ℕ). get_or (order n) m 0) same ∙ indexes.0 in
        ap (line_cells axis new) same ∙ lines.0 ∙ b.each s within ∙ ap (line_cells axis g) (sym index)
    line_at i h (inr off) (inl same) =
        let index : get_or (order n) i 0 ≡ get_or (order k) k 0 = ap (λ (m : ℕ). get_or (order n) m 0) same ∙ indexes.1 in
        ap (line_cells axis new) same ∙ lines.1 ∙ b.each k high ∙ ap (line_cells axis g) (sym index)
    line_at i h (inr off) (inr away) = lines.2 i off away ∙ b.each i h ∙ ap (line_cells axis g) (sym (indexes.2 i off away))

    pub swapped_more : SwapsLines axis swaps n g new
    swapped_more = record {
      shape = shape_after g cur new b.shape (shape_swapped axis cur new k s b.shape.even is);
      each = λ i h. line_at i h (cases_eq i k) (cases_eq i s);
    }

  -- the first lines alone
  pub front_kept : (indexes : List ℕ) (g cur new : Grid A) → BringToFront indexes swaps (count_along axis g) → SwapsLines axis swaps (length swaps) g cur → new ≡ first_along axis (length swaps) cur → KeepsLines axis indexes g new
  front_kept indexes g cur new t b cut =
      let same = same_count axis g cur b.shape in
      let few = few_swaps swaps (count_along axis g) t.forward in
      record {
        shape = rw (← t.many) (has_lines axis (length swaps) g cur new (omega (arith, same, few)) b.shape.rows b.shape.columns b.shape.even cut);
        each = λ a h.
            let below : a < length swaps = omega (arith, h, t.many) in
            line_first axis cur new (length swaps) a b.shape.even below cut
            ∙ b.each a (omega (arith, below, few))
            ∙ ap (line_cells axis g) (ap (λ (m : ℕ). get_or (after_swaps swaps m (range_with_len 0 (count_along axis g))) a 0) t.many ∙ t.front a h);
      }

-- the columns of rows after these swaps
pub swapped_rows : {A : Type 0} (swaps : List ℕ) (k : ℕ) (g : Grid A) → IsEven g → ((a : ℕ) → a < k → (a < g.columns) × (get_or swaps a 0 < g.columns)) → SwapsLines Columns swaps k g (record g { cells = map (after_swaps swaps k) g.cells })
unfolding after_swaps
swapped_rows swaps zero g even within = subst (λ (rows : List (List _)). SwapsLines Columns swaps 0 g (record g { cells = rows })) (sym (map-id g.cells)) (swapped_none Columns swaps g even)
swapped_rows swaps (suc k) g even within =
    let here = within k (omega arith) in
    swapped_more Columns swaps k (suc k) (get_or swaps k 0) g (record g { cells = map (after_swaps swaps k) g.cells }) _ (swapped_rows swaps k g even (λ a h. within a (omega (arith, h)))) refl here.0 here.1 (ap (λ (rows : List (List _)). record g { cells = rows }) (sym (map-map _ _ g.cells))) (omega arith)
