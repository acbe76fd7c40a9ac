-- Columns that are brought to the front of each row, and rows that are kept.
use Rattle.tabled_table.proofs.Common.{[], ⊎_elim, ◌++◌, ◌+◌, ◌<◌, ◌∙◌, ◌∷◌, ◌≡◌, ◌≤◌, ◌⊎◌, All-filter, All-map, AllZip, AllZip-map, AreWide, Bool, EachIndex, List, ap, append-nil, arith, brought_forward, cases_Bool, common_steps, cond, drop, drop-set-lt, drop_more, even-each, false, filter, filter_of_map_range_with_len_more, get_or, get_or-drop, get_or-set_other, get_or-set_same, has_text_in, length, length-map, length-set, length-swap, length-take, length_push, map, map-append, map-id, only_columns, recursion_from_All, refl, replicate, rest_after, row_has_text, set, suc, swap, sym, take, take-set, take-set-le, text_columns, true, zero, ℕ}
use Rattle.std.proofs.lemmas.Simd.{map-map}
use Rattle.std.proofs.Math.Nat.{add-zero}

-- the list with the members of ks in front, and from j on as it was
pub record Gathered {A : Type 0} (d : A) (columns kept j : ℕ) (ks : List ℕ) (old new : List A) : Type 0 where
  pub front : take kept new ≡ map (λ k. get_or old k d) ks
  pub rest : drop j new ≡ drop j old
  pub long : length new ≡ columns

module _ {A : Type 0} (d : A) (columns : ℕ) where
  -- those from j on are still as they were
  gathered_next : (kept j k : ℕ) (ks : List ℕ) (old new : List A) → Gathered d columns kept j ks old new → get_or new (j + k) d ≡ get_or old (j + k) d
  gathered_next kept j k ks old new h = sym (get_or-drop j new k d) ∙ ap (λ xs. get_or xs k d) h.rest ∙ get_or-drop j old k d

  gathered_skip : (kept j : ℕ) (ks : List ℕ) (old new : List A) → Gathered d columns kept j ks old new → Gathered d columns kept (j + 1) ks old new
  gathered_skip kept j ks old new h = record { front = h.front; rest = rest_after old new j h.rest; long = h.long }

  -- what a swap brings to the front
  swapped_front : (xs : List A) (kept j : ℕ) → kept ≤ j → j < length xs → get_or (set (set xs kept (get_or xs j d)) j (get_or xs kept d)) kept d ≡ get_or xs j d
  swapped_front xs kept j below within = grind (arith, common_steps, get_or-set_same, length-set, get_or-set_other)

  gathered_swap : (kept j : ℕ) (ks : List ℕ) (old new : List A) → kept ≤ j → j < columns → Gathered d columns kept j ks old new → Gathered d columns (kept + 1) (j + 1) (ks ++ j ∷ []) old (swap new kept j)
  gathered_swap kept j ks old new below within h = grind (arith, common_steps, gathered_next, length-set, take-set-le, take-set, swapped_front, map-append, drop-set-lt, rest_after, length-swap)

-- relations of the members of two lists, where those of the second are changed
AllZip-changed : {A B C : Type 0} (R : A → B → Type 0) (Q : A → C → Type 0) (g : B → C) → ((x : A) (y : B) → R x y → Q x (g y)) → (xs : List A) (ys : List B) → AllZip R xs ys → AllZip Q xs (map g ys)
AllZip-changed R Q g h [] [] z = tt
AllZip-changed R Q g h [] (y ∷ ys) z = absurd z
AllZip-changed R Q g h (x ∷ xs) [] z = absurd z
AllZip-changed R Q g h (x ∷ xs) (y ∷ ys) z = (h x y z.0, AllZip-changed R Q g h xs ys z.1)

-- what is the same of each two members
maps_alike : {A B C : Type 0} (R : A → B → Type 0) (f : A → C) (g : B → C) → ((x : A) (y : B) → R x y → g y ≡ f x) → (xs : List A) (ys : List B) → AllZip R xs ys → map g ys ≡ map f xs
maps_alike R f g same xs ys z = AllZip-map f xs (map g ys) (AllZip-changed R (λ x y. y ≡ f x) g same xs ys z)

-- as many marks as are taken
pub few_marks : (m n : ℕ) → length (take m (replicate n false)) ≤ m
few_marks m n = omega (arith, length-take m (replicate n false))

-- nothing is marked at first
pub unmarked : (m n i : ℕ) → get_or (take m (replicate n false)) i false ≡ false
unmarked zero n i = refl
unmarked (suc m) zero i = refl
unmarked (suc m) (suc n) zero = refl
unmarked (suc m) (suc n) (suc i) = unmarked m n i

-- the next of the marks that are left
pub brought_next : {A : Type 0} (mark : Bool) (marks : List Bool) (i front j : ℕ) (xs : List A) → i < length marks → get_or marks i false ≡ mark →
    brought_forward (drop i marks) front j xs ≡ brought_forward (mark ∷ drop (i + 1) marks) front j xs
brought_next mark marks i front j xs inside is = ap (λ ms. brought_forward ms front j xs) (drop_more marks i false inside ∙ ap (λ m. m ∷ drop (i + 1) marks) is)

-- n columns with a text, those below j in order, were brought to the front of each row
pub record GatheredRows (columns kept j : ℕ) (old new : List (List (List ℕ))) : Type 0 where
  pub count : kept ≡ length (text_columns j old)
  pub below : kept ≤ j
  pub rows : AllZip (Gathered [] columns kept j (text_columns j old)) old new

module _ (columns : ℕ) where
  pub gathered_rows_none : (old : List (List (List ℕ))) → AreWide columns old → GatheredRows columns 0 0 old old
  gathered_rows_none old even = record { count = refl; below = omega arith; rows = each old even }
    where
      each : (rows : List (List (List ℕ))) → AreWide columns rows → AllZip (Gathered [] columns 0 0 []) rows rows
      each [] e = tt
      each (row ∷ rows) e = (record { front = refl; rest = refl; long = e.0 }, each rows e.1)

  -- the columns from j on still have the texts that they had
  pub gathered_rows_next : (kept j k : ℕ) (old new : List (List (List ℕ))) → GatheredRows columns kept j old new → has_text_in new (j + k) ≡ has_text_in old (j + k)
  gathered_rows_next kept j k old new h = ap row_has_text (maps_alike (Gathered [] columns kept j (text_columns j old)) (λ row. get_or row (j + k) []) (λ row. get_or row (j + k) []) (gathered_next [] columns kept j k (text_columns j old)) old new h.rows)

  gathered_columns : (j : ℕ) (old : List (List (List ℕ))) → text_columns (j + 1) old ≡ text_columns j old ++ cond (has_text_in old j) (j ∷ []) []
  gathered_columns j old =
      let more = filter_of_map_range_with_len_more (has_text_in old) (λ k. k) 0 j j (omega arith) in
      rw (map-id, map-id) at more

  pub gathered_rows_even : (kept j : ℕ) (old new : List (List (List ℕ))) → GatheredRows columns kept j old new → AreWide columns new
  gathered_rows_even kept j old new h = even-each columns (Gathered [] columns kept j (text_columns j old)) (λ x y g. g.long) old new h.rows

  gathered_rows_skip : (kept j : ℕ) (old new : List (List (List ℕ))) → GatheredRows columns kept j old new → has_text_in old j ≡ false → GatheredRows columns kept (j + 1) old new
  gathered_rows_skip kept j old new h none =
      let ks = text_columns j old in
      let same : text_columns (j + 1) old ≡ ks = gathered_columns j old ∙ ap (λ b. ks ++ cond b (j ∷ []) []) none ∙ append-nil ks in
      record {
        count = h.count ∙ ap length (sym same);
        below = omega (arith, h.below);
        rows = rw same (rw (map-id new) at (AllZip-changed (Gathered [] columns kept j ks) (Gathered [] columns kept (j + 1) ks) (λ row. row) (gathered_skip [] columns kept j ks) old new h.rows));
      }

  gathered_rows_swap : (kept j : ℕ) (old new : List (List (List ℕ))) → j < columns → GatheredRows columns kept j old new → has_text_in old j ≡ true → GatheredRows columns (kept + 1) (j + 1) old (map (λ row. swap row kept j) new)
  gathered_rows_swap kept j old new within h some =
      let ks = text_columns j old in
      let more : text_columns (j + 1) old ≡ ks ++ j ∷ [] = gathered_columns j old ∙ ap (λ b. ks ++ cond b (j ∷ []) []) some in
      record {
        count = rw more (ap (λ n. n + 1) h.count ∙ sym (length_push ks j));
        below = omega (arith, h.below);
        rows = rw more (AllZip-changed (Gathered [] columns kept j ks) (Gathered [] columns (kept + 1) (j + 1) (ks ++ j ∷ [])) (λ row. swap row kept j) (λ x y r. gathered_swap [] columns kept j ks x y h.below within r) old new h.rows);
      }

  later : (mark : Bool) (marks : List Bool) (j : ℕ) (old : List (List (List ℕ))) → EachIndex (mark ∷ marks) (λ k. get_or (mark ∷ marks) k false ≡ has_text_in old (j + k)) → EachIndex marks (λ k. get_or marks k false ≡ has_text_in old (j + 1 + k))
  later mark marks j old is k inside = let same : j + suc k ≡ j + 1 + k = omega arith in rw same at (is (suc k) (omega arith))

  -- n columns more, of which those with a text are marked
  pub gathered_rows_more : (marks : List Bool) (kept j : ℕ) (old new : List (List (List ℕ))) → j + length marks ≤ columns → EachIndex marks (λ k. get_or marks k false ≡ has_text_in old (j + k)) → GatheredRows columns kept j old new →
      GatheredRows columns (kept + length (filter (λ mark. mark) marks)) (j + length marks) old (map (brought_forward marks kept j) new)
  gathered_rows_more [] kept j old new within is h = rw (add-zero kept, add-zero j, map-id new) h
  gathered_rows_more (true ∷ marks) kept j old new within is h =
      let n = length (filter (λ mark. mark) marks) in
      let here : has_text_in old j ≡ true = sym (rw (add-zero j) at (is 0 (omega arith))) in
      let next = gathered_rows_more marks (kept + 1) (j + 1) old (map (λ row. swap row kept j) new) (omega arith) (later true marks j old is) (gathered_rows_swap kept j old new (omega arith) h here) in
      let more : kept + 1 + n ≡ kept + suc n = omega arith in
      let past : j + 1 + length marks ≡ j + suc (length marks) = omega arith in
      rw (more, past, map-map (brought_forward marks (kept + 1) (j + 1)) (λ row. swap row kept j) new) at next
  gathered_rows_more (false ∷ marks) kept j old new within is h =
      let none : has_text_in old j ≡ false = sym (rw (add-zero j) at (is 0 (omega arith))) in
      let next = gathered_rows_more marks kept (j + 1) old new (omega arith) (later false marks j old is) (gathered_rows_skip kept j old new h none) in
      let past : j + 1 + length marks ≡ j + suc (length marks) = omega arith in
      rw past at next

  pub gathered_rows_all : (kept : ℕ) (old new : List (List (List ℕ))) → GatheredRows columns kept columns old new →
      map (take kept) new ≡ only_columns (text_columns columns old) old
  gathered_rows_all kept old new h = grind (arith, common_steps, maps_alike)

-- what a filter keeps, seen through a function
pub map-filter : {A B : Type 0} (f : A → B) (test : B → Bool) (xs : List A) → map f (filter (λ x. test (f x)) xs) ≡ filter test (map f xs)
map-filter f test [] = refl
map-filter f test (x ∷ xs) = ⊎_elim (λ passes. rw passes (ap (λ ys. f x ∷ ys) (map-filter f test xs))) (λ fails. rw fails (map-filter f test xs)) (cases_Bool (test (f x)))

-- the kept members of each row, where rows without a text are gone
pub even-cleaned : (ks : List ℕ) (rows : List (List (List ℕ))) (test : List (List ℕ) → Bool) → AreWide (length ks) (filter test (only_columns ks rows))
even-cleaned ks rows test =
    let Wide = λ (row : List (List ℕ)). length row ≡ length ks in
    recursion_from_All Wide (filter test (only_columns ks rows)) (All-filter test Wide (only_columns ks rows) (All-map Wide (λ row. map (λ j. get_or row j []) ks) rows (λ k d _. length-map ks (λ j. get_or (get_or rows k d) j []))))
