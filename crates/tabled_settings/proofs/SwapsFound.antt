-- Swaps that bring items to the front, and where each item stands.
use Rattle.std.proofs.Common.{◌≡◌, ◌≢◌, ◌<◌, ◌≤◌, ◌+◌, ◌∙◌, ◌⊎◌, ◌++◌, [], ◌∷◌, ℕ, List, length, add-one, ap, arith, get_or, inl, inr, refl, suc, sym, zero}
use Rattle.std.proofs.lemmas.List.FromFn.{get_or-range_with_len, length-range_with_len}
use Rattle.std.proofs.lemmas.List.FromFn.{map-range_with_len_more}
use Rattle.std.proofs.Common.{map-id}
use Rattle.std.proofs.lemmas.Bool.{cases_eq, cases_lt}
use Rattle.std.proofs.lemmas.List.{get_or_at}
use Rattle.std.proofs.lemmas.List.{get_or_append_left, length_push}
use Rattle.std.proofs.lemmas.List.Edits.{Swapped, swapped_from_swap, length-swap}
use Rattle.std.specs.List.{range_with_len, swap}
use Rattle.tabled_settings.specs.Arranged.{AreDistinct, BringToFront, TellsPlaces, after_swaps}

-- the items of one list are the places of indexes below n in another
pub record IsUndone (xs ys : List ℕ) (n : ℕ) : Type 0 where
  pub many : length xs ≡ n
  pub below : (i : ℕ) → i < n → get_or xs i 0 < n
  pub back : (i : ℕ) → i < n → get_or ys (get_or xs i 0) 0 ≡ i

pub range_undone : (n : ℕ) → IsUndone (range_with_len 0 n) (range_with_len 0 n) n
range_undone n =
    let at : (i : ℕ) → i < n → get_or (range_with_len 0 n) i 0 ≡ i = λ i h. let zero_more : 0 + i ≡ i = omega arith in get_or-range_with_len 0 n i 0 h ∙ zero_more in
    record { many = length-range_with_len 0 n; below = λ i h. omega (arith, at i h, h); back = λ i h. ap (λ (k : ℕ). get_or (range_with_len 0 n) k 0) (at i h) ∙ at i h }

-- two items of one list change places, and in the other one what tells of them
module _ (xs ys : List ℕ) (n a b c d : ℕ) (there : IsUndone xs ys n) (back : IsUndone ys xs n) (left : a < n) (right : b < n) (at_c : c ≡ get_or xs b 0) (at_d : d ≡ get_or xs a 0) where
  here : Swapped (λ i. get_or xs i 0) (λ i. get_or (swap xs a b) i 0) a b
  here = swapped_from_swap xs (swap xs a b) a b 0 (omega (arith, left, there.many)) (omega (arith, right, there.many)) refl

  told : Swapped (λ i. get_or ys i 0) (λ i. get_or (swap ys c d) i 0) c d
  told = swapped_from_swap ys (swap ys c d) c d 0 (omega (arith, there.below b right, at_c, back.many)) (omega (arith, there.below a left, at_d, back.many)) refl

  at_item : (i : ℕ) → i < n → (i ≡ a) ⊎ (i ≢ a) → (i ≡ b) ⊎ (i ≢ b) → (get_or (swap xs a b) i 0 < n) × (get_or (swap ys c d) (get_or (swap xs a b) i 0) 0 ≡ i)
  at_item i h (inl same) other =
      let is : get_or (swap xs a b) i 0 ≡ c = ap (λ (k : ℕ). get_or (swap xs a b) k 0) same ∙ here.0 ∙ sym at_c in
      (omega (arith, is, at_c, there.below b right), ap (λ (k : ℕ). get_or (swap ys c d) k 0) is ∙ told.0 ∙ ap (λ (k : ℕ). get_or ys k 0) at_d ∙ there.back a left ∙ sym same)
  at_item i h (inr off) (inl same) =
      let is : get_or (swap xs a b) i 0 ≡ d = ap (λ (k : ℕ). get_or (swap xs a b) k 0) same ∙ here.1 ∙ sym at_d in
      (omega (arith, is, at_d, there.below a left), ap (λ (k : ℕ). get_or (swap ys c d) k 0) is ∙ told.1 ∙ ap (λ (k : ℕ). get_or ys k 0) at_c ∙ there.back b right ∙ sym same)
  at_item i h (inr off_a) (inr off_b) =
      let is : get_or (swap xs a b) i 0 ≡ get_or xs i 0 = here.2 i off_a off_b in
      let off_c : get_or xs i 0 ≢ c = λ same. off_b (sym (there.back i h) ∙ ap (λ (k : ℕ). get_or ys k 0) (same ∙ at_c) ∙ there.back b right) in
      let off_d : get_or xs i 0 ≢ d = λ same. off_a (sym (there.back i h) ∙ ap (λ (k : ℕ). get_or ys k 0) (same ∙ at_d) ∙ there.back a left) in
      (omega (arith, is, there.below i h), ap (λ (k : ℕ). get_or (swap ys c d) k 0) is ∙ told.2 (get_or xs i 0) off_c off_d ∙ there.back i h)

  pub undone_more : IsUndone (swap xs a b) (swap ys c d) n
  undone_more = record {
    many = length-swap xs a b ∙ there.many;
    below = λ i h. (at_item i h (cases_eq i a) (cases_eq i b)).0;
    back = λ i h. (at_item i h (cases_eq i a) (cases_eq i b)).1;
  }

pub after_none : {X : Type 0} (swaps : List ℕ) (xs : List X) → after_swaps swaps 0 xs ≡ xs
unfolding after_swaps
after_none swaps xs = refl

pub after_more : {X : Type 0} (swaps : List ℕ) (k : ℕ) (xs : List X) → after_swaps swaps (k + 1) xs ≡ swap (after_swaps swaps k xs) k (get_or swaps k 0)
unfolding after_swaps
after_more swaps k xs = ap (λ (n : ℕ). after_swaps swaps n xs) (add-one k)

-- the first swaps alone count
pub after_same : {X : Type 0} (swaps other : List ℕ) (k : ℕ) (xs : List X) → ((i : ℕ) → i < k → get_or swaps i 0 ≡ get_or other i 0) → after_swaps swaps k xs ≡ after_swaps other k xs
unfolding after_swaps
after_same swaps other zero xs same = refl
after_same swaps other (suc k) xs same = rw (same k (omega arith), after_same swaps other k xs (λ i h. same i (omega (arith, h)))) refl

-- how far the work is
pub record FoundSoFar (indexes swaps lines places : List ℕ) (k n : ℕ) : Type 0 where
  pub many : length swaps ≡ k
  pub ahead : (a : ℕ) → a < k → a ≤ get_or swaps a 0
  pub within : (a : ℕ) → a < k → get_or swaps a 0 < n
  pub is : lines ≡ after_swaps swaps k (range_with_len 0 n)
  pub there : IsUndone lines places n
  pub back : IsUndone places lines n
  pub front : (a : ℕ) → a < k → get_or lines a 0 ≡ get_or indexes a 0

pub found_none : (indexes : List ℕ) (n : ℕ) → FoundSoFar indexes [] (range_with_len 0 n) (range_with_len 0 n) 0 n
found_none indexes n = record { many = refl; ahead = λ a h. omega (arith, h); within = λ a h. absurd (omega (arith, h)); is = sym (after_none [] (range_with_len 0 n)); there = range_undone n; back = range_undone n; front = λ a h. absurd (omega (arith, h)) }

-- one swap more
module _ (indexes swaps lines places : List ℕ) (k n l p : ℕ) (once : AreDistinct indexes n) (u : FoundSoFar indexes swaps lines places k n) (next : k < length indexes) (at_l : l ≡ get_or indexes k 0) (at_p : p ≡ get_or places l 0) where
  below : l < n
  below = omega (arith, once.below k next, at_l)

  pub place_below : p < n
  place_below = omega (arith, u.back.below l below, at_p)

  stands : get_or lines p 0 ≡ l
  stands = ap (λ (i : ℕ). get_or lines i 0) at_p ∙ u.back.back l below

  pub place_ahead : k ≤ p
  place_ahead = elim (cases_lt p k) [
    | inl before ↦ absurd (omega (arith, before, once.apart p k (omega (arith, before, next)) next (sym (u.front p before) ∙ stands ∙ at_l)))
    | inr ahead ↦ ahead
  ]

  module _ (o : ℕ) (at_o : o ≡ get_or lines k 0) where
    moved : Swapped (λ i. get_or lines i 0) (λ i. get_or (swap lines k p) i 0) k p
    moved = swapped_from_swap lines (swap lines k p) k p 0 (omega (arith, place_ahead, place_below, u.there.many)) (omega (arith, place_below, u.there.many)) refl

    pub other_below : o < n
    other_below = omega (arith, u.there.below k (omega (arith, place_ahead, place_below)), at_o)

    last : get_or (swaps ++ p ∷ []) k 0 ≡ p
    last = get_or_at swaps p [] 0 k u.many

    before : (a : ℕ) → a < k → get_or (swaps ++ p ∷ []) a 0 ≡ get_or swaps a 0
    before a h = get_or_append_left swaps (p ∷ []) 0 a (omega (arith, u.many, h))

    pub found_more : FoundSoFar indexes (swaps ++ p ∷ []) (swap lines k p) (swap places l o) (k + 1) n
    found_more = record {
      many = length_push swaps p ∙ ap (λ (i : ℕ). i + 1) u.many;
      ahead = λ a h. elim (cases_lt a k) [ inl less ↦ omega (arith, before a less, u.ahead a less) | inr more ↦ let same : a ≡ k = omega (arith, h, more) in rw same (omega (arith, last, place_ahead)) ];
      within = λ a h. elim (cases_lt a k) [ inl less ↦ omega (arith, before a less, u.within a less) | inr more ↦ let same : a ≡ k = omega (arith, h, more) in rw same (omega (arith, last, place_below)) ];
      is = ap (λ (xs : List ℕ). swap xs k p) (u.is ∙ after_same swaps (swaps ++ p ∷ []) k (range_with_len 0 n) (λ i h. sym (before i h)))
          ∙ ap (λ (i : ℕ). swap (after_swaps (swaps ++ p ∷ []) k (range_with_len 0 n)) k i) (sym last)
          ∙ sym (after_more (swaps ++ p ∷ []) k (range_with_len 0 n));
      there = undone_more lines places n k p l o u.there u.back (omega (arith, place_ahead, place_below)) place_below (sym stands) at_o;
      back = undone_more places lines n l o k p u.back u.there below other_below (sym (ap (λ (i : ℕ). get_or places i 0) at_o ∙ u.there.back k (omega (arith, place_ahead, place_below)))) at_p;
      front = λ a h. elim (cases_lt a k) [
        | inl less ↦ moved.2 a (λ same. absurd (omega (arith, same, less))) (λ same. absurd (omega (arith, same, less, place_ahead))) ∙ u.front a less
        | inr more ↦ let same : a ≡ k = omega (arith, h, more) in ap (λ (i : ℕ). get_or (swap lines k p) i 0) same ∙ moved.0 ∙ stands ∙ at_l ∙ ap (λ (i : ℕ). get_or indexes i 0) (sym same)
      ];
    }

-- all of them
module _ (indexes swaps lines places : List ℕ) (k n : ℕ) (u : FoundSoFar indexes swaps lines places k n) (all : k ≡ length indexes) where
  pub swaps_bring : BringToFront indexes swaps n
  swaps_bring = record {
    many = u.many ∙ all;
    forward = record { ahead = λ a h. u.ahead a (omega (arith, h, u.many)); within = λ a h. u.within a (omega (arith, h, u.many)) };
    front = λ a h. ap (λ (xs : List ℕ). get_or xs a 0) (ap (λ (i : ℕ). after_swaps swaps i (range_with_len 0 n)) (sym all) ∙ sym u.is) ∙ u.front a (omega (arith, h, all));
  }

  pub places_told : AreDistinct indexes n → TellsPlaces indexes places n
  places_told once = record {
    many = u.back.many;
    tells = λ i a h l. (
      λ at. sym (u.front a (omega (arith, l, all))) ∙ ap (λ (x : ℕ). get_or lines x 0) (sym at) ∙ u.back.back i h,
      λ is. ap (λ (x : ℕ). get_or places x 0) (sym is ∙ sym (u.front a (omega (arith, l, all)))) ∙ u.there.back a (omega (arith, few a l)),
    );
  }
    where
      few : (a : ℕ) → a < length indexes → a < n
      few a l = omega (arith, u.ahead a (omega (arith, l, all)), u.within a (omega (arith, l, all)))

pub range_more : (n : ℕ) → range_with_len 0 (n + 1) ≡ range_with_len 0 n ++ n ∷ []
range_more n = sym (map-id _) ∙ map-range_with_len_more (λ (i : ℕ). i) 0 n n (omega arith) ∙ ap (λ (xs : List ℕ). xs ++ n ∷ []) (map-id _)
