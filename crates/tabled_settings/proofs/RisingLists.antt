-- Indexes in lists that rise.
use Rattle.std.proofs.lemmas.Grind.{common_steps}
use Rattle.tabled_settings.proofs.Common.{◌+◌, ◌<◌, ◌∙◌, ◌≡◌, ◌≤◌, AllPairs-from_increasing, Bool, Err, IsBinarySearchResult, IsStrictlyIncreasing, IsStrictlyIncreasing-filter, List, Ok, Result, Some, ap, arith, cases_eq, get_or, get_or-range_with_len, inl, inr, left_over, length, length-range_with_len, nat_cmp, not, range_with_len, suc, sym, zero, ℕ}
use Rattle.std.specs.Result.{result_ok}
use Rattle.std.proofs.lemmas.List.Sorted.{searched}

pub rises : (xs : List ℕ) → IsStrictlyIncreasing xs → (i j : ℕ) → i < j → j < length xs → get_or xs i 0 < get_or xs j 0
rises xs up i j h k = AllPairs-from_increasing xs up i j 0 h k

pub one_index : (xs : List ℕ) → IsStrictlyIncreasing xs → (i j : ℕ) → i < length xs → j < length xs → get_or xs i 0 ≡ get_or xs j 0 → i ≡ j
one_index xs up i j h k same = grind (arith, rises xs up i j, rises xs up j i, same)

never_falls : (xs : List ℕ) → IsStrictlyIncreasing xs → (i j : ℕ) → i ≤ j → j < length xs → get_or xs i 0 ≤ get_or xs j 0
never_falls xs up i j h k = elim (cases_eq i j) [
  | inl e ↦ let same = ap (λ (n : ℕ). get_or xs n 0) e in omega (arith, same)
  | inr apart ↦ omega (arith, rises xs up i j (omega (arith, apart)) k)
]

-- what a search finds, and that it finds what is there
found_at : (xs : List ℕ) (x i : ℕ) → IsStrictlyIncreasing xs → IsBinarySearchResult (λ y. nat_cmp y x) xs (Ok i) → (i < length xs) × (get_or xs i 0 ≡ x)
found_at xs x i up r = searched xs x (Ok i) r (never_falls xs up)

missed_at : (xs : List ℕ) (x i k : ℕ) → IsStrictlyIncreasing xs → IsBinarySearchResult (λ y. nat_cmp y x) xs (Err i) → k < length xs → get_or xs k 0 ≡ x → ⊥
missed_at xs x i k up r here same =
    let m : (i ≤ length xs) × ((k : ℕ) → k < i → get_or xs k 0 < x) × ((k : ℕ) → i ≤ k → k < length xs → x < get_or xs k 0) = searched xs x (Err i) r (never_falls xs up) in
    grind (arith, m.1 k, m.2 k, here, same)

pub search_finds : (xs : List ℕ) (x k : ℕ) (r : Result ℕ ℕ) → IsStrictlyIncreasing xs → IsBinarySearchResult (λ y. nat_cmp y x) xs r → k < length xs → get_or xs k 0 ≡ x → result_ok r ≡ Some k
search_finds xs x k (Ok i) up r here same = let at = found_at xs x i up r in ap Some (one_index xs up i k at.0 here (at.1 ∙ sym same))
search_finds xs x k (Err i) up r here same = absurd (missed_at xs x i k up r here same)

-- a range rises, and so does what a test leaves of the first indexes
pub range_rises : (a n : ℕ) → IsStrictlyIncreasing (range_with_len a n)
range_rises a n i h = let few = length-range_with_len a n in omega (arith, get_or-range_with_len a n i 0 (omega (arith, h, few)), get_or-range_with_len a n (i + 1) 0 (omega (arith, h, few)))

pub left_rises : (gone : ℕ → Bool) (n : ℕ) → IsStrictlyIncreasing (left_over gone n)
left_rises gone n = IsStrictlyIncreasing-filter (λ (i : ℕ). not (gone i)) (range_with_len 0 n) (range_rises 0 n)

-- an index is no more than what stands there
pub index_within : (xs : List ℕ) → IsStrictlyIncreasing xs → (k : ℕ) → k < length xs → k ≤ get_or xs k 0
index_within xs up zero h = omega arith
index_within xs up (suc k) h =
    let here = index_within xs up k (omega (arith, h)) in
    let next = up k (omega (arith, h)) in
    let same : k + 1 ≡ suc k = omega arith in
    omega (arith, here, rw same at next)

-- indexes below a number are no more than this
pub length_within : (xs : List ℕ) (n : ℕ) → IsStrictlyIncreasing xs → ((k : ℕ) → k < length xs → get_or xs k 0 < n) → length xs ≤ n
length_within xs n up below = grind (arith, common_steps, index_within)
