-- Rows of the texts that entries print, and rows in order.
use Rattle.tabled_table.proofs.Common.{[], ◌+◌, ◌<◌, ◌∙◌, ◌∷◌, ◌≡◌, All-from_recursion, All-permutation, AllZip, AreWide, Bool, Global, List, String, Vec, ap, append-nil, ap₂, arith, common_steps, get_or, get_or-map, is_lt, length, length-map, map, map-id, ordering_then, recursion_from_All, refl, row_cmp, row_texts, string_bytes, string_cmp, texts_of, ℕ}
use Rattle.std.specs.Cmp.Lexicographic.{slice_cmp}
use Rattle.std.specs.Iterator.{Drains}
use Rattle.std.specs.List.Sorted.{IsPermutation, IsSorted, IsSortedBy}
use Rattle.std.specs.Map.Iter.{TakesFirst}
use Rattle.std.proofs.lemmas.Map.Iter.{rest_all, rest_so_far}

-- the rows of the entries that were handed in, all that there are
pub all-drained : {E : Type 0} (R : E → List (List ℕ) → Type 0) (all items it : List E) (rows : List (List (List ℕ))) → it ≡ all → Drains (TakesFirst (λ (x : E). x)) it items → AllZip R items rows → AllZip R all rows
all-drained {E} R all items it rows is d each = grind (arith, common_steps, rest_so_far, map-id, rest_all, append-nil)

pub even-permutation : (n : ℕ) (xs ys : List (List (List ℕ))) → IsPermutation xs ys → AreWide n xs → AreWide n ys
even-permutation n xs ys same even = recursion_from_All (λ (row : List (List ℕ)). length row ≡ n) ys (All-permutation (λ (row : List (List ℕ)). length row ≡ n) xs ys same (All-from_recursion (λ (row : List (List ℕ)). length row ≡ n) xs even))

-- a list in order, seen through a function that keeps the order
sorted-map : {X Y : Type 0} (f : X → Y) (lt : X → X → Bool) (below : Y → Y → Bool) → ((x y : X) → below (f x) (f y) ≡ lt x y) → (xs : List X) → IsSortedBy lt xs → IsSortedBy below (map f xs)
sorted-map f lt below same [] sorted k d low high = absurd (omega arith)
sorted-map {X} f lt below same (x ∷ xs) sorted k d low high =
    let all : List X = x ∷ xs in
    let inside : k + 1 < length all = omega (arith, length-map all f) in
    ap₂ below (get_or-map f all (k + 1) x d inside) (get_or-map f all k x d (omega arith)) ∙ same (get_or all (k + 1) x) (get_or all k x) ∙ sorted k x low inside

row_cmp-texts : (xs ys : List (String Global)) → row_cmp (map string_bytes xs) (map string_bytes ys) ≡ slice_cmp string_cmp xs ys
row_cmp-texts [] [] = refl
row_cmp-texts [] (y ∷ ys) = refl
row_cmp-texts (x ∷ xs) [] = refl
row_cmp-texts (x ∷ xs) (y ∷ ys) = ap (ordering_then (string_cmp x y)) (row_cmp-texts xs ys)

pub sorted_rows : (rows : List (Vec (String Global))) → IsSorted (λ (x y : Vec (String Global)). slice_cmp string_cmp x.items y.items) rows → IsSorted row_cmp (row_texts rows)
sorted_rows rows sorted = sorted-map texts_of (λ x y. is_lt (slice_cmp string_cmp x.items y.items)) (λ x y. is_lt (row_cmp x y)) (λ x y. ap is_lt (row_cmp-texts x.items y.items)) rows sorted
