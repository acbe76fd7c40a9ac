-- Lists padded to a length.
use Rattle.tabled_table.proofs.Common.{[], ◌++◌, ◌-◌, ◌<◌, ◌∙◌, ◌∷◌, ◌≡◌, ◌≤◌, All-from_recursion, All-replicate, AreWide, List, all-append, all-map, ap, append-nil, append_assoc, arith, common_steps, get_or, get_or-map, length, length-append, length-map, length-replicate, length-take, length_push, map, map-even, map-set, max, padded_to, recursion_from_All, replicate, set, set-get_or, suc, sym, take, take-append-le, take-take, take_all, ℕ}

-- one more filler, where the list is too short
pub padded_to-push : {A : Type 0} (n : ℕ) (filler : A) (xs : List A) → length xs < n → padded_to n filler (xs ++ filler ∷ []) ≡ padded_to n filler xs
padded_to-push n filler xs short =
    let left : n - length xs ≡ suc (n - length (xs ++ filler ∷ [])) = omega (arith, length_push xs filler) in
    append_assoc xs (filler ∷ []) (replicate (n - length (xs ++ filler ∷ [])) filler) ∙ ap (λ k. xs ++ replicate k filler) (sym left)

-- a list that is long enough
pub padded_to-long : {A : Type 0} (n : ℕ) (filler : A) (xs : List A) → n ≤ length xs → padded_to n filler xs ≡ xs
padded_to-long n filler xs long = grind (arith, common_steps, append-nil)

pub length-padded_to : {A : Type 0} (n : ℕ) (filler : A) (xs : List A) → length (padded_to n filler xs) ≡ max n (length xs)
length-padded_to {A} n filler xs = omega (arith, length-append xs (replicate (n - length xs) filler), length-replicate {A = A} (n - length xs) filler)

-- what was in front stays there
pub take_front-append : {A : Type 0} (n : ℕ) (xs ys zs : List A) → length ys ≡ n → take n xs ≡ ys → take n (xs ++ zs) ≡ ys
take_front-append n xs ys zs long front = grind (arith, common_steps, length-take, take-append-le)

-- rows with an old row in front of each, of which one is put longer
pub fronts_kept : {A C : Type 0} (f : A → List C) (from : ℕ) (old : List (List C)) (new : List A) (i n : ℕ) (d y : A) → AreWide from old → i < length new →
    map (take from) (map f new) ≡ old → n ≡ length (f (get_or new i d)) → take n (f y) ≡ f (get_or new i d) → map (take from) (map f (set new i y)) ≡ old
fronts_kept {A} {C} f from old new i n d y even inside fronts long kept =
    let x = f (get_or new i d) in
    let within : i < length (map f new) = omega (arith, length-map new f) in
    let many : i < length old = omega (arith, ap length fronts, length-map (map f new) (take {A = C} from)) in
    let is : get_or old i [] ≡ take from x =
    ap (λ (rows : List (List C)). get_or rows i []) (sym fronts) ∙ get_or-map (take from) (map f new) i x [] within ∙ ap (take from) (get_or-map f new i d x inside) in
    let wide : length (get_or old i []) ≡ from = All-from_recursion _ old even i [] many in
    let within_n : from ≤ n = omega (arith, ap length is, length-take from x) in
    let same : take from (f y) ≡ get_or old i [] = sym (take-take from n (f y) within_n) ∙ ap (take from) kept ∙ sym is in
    rw (map-set f new i y, map-set (take from) (map f new) i (f y), fronts, same) (set-get_or old i [])

-- rows of one length, cut off there
pub fronts_all : {A : Type 0} (n : ℕ) (rows : List (List A)) → AreWide n rows → map (take n) rows ≡ rows
fronts_all n rows even = map-even n (take n) (λ row long. take_all n row (omega arith)) rows even

-- rows of one length, padded to it or to less
pub padded_all : {A : Type 0} (from n : ℕ) (filler : A) (rows : List (List A)) → n ≤ from → AreWide from rows → map (padded_to n filler) rows ≡ rows
padded_all from n filler rows short even = map-even from (padded_to n filler) (λ row long. padded_to-long n filler row (omega arith)) rows even

-- rows of one length, padded to another, all have this
pub even-padded : {A : Type 0} (from n : ℕ) (filler : A) (rows : List (List A)) → from ≤ n → AreWide from rows → AreWide n (map (padded_to n filler) rows)
even-padded {A} from n filler rows short even = all-map (λ (row : List A). length row ≡ from) (λ (row : List A). length row ≡ n) (padded_to n filler) (λ row e. omega (arith, length-padded_to n filler row)) rows even

pub padded_to-nil : {A : Type 0} (n : ℕ) (filler : A) → padded_to n filler [] ≡ replicate n filler
padded_to-nil n filler = let all : n - 0 ≡ n = omega arith in ap (λ k. replicate k filler) all

-- rows of one length, with more of it after them
pub even-more : {A : Type 0} (n count : ℕ) (filler : A) (rows : List (List A)) → AreWide n rows → AreWide n (padded_to count (replicate n filler) rows)
even-more {A} n count filler rows even =
    let Wide = λ (row : List A). length row ≡ n in
    let more = count - length rows in
    all-append Wide rows (replicate more (replicate n filler)) even (recursion_from_All Wide (replicate more (replicate n filler)) (All-replicate Wide more (replicate n filler) (length-replicate n filler)))
