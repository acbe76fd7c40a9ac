-- What stands in a list, and what a map of a list of rectangles finds.
use Rattle.tabled_grid.proofs.Common.{[], ◌++◌, ◌+◌, ◌-◌, ◌<◌, ◌∙◌, ◌∷◌, ◌≡◌, ◌≤◌, ◌⊎◌, All-from_recursion, All-permutation, AllByRecursion, AreSorted, Bool, IsPermutation, Less, List, Position, Rectangle, Size, Some, SpanMap, and_from, and_parts, ap, ap₂, arith, block, cases_eq, common_steps, cond, false, filter, flat_map, get, inl, inr, is_eq, list_all, list_any, map, none-some, or_cases, or_left, or_right, place, position_cmp, range_with_len, rectangle, rectangles, recursion_from_All, refl, row_places, same_Some, subst, suc, sym, tied_itself, true, zero, ℕ}
use Rattle.tabled_grid.proofs.SortedEntries.{Below, above, both, find_at, get-rectangles, halves, less, positions_exact, positions_total, rectangles_sorted}
use Rattle.tabled_grid.proofs.SpanMaps.{equal}
use Rattle.std.proofs.lemmas.List.Sorted.{IsPermutation-sym}

abbrev pub Member : {A : Type 0} → A → List A → Type 0
Member x [] = ⊥
Member x (y ∷ ys) = (x ≡ y) ⊎ Member x ys

module _ {A : Type 0} (test : A → Bool) where
  pub all-member : (x : A) (ys : List A) → list_all test ys ≡ true → Member x ys → test x ≡ true
  all-member x [] all none = absurd none
  all-member x (y ∷ ys) all (inl e) = ap test e ∙ (and_parts (test y) (list_all test ys) all).0
  all-member x (y ∷ ys) all (inr m) = all-member x ys (and_parts (test y) (list_all test ys) all).1 m

  pub all-from : (ys : List A) → ((x : A) → Member x ys → test x ≡ true) → list_all test ys ≡ true
  all-from [] each = refl
  all-from (y ∷ ys) each = and_from (test y) (list_all test ys) (each y (inl refl)) (all-from ys (λ x m. each x (inr m)))

  pub any-member : (ys : List A) → list_any test ys ≡ true → (x : A) × Member x ys × (test x ≡ true)
  any-member [] any = cc
  any-member (y ∷ ys) any = elim (or_cases (test y) (list_any test ys) any) [ inl t ↦ (y, inl refl, t) | inr later ↦ let rest = any-member ys later in (rest.0, inr rest.1, rest.2) ]

  pub any-from : (x : A) (ys : List A) → Member x ys → test x ≡ true → list_any test ys ≡ true
  any-from x [] none t = absurd none
  any-from x (y ∷ ys) (inl e) t = or_left (test y) (list_any test ys) (ap test (sym e) ∙ t)
  any-from x (y ∷ ys) (inr m) t = or_right (test y) (list_any test ys) (any-from x ys m t)

  pub filter-member : (x : A) (ys : List A) → Member x (filter test ys) → Member x ys × (test x ≡ true)
  filter-member x [] none = absurd none
  filter-member x (y ∷ ys) here = of_kept (test y) refl here (filter-member x ys)
    where
      of_kept : (b : Bool) → test y ≡ b → Member x (cond b (y ∷ filter test ys) (filter test ys)) → (Member x (filter test ys) → Member x ys × (test x ≡ true)) → Member x (y ∷ ys) × (test x ≡ true)
      of_kept true t (inl e) later = (inl e, ap test e ∙ t)
      of_kept true t (inr m) later = let rest = later m in (inr rest.0, rest.1)
      of_kept false t m later = let rest = later m in (inr rest.0, rest.1)

  pub filter-from : (x : A) (ys : List A) → Member x ys → test x ≡ true → Member x (filter test ys)
  filter-from x [] none t = absurd none
  filter-from x (y ∷ ys) (inl e) t = rw (ap test (sym e) ∙ t) (inl e)
  filter-from x (y ∷ ys) (inr m) t = let rest = filter-from x ys m t in elim (test y) as (λ b. Member x (cond b (y ∷ filter test ys) (filter test ys))) [ true ↦ inr rest | false ↦ rest ]

module _ {A : Type 0} (x : A) where
  pub member-left : (xs ys : List A) → Member x xs → Member x (xs ++ ys)
  member-left [] ys none = absurd none
  member-left (y ∷ xs) ys (inl e) = inl e
  member-left (y ∷ xs) ys (inr m) = inr (member-left xs ys m)

  pub member-right : (xs ys : List A) → Member x ys → Member x (xs ++ ys)
  member-right [] ys m = m
  member-right (y ∷ xs) ys m = inr (member-right xs ys m)

  pub member-either : (xs ys : List A) → Member x (xs ++ ys) → Member x xs ⊎ Member x ys
  member-either [] ys m = inr m
  member-either (y ∷ xs) ys (inl e) = inl (inl e)
  member-either (y ∷ xs) ys (inr m) = elim (member-either xs ys m) [ inl h ↦ inl (inr h) | inr h ↦ inr h ]

-- what holds of each of a list, and the way back
pub all-of : {A : Type 0} (P : A → Type 0) (xs : List A) → ((x : A) → Member x xs → P x) → AllByRecursion P xs
all-of P [] each = tt
all-of P (x ∷ xs) each = (each x (inl refl), all-of P xs (λ y m. each y (inr m)))

pub of-all : {A : Type 0} (P : A → Type 0) (xs : List A) → AllByRecursion P xs → (x : A) → Member x xs → P x
of-all P [] all x none = absurd none
of-all P (y ∷ ys) all x (inl is) = subst P (sym is) all.0
of-all P (y ∷ ys) all x (inr m) = of-all P ys all.1 x m

-- a list in another order has the same members
pub member-moved : {A : Type 0} (x : A) (xs ys : List A) → IsPermutation xs ys → Member x xs → Member x ys
member-moved {A} x xs ys moved = of-all (λ (y : A). Member y ys) xs (recursion_from_All _ xs (All-permutation (λ (y : A). Member y ys) ys xs (IsPermutation-sym xs ys moved) (All-from_recursion _ ys (all-of (λ (y : A). Member y ys) ys (λ y m. m))))) x

module _ {A B : Type 0} where
  pub map-from : (f : A → B) (x : A) (xs : List A) → Member x xs → Member (f x) (map f xs)
  map-from f x [] none = absurd none
  map-from f x (y ∷ xs) (inl e) = inl (ap f e)
  map-from f x (y ∷ xs) (inr m) = inr (map-from f x xs m)

  pub map-member : (f : A → B) (z : B) (xs : List A) → Member z (map f xs) → (x : A) × Member x xs × (z ≡ f x)
  map-member f z [] none = absurd none
  map-member f z (y ∷ xs) (inl e) = (y, inl refl, e)
  map-member f z (y ∷ xs) (inr m) = let rest = map-member f z xs m in (rest.0, inr rest.1, rest.2)

  pub flat_map-from : (f : A → List B) (x : A) (z : B) (xs : List A) → Member x xs → Member z (f x) → Member z (flat_map f xs)
  flat_map-from f x z [] none m = absurd none
  flat_map-from f x z (y ∷ xs) (inl e) m = member-left z (f y) (flat_map f xs) (subst (λ v. Member z (f v)) e m)
  flat_map-from f x z (y ∷ xs) (inr h) m = member-right z (f y) (flat_map f xs) (flat_map-from f x z xs h m)

  pub flat_map-member : (f : A → List B) (z : B) (xs : List A) → Member z (flat_map f xs) → (x : A) × Member x xs × Member z (f x)
  flat_map-member f z [] none = absurd none
  flat_map-member f z (y ∷ xs) m = elim (member-either z (f y) (flat_map f xs) m) [ inl h ↦ (y, inl refl, h) | inr h ↦ let rest = flat_map-member f z xs h in (rest.0, inr rest.1, rest.2) ]

pub range-member : (i a n : ℕ) → Member i (range_with_len a n) → (a ≤ i) × (i < a + n)
range-member i a zero none = absurd none
range-member i a (suc n) (inl e) = (omega (arith, e), omega (arith, e))
range-member i a (suc n) (inr m) = let rest = range-member i (a + 1) n m in (omega (arith, rest.0), omega (arith, rest.1))

pub range-from : (i a n : ℕ) → a ≤ i → i < a + n → Member i (range_with_len a n)
range-from i a zero low high = absurd (omega arith)
range-from i a (suc n) low high = elim (cases_eq i a) [ inl e ↦ inl e | inr apart ↦ inr (range-from i (a + 1) n (omega (arith, apart)) (omega arith)) ]

-- a place is in a block of rows a to b and columns c to d, without b and d
pub record InBlock (a b c d : ℕ) (p : Position) : Type 0 where
  pub top : a ≤ p.row
  pub bottom : p.row < b
  pub left : c ≤ p.col
  pub right : p.col < d

pub block-member : (a b c d : ℕ) (p : Position) → Member p (block a b c d) → InBlock a b c d p
block-member a b c d p m = grind (arith, common_steps, flat_map-member, range-member, map-member)

pub block-from : (a b c d : ℕ) (p : Position) → InBlock a b c d p → Member p (block a b c d)
block-from a b c d p h =
    let low : p.row < a + (b - a) = omega (arith, h.top, h.bottom) in
    let far : p.col < c + (d - c) = omega (arith, h.left, h.right) in
    flat_map-from (row_places c d) p.row p (range_with_len a (b - a)) (range-from p.row a (b - a) h.top low)
    (map-from (place p.row) p.col (range_with_len c (d - c)) (range-from p.col c (d - c) h.left far))

-- what a map finds at a place stands in the list of its rectangles
pub find-member : (es : List Rectangle) (p : Position) (size : Size) → find_at p es ≡ Some size → Member (rectangle p size) es
find-member [] p size is = absurd (none-some size is)
find-member (e ∷ es) p size is = of_first (is_eq (position_cmp p e.first)) refl is (find-member es p size)
  where
    of_first : (b : Bool) → is_eq (position_cmp p e.first) ≡ b → cond b (Some e.size) (find_at p es) ≡ Some size → (find_at p es ≡ Some size → Member (rectangle p size) es) → Member (rectangle p size) (e ∷ es)
    of_first true t is later = inl (ap₂ rectangle (positions_exact p e.first (equal _ t)) (sym (same_Some _ _ is)))
    of_first false f is later = inr (later is)

-- at the anchor of a rectangle of a list one is found
pub member-find : (es : List Rectangle) (f : Rectangle) → Member f es → (w : Size) × (find_at f.first es ≡ Some w)
member-find [] f none = absurd none
member-find (e ∷ es) f (inl same) = (e.size, ap (λ (y : Rectangle). cond (is_eq (position_cmp y.first e.first)) (Some e.size) (find_at y.first es)) same ∙ ap (λ r. cond (is_eq r) (Some e.size) (find_at e.first es)) (tied_itself positions_total e.first))
member-find (e ∷ es) f (inr m) = let rest = member-find es f m in elim (is_eq (position_cmp f.first e.first)) as (λ b. (w : Size) × (cond b (Some e.size) (find_at f.first es) ≡ Some w)) [ true ↦ (e.size, refl) | false ↦ rest ]

pub below-member : (p : Position) (es : List Rectangle) (f : Rectangle) → Below p es → Member f es → position_cmp p f.first ≡ Less
below-member p [] f below none = absurd none
below-member p (e ∷ es) f below (inl same) = ap (λ (y : Rectangle). position_cmp p y.first) same ∙ less _ (halves _ _ below).0
below-member p (e ∷ es) f below (inr m) = below-member p es f (halves _ _ below).1 m

-- in a sorted list one rectangle is anchored at each place
pub sorted-find : (es : List Rectangle) (f : Rectangle) → AreSorted es → Member f es → find_at f.first es ≡ Some f.size
sorted-find [] f up none = absurd none
sorted-find (e ∷ es) f up (inl same) = subst (λ (g : Rectangle). find_at g.first (e ∷ es) ≡ Some g.size) (sym same) (ap (λ r. cond (is_eq r) (Some e.size) (find_at e.first es)) (tied_itself positions_total e.first))
sorted-find (e ∷ es) f up (inr m) = ap (λ r. cond (is_eq r) (Some e.size) (find_at f.first es)) (above e.first f.first (below-member e.first es f (halves _ _ up).0 m)) ∙ sorted-find es f (halves _ _ up).1 m

-- a map has the rectangles of its list, and no others
pub member-get : (m : SpanMap) (e : Rectangle) → Member e (rectangles m) → get m e.first ≡ Some e.size
member-get m e i = get-rectangles m e.first ∙ sorted-find (rectangles m) e (rectangles_sorted m) i

pub get-member : (m : SpanMap) (e : Rectangle) → get m e.first ≡ Some e.size → Member e (rectangles m)
get-member m e is = find-member (rectangles m) e.first e.size (sym (get-rectangles m e.first) ∙ is)

below-filter : (test : Rectangle → Bool) (p : Position) (es : List Rectangle) → Below p es → Below p (filter test es)
below-filter test p [] below = tt
below-filter test p (e ∷ es) below =
    let rest = below-filter test p es (halves _ _ below).1 in
    elim (test e) as (λ b. Below p (cond b (e ∷ filter test es) (filter test es))) [ true ↦ both _ _ (halves _ _ below).0 rest | false ↦ rest ]

pub sorted-filter : (test : Rectangle → Bool) (es : List Rectangle) → AreSorted es → AreSorted (filter test es)
sorted-filter test [] up = tt
sorted-filter test (e ∷ es) up =
    let rest = sorted-filter test es (halves _ _ up).1 in
    elim (test e) as (λ b. AreSorted (cond b (e ∷ filter test es) (filter test es))) [ true ↦ both _ _ (below-filter test e.first es (halves _ _ up).0) rest | false ↦ rest ]
