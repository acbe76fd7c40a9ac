-- The places that an entity names, as blocks of places.
use Rattle.tabled_grid.proofs.Common.{[], ◌&&◌, ◌++◌, ◌+◌, ◌-◌, ◌<◌, ◌==◌, ◌∙◌, ◌∷◌, ◌≡◌, ◌≤◌, ◌↔◌, ◌⊎◌, All, All-append, All-filter, All-map, All-nil, AllByRecursion, Bool, In, List, Position, Rectangle, ap, ap₂, arith, block, cases_lt, column_named, common_steps, cond, drop, drop_at, drop_more, false, filter, filter-append, filter_agree, flat_map, get_or, get_or_append_left, inl, inr, inside, length, length-append, lines_named, map, names, ne_eqb, place, places_in, range_with_len, rectangle, recursion_from_All, refl, row_named, row_places, sized, sub_self, suc, sym, true, zero, ℕ}
use Rattle.std.proofs.lemmas.Bool.{eq-eqb}
use Rattle.std.proofs.lemmas.List.FromFn.{length-range_with_len, get_or-range_with_len, length-map-range_with_len, get_or-map-range_with_len}
use Rattle.tabled_grid.specs.declared.config.entity.Entity.{Entity}
use Rattle.tabled_grid.specs.declared.config.entity.Entity.TheVariants.{Global, Column, Row, Cell}

-- a filter that keeps all
filter_true : {X : Type 0} (xs : List X) → filter (λ (x : X). true) xs ≡ xs
filter_true [] = refl
filter_true (x ∷ xs) = ap (λ ys. x ∷ ys) (filter_true xs)

and_true : (b : Bool) → (b && true) ≡ b
and_true true = refl
and_true false = refl

map-kept : {X Y : Type 0} (f : X → Y) (b : Bool) (x : X) (xs : List X) (ys : List Y) → ys ≡ map f xs → cond b (f x ∷ ys) ys ≡ map f (cond b (x ∷ xs) xs)
map-kept f true x xs ys e = ap (λ zs. f x ∷ zs) e
map-kept f false x xs ys e = e

flat_map-kept : {X A : Type 0} (f : X → List A) (b : Bool) (x : X) (xs : List X) → cond b (f x) [] ++ flat_map f xs ≡ flat_map f (cond b (x ∷ xs) xs)
flat_map-kept f true x xs = refl
flat_map-kept f false x xs = refl

-- pieces that are empty make an empty list
flat_map_nil : {X A : Type 0} (f : X → List A) → ((x : X) → f x ≡ []) → (xs : List X) → flat_map f xs ≡ []
flat_map_nil f h [] = refl
flat_map_nil f h (x ∷ xs) = rw (h x) (flat_map_nil f h xs)

-- the places in some rows and some columns, row by row
abbrev pub places : List ℕ → List ℕ → List Position
places is js = flat_map (λ i. map (place i) js) is

-- a test on the row and one on the column
abbrev pub both : (ℕ → Bool) → (ℕ → Bool) → Position → Bool
both f g p = f p.row && g p.col

filter-row : (f g : ℕ → Bool) (i : ℕ) (js : List ℕ) (b : Bool) → f i ≡ b → filter (both f g) (map (place i) js) ≡ cond b (map (place i) (filter g js)) []
filter-row f g i [] true e = refl
filter-row f g i [] false e = refl
filter-row f g i (j ∷ js) true e = rw e (map-kept (place i) (g j) j (filter g js) (filter (both f g) (map (place i) js)) (filter-row f g i js true e))
filter-row f g i (j ∷ js) false e = rw e (filter-row f g i js false e)

pub filter-places : (f g : ℕ → Bool) (is js : List ℕ) → filter (both f g) (places is js) ≡ places (filter f is) (filter g js)
filter-places f g [] js = refl
filter-places f g (i ∷ is) js =
    filter-append (both f g) (map (place i) js) (places is js)
    ∙ rw (filter-row f g i js (f i) refl, filter-places f g is js) (flat_map-kept (λ k. map (place k) (filter g js)) (f i) i (filter f is))

-- no number from a on is below a
filter-below : (j a n : ℕ) → j < a → filter (λ k. k == j) (range_with_len a n) ≡ []
filter-below j a zero h = refl
filter-below j a (suc n) h = rw (ne_eqb a j (λ e. omega arith)) (filter-below j (a + 1) n (omega arith))

-- one of the n numbers from a on is the k-th, counted from 0
filter-at : (j a n k : ℕ) → a + k ≡ j → k < n → filter (λ i. i == j) (range_with_len a n) ≡ j ∷ []
filter-at j a zero k e l = absurd (omega arith)
filter-at j a (suc n) zero e l = grind (arith, common_steps, eq-eqb, filter-below)
filter-at j a (suc n) (suc k) e l = rw (ne_eqb a j (λ h. omega arith)) (filter-at j (a + 1) n k (omega arith) (omega arith))

pub filter-here : (j n : ℕ) → j < n → filter (λ i. i == j) (range_with_len 0 n) ≡ j ∷ []
filter-here j n h = filter-at j 0 n j (omega arith) h

pub filter-outside : (j a n : ℕ) → a + n ≤ j → filter (λ i. i == j) (range_with_len a n) ≡ []
filter-outside j a zero h = refl
filter-outside j a (suc n) h = rw (ne_eqb a j (λ e. omega arith)) (filter-outside j (a + 1) n (omega arith))

-- a block of n rows and m columns
pub block-is : (a b c d n m : ℕ) → b - a ≡ n → d - c ≡ m → block a b c d ≡ places (range_with_len a n) (range_with_len c m)
block-is a b c d n m e f = ap (λ k. places (range_with_len a k) (range_with_len c (d - c))) e ∙ ap (λ k. places (range_with_len a n) (range_with_len c k)) f

pub block-no_rows : (a b c d : ℕ) → b ≤ a → block a b c d ≡ []
block-no_rows a b c d h = block-is a b c d 0 (d - c) (omega arith) refl

pub block-no_columns : (a b c d : ℕ) → d ≤ c → block a b c d ≡ []
block-no_columns a b c d h = block-is a b c d (b - a) 0 refl (omega arith) ∙ flat_map_nil (λ (i : ℕ). []) (λ i. refl) (range_with_len a (b - a))

-- the first row, and the others
pub block-more : (a b c d : ℕ) → a < b → block a b c d ≡ row_places c d a ++ block (a + 1) b c d
block-more a b c d h = grind (arith, common_steps)

-- the rows past the first
pub drop-row : (a b c d : ℕ) → a < b → drop (d - c) (block a b c d) ≡ block (a + 1) b c d
drop-row a b c d h = rw (block-more a b c d h) (drop_at (row_places c d a) (block (a + 1) b c d) (d - c) (length-map-range_with_len (place a) c (d - c)))

-- the place in column j of the first row, and the places past it
pub drop-place : (a b c d j : ℕ) → a < b → c ≤ j → j < d → drop (j - c) (block a b c d) ≡ place a j ∷ drop (j + 1 - c) (block a b c d)
drop-place a b c d j h k l =
    let wide : length (row_places c d a) ≡ d - c = length-map-range_with_len (place a) c (d - c) in
    let inner : j - c < length (row_places c d a) = omega arith in
    let long : j - c < length (block a b c d) = rw (block-more a b c d h, length-append (row_places c d a) (block (a + 1) b c d)) (omega arith) in
    let first : get_or (block a b c d) (j - c) (place a j) ≡ place a j = rw (block-more a b c d h, get_or_append_left (row_places c d a) (block (a + 1) b c d) (place a j) (j - c) inner) (get_or-map-range_with_len (place a) c (d - c) (j - c) j (place a j) (omega arith) (omega arith)) in
    let next : j - c + 1 ≡ j + 1 - c = omega arith in
    drop_more (block a b c d) (j - c) (place a j) long ∙ rw (first, next) refl

-- the place p comes first of what is left, and the rest of its row next
pub first_in_row : (a b c d j : ℕ) (left : List Position) (p : Position) → drop (j - c) (block a b c d) ≡ left → p.row ≡ a → p.col ≡ j → a < b → c ≤ j → j < d → left ≡ p ∷ drop (j + 1 - c) (block a b c d)
first_in_row a b c d j left p e r s h k l = grind (arith, common_steps, drop-place)

-- the last of a row: the next row comes next
pub last_in_row : (a b c d j : ℕ) (left : List Position) (p : Position) → drop (j - c) (block a b c d) ≡ left → p.row ≡ a → p.col ≡ j → a < b → c ≤ j → j + 1 ≡ d → left ≡ p ∷ drop (c - c) (block (a + 1) b c d)
last_in_row a b c d j left p e r s h k l =
    first_in_row a b c d j left p e r s h k (omega arith)
    ∙ ap (λ n. p ∷ drop (n - c) (block a b c d)) l
    ∙ rw (drop-row a b c d h, sub_self) refl

-- the places of a table that a test on the row and one on the column keep
kept : (f g : ℕ → Bool) (r c : ℕ) (is js : List ℕ) → filter f (range_with_len 0 r) ≡ is → filter g (range_with_len 0 c) ≡ js → filter (both f g) (block 0 r 0 c) ≡ places is js
kept f g r c is js e k =
    filter-places f g (range_with_len 0 (r - 0)) (range_with_len 0 (c - 0))
    ∙ ap (λ ns. places ns (filter g (range_with_len 0 (c - 0)))) (ap (λ n. filter f (range_with_len 0 n)) (minus_zero r) ∙ e)
    ∙ ap (places is) (ap (λ n. filter g (range_with_len 0 n)) (minus_zero c) ∙ k)
  where
    minus_zero : (n : ℕ) → n - 0 ≡ n
    minus_zero n = omega arith

-- what each entity names, as a block
pub inside-Global : (r c : ℕ) → inside Global r c ≡ block 0 r 0 c
inside-Global r c = filter_true (block 0 r 0 c)

pub inside-Column : (j r c : ℕ) → j < c → inside (Column j) r c ≡ block 0 r j (j + 1)
inside-Column j r c h = kept (λ i. true) (λ i. i == j) r c (range_with_len 0 r) (j ∷ []) (filter_true (range_with_len 0 r)) (filter-here j c h) ∙ sym (block-is 0 r j (j + 1) r 1 (omega arith) (omega arith))

pub inside-Row : (i r c : ℕ) → i < r → inside (Row i) r c ≡ block i (i + 1) 0 c
inside-Row i r c h =
    filter_agree (names (Row i)) (both (λ k. k == i) (λ k. true)) (λ p. sym (and_true (p.row == i))) (block 0 r 0 c)
    ∙ kept (λ k. k == i) (λ k. true) r c (i ∷ []) (range_with_len 0 c) (filter-here i r h) (filter_true (range_with_len 0 c))
    ∙ sym (block-is i (i + 1) 0 c 1 c (omega arith) (omega arith))

pub inside-Cell : (i j r c : ℕ) → i < r → j < c → inside (Cell i j) r c ≡ block i (i + 1) j (j + 1)
inside-Cell i j r c h k = kept (λ n. n == i) (λ n. n == j) r c (i ∷ []) (j ∷ []) (filter-here i r h) (filter-here j c k) ∙ sym (block-is i (i + 1) j (j + 1) 1 1 (omega arith) (omega arith))

-- an entity outside names nothing
pub inside-no_column : (j r c : ℕ) → c ≤ j → inside (Column j) r c ≡ []
inside-no_column j r c h = kept (λ i. true) (λ i. i == j) r c (range_with_len 0 r) [] (filter_true (range_with_len 0 r)) (filter-outside j 0 c (omega arith)) ∙ flat_map_nil (λ (i : ℕ). []) (λ i. refl) (range_with_len 0 r)

pub inside-no_row : (i r c : ℕ) → r ≤ i → inside (Row i) r c ≡ []
inside-no_row i r c h =
    filter_agree (names (Row i)) (both (λ k. k == i) (λ k. true)) (λ p. sym (and_true (p.row == i))) (block 0 r 0 c)
    ∙ kept (λ k. k == i) (λ k. true) r c [] (range_with_len 0 c) (filter-outside i 0 r (omega arith)) (filter_true (range_with_len 0 c))

pub inside-no_cell : (i j r c : ℕ) → (r ≤ i) ⊎ (c ≤ j) → inside (Cell i j) r c ≡ []
inside-no_cell i j r c (inl h) = kept (λ n. n == i) (λ n. n == j) r c [] (filter (λ n. n == j) (range_with_len 0 c)) (filter-outside i 0 r (omega arith)) refl
inside-no_cell i j r c (inr h) = kept (λ n. n == i) (λ n. n == j) r c (filter (λ n. n == i) (range_with_len 0 r)) [] refl (filter-outside j 0 c (omega arith)) ∙ flat_map_nil (λ (n : ℕ). []) (λ n. refl) (filter (λ n. n == i) (range_with_len 0 r))

-- the block of those that an entity names
abbrev block_named : Entity → ℕ → ℕ → Rectangle
block_named e r c = rectangle (place (lines_named (row_named e) r).0 (lines_named (column_named e) c).0) (sized (lines_named (row_named e) r).1 (lines_named (column_named e) c).1)

pub inside-block : (e : Entity) (r c : ℕ) → inside e r c ≡ places_in (block_named e r c)
inside-block Global r c =
    let tall : r ≡ 0 + r = omega arith in
    let wide : c ≡ 0 + c = omega arith in
    inside-Global r c ∙ ap₂ (λ b d. block 0 b 0 d) tall wide
inside-block (Column j) r c = grind (arith, common_steps, inside-Column, inside-no_column, block-no_columns, cases_lt)
inside-block (Row i) r c = grind (arith, common_steps, inside-Row, inside-no_row, block-no_rows, cases_lt)
inside-block (Cell i j) r c = grind (arith, common_steps, inside-Cell, inside-no_cell, block-no_rows, block-no_columns, cases_lt)

pub named-in : (e : Entity) (r c : ℕ) (p : Position) → In (block_named e r c) p ↔ ((names e p ≡ true) × (p.row < r) × (p.col < c))
named-in Global r c p = grind (arith, common_steps)
named-in (Column j) r c p = grind (arith, common_steps, cases_lt)
named-in (Row i) r c p = grind (arith, common_steps, cases_lt)
named-in (Cell i j) r c p = grind (arith, common_steps, cases_lt)

-- what holds of each place in n rows and m columns
places-all : (P : Position → Type 0) (a n c m : ℕ) → ((i j : ℕ) → a ≤ i → i < a + n → c ≤ j → j < c + m → P (place i j)) → All P (places (range_with_len a n) (range_with_len c m))
places-all P a zero c m h = All-nil P
places-all P a (suc n) c m h = All-append P (map (place a) (range_with_len c m)) (places (range_with_len (a + 1) n) (range_with_len c m))
    (All-map P (place a) (range_with_len c m) (λ k d l.
    let below : k < m = omega (arith, length-range_with_len c m) in
    rw (get_or-range_with_len c m k d below) (h a (c + k) (omega arith) (omega arith) (omega arith) (omega arith))))
    (places-all P (a + 1) n c m (λ i j k l. h i j (omega arith) (omega arith)))

-- what holds of each place of a shape holds of those that an entity names
pub inside-all : (P : Position → Type 0) (e : Entity) (r c : ℕ) → ((i j : ℕ) → i < r → j < c → P (place i j)) → AllByRecursion P (inside e r c)
inside-all P e r c h = recursion_from_All _ _ (All-filter (names e) P (block 0 r 0 c) (places-all P 0 (r - 0) 0 (c - 0) (λ i j _ k _ l. h i j (omega arith) (omega arith))))

pub inside-within : (e : Entity) (r c : ℕ) → AllByRecursion (λ (p : Position). (p.row < r) × (p.col < c)) (inside e r c)
inside-within e r c = inside-all _ e r c (λ i j h k. (h, k))

-- a rectangle holds its places
pub places_in-all : (e : Rectangle) → AllByRecursion (In e) (places_in e)
places_in-all e = recursion_from_All _ _ (places-all (In e) e.first.row (e.first.row + e.size.height - e.first.row) e.first.col (e.first.col + e.size.width - e.first.col) (λ i j above below left right. record { top = above; bottom = omega arith; left = left; right = omega arith }))
