-- Numbers for the places of a shape, and how they are stepped.
use Rattle.tabled_grid.proofs.Common.{[], ◌%◌, ◌*◌, ◌++◌, ◌+◌, ◌-◌, ◌<◌, ◌||◌, ◌∙◌, ◌∷◌, ◌≡◌, ◌≤◌, ◌⊎◌, Bool, List, Position, Size, Stepped, Steps, ap, ap₂, area, arith, cases_Bool, common_steps, cond, false, get_or, get_or_append_left, inl, inr, length, map, map-append, or_right, place, range_with_len, refl, replicate, replicate-append-replicate, same_place, set, set-append_left, set-append_right, subst, suc, sym, table, true, zero, ℕ}
use Rattle.tabled_grid.proofs.Places.{block-is, places}
use Rattle.tabled_grid.proofs.SpanMaps.{same_place-apart, same_place-self}

-- the numbers of one row, from a column on
row_of : (Position → ℕ) → ℕ → ℕ → ℕ → List ℕ
row_of f i c m = map f (map (place i) (range_with_len c m))

length-row : (f : Position → ℕ) (i c m : ℕ) → length (row_of f i c m) ≡ m
unfolding row_of
length-row f i c zero = refl
length-row f i c (suc m) = ap suc (length-row f i (c + 1) m)

row-agree : (f g : Position → ℕ) (i c m : ℕ) → ((j : ℕ) → c ≤ j → j < c + m → f (place i j) ≡ g (place i j)) → row_of f i c m ≡ row_of g i c m
unfolding row_of
row-agree f g i c zero h = refl
row-agree f g i c (suc m) h = ap₂ (λ x xs. x ∷ xs) (h c (omega arith) (omega arith)) (row-agree f g i (c + 1) m (λ j l k. h j (omega arith) (omega arith)))

set-row : (f g : Position → ℕ) (i c m k x : ℕ) → k < m → g (place i (c + k)) ≡ x → ((j : ℕ) → c ≤ j → j < c + m → (j ≡ c + k → ⊥) → f (place i j) ≡ g (place i j)) → set (row_of f i c m) k x ≡ row_of g i c m
unfolding row_of
set-row f g i c zero k x h is others = absurd (omega arith)
set-row f g i c (suc m) zero x h is others =
    let first : x ≡ g (place i c) = sym (subst (λ n. g (place i n) ≡ x) (omega arith) is) in
    ap₂ (λ y ys. y ∷ ys) first (row-agree f g i (c + 1) m (λ j l k. others j (omega arith) (omega arith) (λ e. omega arith)))
set-row f g i c (suc m) (suc k) x h is others =
    ap₂ (λ y ys. y ∷ ys) (others c (omega arith) (omega arith) (λ e. omega arith))
    (set-row f g i (c + 1) m k x (omega arith) (subst (λ n. g (place i n) ≡ x) (omega arith) is) (λ j l u n. others j (omega arith) (omega arith) (λ e. n (omega arith))))

get-row : (f : Position → ℕ) (i c m k d : ℕ) → k < m → get_or (row_of f i c m) k d ≡ f (place i (c + k))
unfolding row_of
get-row f i c zero k d h = absurd (omega arith)
get-row f i c (suc m) zero d h = ap (λ n. f (place i n)) (omega arith)
get-row f i c (suc m) (suc k) d h = get-row f i (c + 1) m k d (omega arith) ∙ ap (λ n. f (place i n)) (omega arith)

-- the numbers of n rows, from one on
rows_of : (Position → ℕ) → ℕ → ℕ → ℕ → List ℕ
rows_of f a zero m = []
rows_of f a (suc n) m = row_of f a 0 m ++ rows_of f (a + 1) n m

rows-are : (f : Position → ℕ) (a n m : ℕ) → map f (places (range_with_len a n) (range_with_len 0 m)) ≡ rows_of f a n m
unfolding row_of rows_of
rows-are f a zero m = refl
rows-are f a (suc n) m = map-append f (map (place a) (range_with_len 0 m)) (places (range_with_len (a + 1) n) (range_with_len 0 m)) ∙ ap (λ ys. row_of f a 0 m ++ ys) (rows-are f (a + 1) n m)

rows-agree : (f g : Position → ℕ) (a n m : ℕ) → ((i j : ℕ) → a ≤ i → i < a + n → j < m → f (place i j) ≡ g (place i j)) → rows_of f a n m ≡ rows_of g a n m
unfolding rows_of
rows-agree f g a zero m h = refl
rows-agree f g a (suc n) m h = ap₂ (λ xs ys. xs ++ ys) (row-agree f g a 0 m (λ j l k. h a j (omega arith) (omega arith) (omega arith))) (rows-agree f g (a + 1) n m (λ i j l k u. h i j (omega arith) (omega arith) u))

set-rows : (f g : Position → ℕ) (a n m i j k x : ℕ) → i < n → j < m → k ≡ i * m + j → g (place (a + i) j) ≡ x → ((r c : ℕ) → a ≤ r → r < a + n → c < m → ((r ≡ a + i) × (c ≡ j) → ⊥) → f (place r c) ≡ g (place r c)) → set (rows_of f a n m) k x ≡ rows_of g a n m
unfolding rows_of
set-rows f g a zero m i j k x h l e is others = absurd (omega arith)
set-rows f g a (suc n) m zero j k x h l e is others =
    let here : k ≡ j = omega (arith, e) in
    let first : g (place a (0 + j)) ≡ x = subst (λ r. g (place r (0 + j)) ≡ x) (omega arith) (subst (λ c. g (place (a + 0) c) ≡ x) (omega arith) is) in
    rw here (set-append_left (row_of f a 0 m) (rows_of f (a + 1) n m) j x (omega (arith, length-row f a 0 m))
    ∙ ap₂ (λ xs ys. xs ++ ys) (set-row f g a 0 m j x l first (λ c u v w. others a c (omega arith) (omega arith) (omega arith) (λ same. w (omega (arith, same.1)))))
    (rows-agree f g (a + 1) n m (λ r c u v w. others r c (omega arith) (omega arith) w (λ same. omega (arith, same.0)))))
set-rows f g a (suc n) m (suc i) j k x h l e is others =
    let later : m ≤ k = omega (arith, e) in
    let rest : k - m ≡ i * m + j = omega (arith, e) in
    set-append_right (row_of f a 0 m) (rows_of f (a + 1) n m) m k x (length-row f a 0 m) later
    ∙ ap₂ (λ xs ys. xs ++ ys) (row-agree f g a 0 m (λ c u v. others a c (omega arith) (omega arith) (omega arith) (λ same. omega (arith, same.0))))
    (set-rows f g (a + 1) n m i j (k - m) x (omega arith) l rest (subst (λ r. g (place r j) ≡ x) (omega arith) is) (λ r c u v w apart. others r c (omega arith) (omega arith) w (λ same. apart (omega (arith, same.0), same.1))))

get_or-past : (xs ys : List ℕ) (d n : ℕ) → get_or (xs ++ ys) (length xs + n) d ≡ get_or ys n d
get_or-past [] ys d n = grind (arith, common_steps)
get_or-past (x ∷ xs) ys d n =
    let more : suc (length xs) + n ≡ suc (length xs + n) = omega arith in
    ap (λ k. get_or (x ∷ (xs ++ ys)) k d) more ∙ get_or-past xs ys d n

get-rows : (f : Position → ℕ) (a n m i j k d : ℕ) → i < n → j < m → k ≡ i * m + j → get_or (rows_of f a n m) k d ≡ f (place (a + i) j)
unfolding rows_of
get-rows f a zero m i j k d h l e = absurd (omega arith)
get-rows f a (suc n) m zero j k d h l e =
    let here : k ≡ j = omega (arith, e) in
    rw here (get_or_append_left (row_of f a 0 m) (rows_of f (a + 1) n m) d j (omega (arith, length-row f a 0 m)) ∙ get-row f a 0 m j d l ∙ ap₂ (λ r c. f (place r c)) (omega arith) (omega arith))
get-rows f a (suc n) m (suc i) j k d h l e =
    let split : k ≡ length (row_of f a 0 m) + (i * m + j) = omega (arith, e, length-row f a 0 m) in
    rw split (get_or-past (row_of f a 0 m) (rows_of f (a + 1) n m) d (i * m + j) ∙ get-rows f (a + 1) n m i j (i * m + j) d (omega arith) l refl ∙ ap (λ r. f (place r j)) (omega arith))

table-is : (f : Position → ℕ) (size : Size) → table f size ≡ rows_of f 0 size.height size.width
table-is f size = ap (map f) (block-is 0 size.height 0 size.width size.height size.width (omega arith) (omega arith)) ∙ rows-are f 0 size.height size.width

pub table-agree : (f g : Position → ℕ) (size : Size) → ((i j : ℕ) → i < size.height → j < size.width → f (place i j) ≡ g (place i j)) → table f size ≡ table g size
table-agree f g size h = table-is f size ∙ rows-agree f g 0 size.height size.width (λ i j l k u. h i j (omega arith) u) ∙ sym (table-is g size)

pub get-table : (f : Position → ℕ) (size : Size) (i j k d : ℕ) → i < size.height → j < size.width → k ≡ i * size.width + j → get_or (table f size) k d ≡ f (place i j)
get-table f size i j k d h l e = ap (λ xs. get_or xs k d) (table-is f size) ∙ get-rows f 0 size.height size.width i j k d h l e ∙ ap (λ r. f (place r j)) (omega arith)

pub set-table : (f g : Position → ℕ) (size : Size) (i j k x : ℕ) → i < size.height → j < size.width → k ≡ i * size.width + j → g (place i j) ≡ x → ((r c : ℕ) → r < size.height → c < size.width → ((r ≡ i) × (c ≡ j) → ⊥) → f (place r c) ≡ g (place r c)) → set (table f size) k x ≡ table g size
set-table f g size i j k x h l e is others =
    ap (λ xs. set xs k x) (table-is f size)
    ∙ set-rows f g 0 size.height size.width i j k x h l e (subst (λ r. g (place r j) ≡ x) (omega arith) is) (λ r c u v w apart. others r c (omega arith) w (λ same. apart (omega (arith, same.0), same.1)))
    ∙ sym (table-is g size)

pub table-zero : (size : Size) → table (λ p. 0) size ≡ replicate (area size) 0
unfolding row_of rows_of
table-zero size = table-is (λ p. 0) size ∙ zeros 0 size.height
  where
    zero_row : (i c m : ℕ) → row_of (λ p. 0) i c m ≡ replicate m 0
    zero_row i c zero = refl
    zero_row i c (suc m) = ap (λ xs. 0 ∷ xs) (zero_row i (c + 1) m)

    zeros : (a n : ℕ) → rows_of (λ p. 0) a n size.width ≡ replicate (n * size.width) 0
    zeros a zero = grind (arith, common_steps)
    zeros a (suc n) = ap₂ (λ xs ys. xs ++ ys) (zero_row a 0 size.width) (zeros (a + 1) n) ∙ replicate-append-replicate size.width (n * size.width) 0 ∙ (let all : size.width + n * size.width ≡ suc n * size.width = omega arith in ap (λ k. replicate k 0) all)

-- a list that is stepped nowhere
pub steps_nowhere : (xs : List ℕ) (test : Position → Bool) (step limit : ℕ) (size : Size) → ((i j : ℕ) → i < size.height → j < size.width → test (place i j) ≡ false) → Steps xs xs test step limit size
steps_nowhere xs test step limit size none = record { is = λ f g stepped is. is ∙ table-agree f g size (λ i j h k. sym (stepped.others i j h k (none i j h k))) }

-- at the places that pass another test, which says the same inside the shape
pub steps_same : (xs ys : List ℕ) (test other : Position → Bool) (step limit : ℕ) (size : Size) → ((i j : ℕ) → i < size.height → j < size.width → test (place i j) ≡ other (place i j)) → Steps xs ys test step limit size → Steps xs ys other step limit size
steps_same xs ys test other step limit size same steps = record { is = λ f g stepped is. steps.is f g (record { here = λ i j h k t. stepped.here i j h k (sym (same i j h k) ∙ t); others = λ i j h k t. stepped.others i j h k (sym (same i j h k) ∙ t) }) is }

-- one set of places after another that has none of them
module _ (first second all : Position → Bool) (step limit : ℕ) (size : Size)
    (covers : (i j : ℕ) → i < size.height → j < size.width → all (place i j) ≡ (first (place i j) || second (place i j)))
    (apart : (i j : ℕ) → i < size.height → j < size.width → first (place i j) ≡ true → second (place i j) ≡ true → ⊥)
    (f g : Position → ℕ) (stepped : Stepped all step limit size f g) where
  between : Position → ℕ
  between p = cond (second p) (f p) (g p)

  at : (i j : ℕ) (b : Bool) → second (place i j) ≡ b → between (place i j) ≡ cond b (f (place i j)) (g (place i j))
  unfolding between
  at i j b e = ap (λ (c : Bool). cond c (f (place i j)) (g (place i j))) e

  step_first : Stepped first step limit size f between
  step_first = record {
    here = λ i j h k t. stepped-here i j h k t (cases_Bool (second (place i j)));
    others = λ i j h k t. stepped-others i j h k t (cases_Bool (second (place i j)));
  }
    where
      stepped-here : (i j : ℕ) → i < size.height → j < size.width → first (place i j) ≡ true → (second (place i j) ≡ true) ⊎ (second (place i j) ≡ false) → between (place i j) ≡ (f (place i j) + step) % limit
      stepped-here i j h k t (inl s) = absurd (apart i j h k t s)
      stepped-here i j h k t (inr n) = at i j false n ∙ stepped.here i j h k (covers i j h k ∙ ap₂ (λ a b. a || b) t n)

      stepped-others : (i j : ℕ) → i < size.height → j < size.width → first (place i j) ≡ false → (second (place i j) ≡ true) ⊎ (second (place i j) ≡ false) → between (place i j) ≡ f (place i j)
      stepped-others i j h k t (inl s) = at i j true s
      stepped-others i j h k t (inr n) = at i j false n ∙ stepped.others i j h k (covers i j h k ∙ ap₂ (λ a b. a || b) t n)

  step_second : Stepped second step limit size between g
  step_second = record {
    here = λ i j h k t. stepped.here i j h k (covers i j h k ∙ or_right (first (place i j)) (second (place i j)) t) ∙ ap (λ n. (n + step) % limit) (sym (at i j true t));
    others = λ i j h k t. sym (at i j false t);
  }

pub steps_joined : (xs ys zs : List ℕ) (first second all : Position → Bool) (step limit : ℕ) (size : Size) →
    ((i j : ℕ) → i < size.height → j < size.width → all (place i j) ≡ (first (place i j) || second (place i j))) →
    ((i j : ℕ) → i < size.height → j < size.width → first (place i j) ≡ true → second (place i j) ≡ true → ⊥) →
    Steps xs ys first step limit size → Steps ys zs second step limit size → Steps xs zs all step limit size
steps_joined xs ys zs first second all step limit size covers apart one two = record {
  is = λ f g stepped is.
      two.is (between first second all step limit size covers apart f g stepped) g (step_second first second all step limit size covers apart f g stepped)
      (one.is f (between first second all step limit size covers apart f g stepped) (step_first first second all step limit size covers apart f g stepped) is);
}

-- one place
pub steps_one : (xs : List ℕ) (i j k d x step limit : ℕ) (size : Size) → i < size.height → j < size.width → k ≡ i * size.width + j → x ≡ (get_or xs k d + step) % limit → Steps xs (set xs k x) (same_place (place i j)) step limit size
steps_one xs i j k d x step limit size h l e value = record {
  is = λ f g stepped is.
      let here : g (place i j) ≡ x = stepped.here i j h l (same_place-self (place i j)) ∙ ap (λ n. (n + step) % limit) (sym (ap (λ ys. get_or ys k d) is ∙ get-table f size i j k d h l e)) ∙ sym value in
      ap (λ ys. set ys k x) is ∙ set-table f g size i j k x h l e here (λ r c u v apart. sym (stepped.others r c u v (same_place-apart (place i j) (place r c) (λ same. apart (ap (λ (p : Position). p.row) (sym same), ap (λ (p : Position). p.col) (sym same))))));
}
