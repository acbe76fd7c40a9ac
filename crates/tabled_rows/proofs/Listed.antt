-- What iterators made of iterators give.
use denote.Ref.{Bor}
use Rattle.tabled_rows.proofs.Common.{[], ◌+◌, ◌<◌, ◌∙◌, ◌∷◌, ◌≡◌, Count, GivesEach, GivesLimited, GoesOverEach, IntoIter, Iter, List, None, Option, Shows, Skip, Some, Take, Yields, ap, ap₂, arith, at_most, common_steps, count_min, drop, drop_all, drop_more, get_or, get_or_from_slice_get, into_iter_items, into_iter_len, into_iter_steps, length, length-drop, map, nil_from_length, refl, repeat_n_count, repeat_n_item, repeat_n_steps, replicate, skip_count, skip_source, skip_steps, slice_get, subst, suc, sym, take, take_count, take_source, take_steps, vec_len, zero, ℕ}
use Rattle.std.specs.Slice.Iter.{iter_rest, iter_steps}
use Rattle.std.specs.declared.iter.RepeatN.{RepeatN}
use Rattle.std.proofs.lemmas.Option.{slice_get_within}
use Rattle.std.specs.declared.vec.Vec.{Vec}

some_item : {B : Type 0} (y : B) (ys : List B) → y ∷ ys ≡ [] → ⊥
some_item y ys e = omega (arith, ap length e)

-- an item came, which stands for the first of these, and the others are left
pub record Went {S A B : Type 0} (stands_for : A → B → Type 0) (left_of : S → List B → Type 0) (items : List B) (item : A) (left : S) : Type 0 where
  pub first : B
  pub others : List B
  pub are : items ≡ first ∷ others
  pub stands : stands_for item first
  pub leaves : left_of left others

module _ {S A B : Type 0} (next_gives : S → Option A → S → Type 0) (stands_for : A → B → Type 0) where
  -- J ties a state to what is left
  pub gives-by_state : (J : S → List B → Type 0) → ((s t : S) (ys : List B) → J s ys → next_gives s None t → ys ≡ []) → ((s t : S) (x : A) (ys : List B) → J s ys → next_gives s (Some x) t → Went stands_for J ys x t) → (ys : List B) (s : S) → J s ys → GivesEach next_gives stands_for s ys
  gives-by_state J none some [] s j = λ x t p. let o = some s t x [] j p in some_item o.first o.others (sym o.are)
  gives-by_state J none some (y ∷ ys) s j = (
    (λ t p. some_item y ys (none s t _ j p)),
    λ x t p. let o = some s t x _ j p in (subst (stands_for x) (sym (ap (λ xs. get_or xs 0 y) o.are)) o.stands, gives-by_state J none some ys t (subst (J t) (sym (ap (drop 1) o.are)) o.leaves)),
  )

  pub gives-ended : (ys : List B) (s t : S) → GivesEach next_gives stands_for s ys → next_gives s None t → ys ≡ []
  gives-ended [] s t g p = refl
  gives-ended (y ∷ ys) s t g p = absurd (g.0 t p)

  pub gives-went : (ys : List B) (s t : S) (x : A) → GivesEach next_gives stands_for s ys → next_gives s (Some x) t → Went stands_for (λ u zs. GivesEach next_gives stands_for u zs) ys x t
  gives-went [] s t x g p = absurd (g x t p)
  gives-went (y ∷ ys) s t x g p = let next = g.1 x t p in record { first = y; others = ys; are = refl; stands = next.0; leaves = next.1 }

  -- after some items the others are left
  pub gives-passed : (seen : List A) (ys : List B) (s t : S) → GivesEach next_gives stands_for s ys → Yields next_gives s seen t → GivesEach next_gives stands_for t (drop (length seen) ys)
  gives-passed [] ys s t g y = subst (λ u. GivesEach next_gives stands_for u ys) y g
  gives-passed (x ∷ seen) [] s t g y = absurd (g x y.0 y.1)
  gives-passed (x ∷ seen) (z ∷ ys) s t g y = gives-passed seen ys y.0 t (g.1 x y.0 y.1).1 y.2

take-ended : {B : Type 0} (n : ℕ) (ys : List B) → (0 < n → ys ≡ []) → take n ys ≡ []
take-ended zero ys e = refl
take-ended (suc n) ys e = ap (take (suc n)) (e (omega arith))

module _ {S A B : Type 0} (next_gives : S → Option A → S → Type 0) (stands_for : A → B → Type 0) where
  -- `take` gives the first items
  pub gives-take : (ys : List B) (s : Take S) → GivesEach next_gives stands_for (take_source s) ys → GivesEach (take_steps next_gives) stands_for s (take (take_count s) ys)
  gives-take ys s g = gives-by_state (take_steps next_gives) stands_for (λ u zs. (all : List B) × GivesEach next_gives stands_for (take_source u) all × (zs ≡ take (take_count u) all))
      (λ u t zs j p. j.2 ∙ take-ended (take_count u) j.0 (λ h. gives-ended next_gives stands_for j.0 _ _ j.1 (p h)))
      (λ u t x zs j p.
      let next = gives-went next_gives stands_for j.0 _ _ x j.1 p.0 in
      let more : take_count u ≡ suc (take_count t) = omega (arith, p.1) in
      record {
        first = next.first;
        others = take (take_count t) next.others;
        are = j.2 ∙ ap₂ take more next.are;
        stands = next.stands;
        leaves = (next.others, next.leaves, refl);
      })
      _ s (ys, g, refl)

  -- `skip` gives the items after the first
  pub gives-skip : (ys : List B) (s : Skip S) → GivesEach next_gives stands_for (skip_source s) ys → GivesEach (skip_steps next_gives) stands_for s (drop (skip_count s) ys)
  gives-skip ys s g = gives-by_state (skip_steps next_gives) stands_for (λ u zs. (all : List B) × GivesEach next_gives stands_for (skip_source u) all × (zs ≡ drop (skip_count u) all))
      (λ u t zs j p.
      let q = p.1 in
      let past = gives-ended next_gives stands_for _ _ _ (gives-passed next_gives stands_for q.0 j.0 _ _ j.1 q.1.1) q.1.2 in
      j.2 ∙ drop_all (skip_count u) j.0 (omega (arith, ap length past, length-drop (length q.0) j.0, q.2)))
      (λ u t x zs j p.
      let q = p.1 in
      let next = gives-went next_gives stands_for _ _ _ x (gives-passed next_gives stands_for q.0 j.0 _ _ j.1 q.1.1) q.1.2 in
      record {
        first = next.first;
        others = next.others;
        are = j.2 ∙ ap (λ n. drop n j.0) (sym q.2) ∙ next.are;
        stands = next.stands;
        leaves = (next.others, next.leaves, ap (λ n. drop n next.others) (sym p.0));
      })
      _ s (ys, g, refl)

-- an iterator gives what the one inside it gives
pub gives-inside : {S W A B : Type 0} (inside : W → S) (next_gives : S → Option A → S → Type 0) (stands_for : A → B → Type 0) (all : List B) (w : W) → GivesEach next_gives stands_for (inside w) all → GivesEach (λ old item new. next_gives (inside old) item (inside new)) stands_for w all
gives-inside inside next_gives stands_for [] w g = λ x t p. g x (inside t) p
gives-inside inside next_gives stands_for (y ∷ all) w g = (
  (λ t p. g.0 (inside t) p),
  λ x t p. let next = g.1 x (inside t) p in (next.0, gives-inside inside next_gives stands_for all t next.1),
)

-- an iterator that limits each row gives the limited rows
module _ {S U T W A B : Type 0} (next_gives : S → Option U → S → Type 0) (becomes : U → T → Type 0) (can : T → Type 0) (cell_gives : T → Option A → T → Type 0) (remaining : T → Count) (shows : A → B → Type 0) (rows_of : W → S) (limit_of : W → ℕ) where
  -- what a row gives, and what it gives limited
  abbrev gives-row : U → List B → Type 0
  gives-row row cells = GoesOverEach becomes can cell_gives remaining shows row cells

  abbrev gives-limited_row : Take T → List B → Type 0
  gives-limited_row row cells = GoesOverEach (λ s r. r ≡ s) (λ s. can (take_source s)) (λ s r t. take_steps cell_gives s r t) (λ s. count_min (at_most (take_count s)) (remaining (take_source s))) shows row cells

  limited_row : (n : ℕ) (row : U) (limited : Take T) (xs : List B) → gives-row row xs → becomes row (take_source limited) → take_count limited ≡ n → gives-limited_row limited (take n xs)
  limited_row n row limited xs over source long it same = grind (arith, common_steps, gives-take)

  pub gives-limited : (n : ℕ) (all : List (List B)) (w : W) → GivesEach next_gives gives-row (rows_of w) all → limit_of w ≡ n → GivesEach (λ s r t. GivesLimited next_gives becomes (limit_of s) (rows_of s) r (rows_of t) × (limit_of t ≡ limit_of s)) gives-limited_row w (map (take n) all)
  gives-limited n all w g is = gives-by_state (λ s r t. GivesLimited next_gives becomes (limit_of s) (rows_of s) r (rows_of t) × (limit_of t ≡ limit_of s)) gives-limited_row (λ u zs. (rest : List (List B)) × GivesEach next_gives gives-row (rows_of u) rest × (limit_of u ≡ n) × (zs ≡ map (take n) rest))
      (λ u t zs j p. j.3 ∙ ap (map (take n)) (gives-ended next_gives gives-row j.0 _ _ j.1 p.0))
      (λ u t x zs j p.
      let next = gives-went next_gives gives-row j.0 _ _ p.0.0 j.1 p.0.1 in
      record {
        first = take n next.first;
        others = map (take n) next.others;
        are = j.3 ∙ ap (map (take n)) next.are;
        stands = limited_row n p.0.0 x next.first next.stands p.0.2 (p.0.3 ∙ j.2);
        leaves = (next.others, next.leaves, p.1 ∙ j.2, refl);
      })
      _ w (all, g, is, refl)

-- a vector's iterator gives what f says of its items
pub gives-vec : {A B Z : Type 0} (f : A → B) (stands_for : A → B → Type 0) → ((x : A) → stands_for x (f x)) → (v : Vec A Z) (s : IntoIter A Z) → into_iter_items s ≡ v.items → into_iter_len s ≡ vec_len v → GivesEach (into_iter_steps {X = A} {Z = Z}) stands_for s (map f v.items)
gives-vec {A} {B} {Z} f stands_for is v s items long = gives-by_state (into_iter_steps {X = A} {Z = Z}) stands_for (λ u ys. (into_iter_len u ≡ length (into_iter_items u)) × (ys ≡ map f (into_iter_items u)))
    (λ u t ys j p. j.1 ∙ ap (map f) (nil_from_length (into_iter_items u) (omega (arith, j.0, p.0))))
    (λ u t x ys j p. record {
      first = f x;
      others = map f (into_iter_items t);
      are = j.1 ∙ ap (map f) p.0;
      stands = is x;
      leaves = (omega (arith, j.0, p.1, ap length p.0), refl);
    })
    _ s (omega (arith, ap length items, long, v.ok.0), ap (map f) (sym items))

-- an iterator whose state shows what is left
pub gives-shown : {S A B : Type 0} (next_gives : S → Option A → S → Type 0) (stands_for : A → B → Type 0) (rest : S → List B) (view : A → B) → ((x : A) → stands_for x (view x)) → ((s t : S) → next_gives s None t → length (rest s) ≡ 0) → ((s t : S) (x : A) → next_gives s (Some x) t → rest s ≡ view x ∷ rest t) → (s : S) → GivesEach next_gives stands_for s (rest s)
gives-shown next_gives stands_for rest view is stop go s = gives-by_state next_gives stands_for (λ u ys. ys ≡ rest u)
    (λ u t ys j p. j ∙ nil_from_length (rest u) (stop u t p))
    (λ u t x ys j p. record {
      first = view x;
      others = rest t;
      are = j ∙ go u t x p;
      stands = is x;
      leaves = refl;
    })
    _ s refl

-- a slice's iterator gives references to its items
pub gives-slice : {A : Type 0} (stands_for : Bor A → A → Type 0) → ((x : Bor A) → stands_for x x.now) → (s : Iter A) → GivesEach iter_steps stands_for s (iter_rest s)
gives-slice {A} stands_for is s = gives-shown (iter_steps {A = A}) stands_for iter_rest (λ x. x.now) is (λ u t p. p.0) (λ u t x p. p) s

-- `repeat_n` gives clones of its item
pub gives-repeat : {A B : Type 0} (clones : A → A → Type 0) (stands_for : A → B → Type 0) (x : B) (s : RepeatN A) → ((y : A) → clones (repeat_n_item s) y → stands_for y x) → GivesEach (repeat_n_steps clones) stands_for s (replicate (repeat_n_count s) x)
gives-repeat {A} {B} clones stands_for x s is = gives-by_state (repeat_n_steps clones) stands_for (λ u ys. (repeat_n_item u ≡ repeat_n_item s) × (ys ≡ replicate (repeat_n_count u) x))
    (λ u t ys j p. j.1 ∙ ap (λ n. replicate n x) p.1.0)
    (λ u t y ys j p.
    let more : repeat_n_count u ≡ suc (repeat_n_count t) = omega (arith, p.1.1) in
    record {
      first = x;
      others = replicate (repeat_n_count t) x;
      are = j.1 ∙ ap (λ n. replicate n x) more;
      stands = is y (subst (λ item. clones item y) j.0 p.1.0);
      leaves = (p.0 ∙ j.0, refl);
    })
    _ s (refl, refl)

-- `repeat_n` of `repeat_n` gives rows of one item
module _ {A B : Type 0} (shown : A → B) where
  abbrev row-clones : RepeatN A → RepeatN A → Type 0
  row-clones x y = (repeat_n_item y ≡ repeat_n_item x) × (repeat_n_count y ≡ repeat_n_count x)

  abbrev gives-cells : RepeatN A → List B → Type 0
  gives-cells row cells = GoesOverEach (λ u r. r ≡ u) (λ _. Unit {0}) (repeat_n_steps (λ x y. y ≡ x)) (λ u. at_most (repeat_n_count u)) (Shows shown) row cells

  filled_row : (row it : RepeatN A) → it ≡ row → (n : ℕ) (x : B) → repeat_n_count row ≡ n → shown (repeat_n_item row) ≡ x → GivesEach (repeat_n_steps (λ u v. v ≡ u)) (Shows shown) it (replicate n x)
  filled_row row it same n x many is = rw (same, ← many) (gives-repeat (λ u v. v ≡ u) (Shows shown) x row (λ y like. ap shown like ∙ is))

  pub gives-filled : (s : RepeatN (RepeatN A)) (rows columns : ℕ) (x : B) → repeat_n_count s ≡ rows → repeat_n_count (repeat_n_item s) ≡ columns → shown (repeat_n_item (repeat_n_item s)) ≡ x → GivesEach (repeat_n_steps row-clones) gives-cells s (replicate rows (replicate columns x))
  gives-filled s rows columns x tall wide is = grind (arith, common_steps, gives-repeat, filled_row)

-- the item at a place, and those past it
pub drop-get : {A : Type 0} (xs : List A) (i : ℕ) (x : A) → slice_get xs i ≡ Some x → drop i xs ≡ x ∷ drop (i + 1) xs
drop-get xs i x e = drop_more xs i x (slice_get_within xs i x e) ∙ ap (λ y. y ∷ drop (i + 1) xs) (get_or_from_slice_get xs i x x e)
