-- Counted of entities, of which some are passed over.
use Rattle.tabled_steps.proofs.Common.{[], ◌%◌, ◌*◌, ◌++◌, ◌+◌, ◌-◌, ◌/◌, ◌<◌, ◌∙◌, ◌∷◌, ◌≡◌, ◌≤◌, ◌⊎◌, AllByRecursion, AreGroups, Entity, Group, IsGroup, List, Position, Skips, StepsBy, all-append, ap, append_assoc, ap₂, arith, cases_lt, div-mul-le_self, drop, drop-map, every, every-from, every_from, flat_map-append, inl, inr, inside, map, mod-eq-sub-div-mul, mod-lt, named_places, once, refl, replicate, subst, suc, suc-mul, sym, unrolled, zero, ℕ}
use Rattle.std.proofs.Common.{append-nil}
use Rattle.tabled_steps.proofs.Outside.{each_once}

every_from-map : {A B : Type 0} (f : A → B) (n k : ℕ) (xs : List A) → every_from n k (map f xs) ≡ map f (every_from n k xs)
every_from-map f n k [] = refl
every_from-map f n zero (x ∷ xs) = ap (λ ys. f x ∷ ys) (every_from-map f n n xs)
every_from-map f n (suc k) (x ∷ xs) = every_from-map f n k xs

module _ {X : Type 0} (x : X) (rest : List X) where
  -- n of equal members are dropped
  pub drop-group : (n k : ℕ) → drop n (replicate k x ++ rest) ≡ replicate (k - n) x ++ drop (n - k) rest
  drop-group zero k =
      let all : k ≡ k - 0 = omega arith in
      let none : 0 ≡ 0 - k = omega arith in
      ap₂ (λ i j. replicate i x ++ drop j rest) all none
  drop-group (suc n) zero =
      let none : 0 ≡ 0 - suc n = omega arith in
      let all : suc n ≡ suc n - 0 = omega arith in
      ap₂ (λ i j. replicate i x ++ drop j rest) none all
  drop-group (suc n) (suc k) =
      let left : k - n ≡ suc k - suc n = omega arith in
      let over : n - k ≡ suc n - suc k = omega arith in
      drop-group n k ∙ ap₂ (λ i j. replicate i x ++ drop j rest) left over

  pub drop-past : (n k : ℕ) → k ≤ n → drop n (replicate k x ++ rest) ≡ drop (n - k) rest
  drop-past n k h = let none : k - n ≡ 0 = omega arith in drop-group n k ∙ ap (λ i. replicate i x ++ drop (n - k) rest) none

  pub drop-into : (n k : ℕ) → n < k → drop n (replicate k x ++ rest) ≡ replicate (k - n) x ++ drop 0 rest
  drop-into n k h = let none : n - k ≡ 0 = omega arith in drop-group n k ∙ ap (λ j. replicate (k - n) x ++ drop j rest) none

  -- a group is passed over
  pub every_from-past : (n k m : ℕ) → m ≤ k → every_from n k (replicate m x ++ rest) ≡ every_from n (k - m) rest
  every_from-past n k zero h = let all : k ≡ k - 0 = omega arith in ap (λ i. every_from n i rest) all
  every_from-past n zero (suc m) h = absurd (omega arith)
  every_from-past n (suc k) (suc m) h = let left : k - m ≡ suc k - suc m = omega arith in every_from-past n k m (omega arith) ∙ ap (λ i. every_from n i rest) left

  -- it is passed over in part
  every_from-into : (n k m : ℕ) → k ≤ m → every_from n k (replicate m x ++ rest) ≡ every_from n 0 (replicate (m - k) x ++ rest)
  every_from-into n zero m h = let all : m ≡ m - 0 = omega arith in ap (λ i. every_from n 0 (replicate i x ++ rest)) all
  every_from-into n (suc k) zero h = absurd (omega arith)
  every_from-into n (suc k) (suc m) h = let left : m - k ≡ suc m - suc k = omega arith in every_from-into n k m (omega arith) ∙ ap (λ i. every_from n 0 (replicate i x ++ rest)) left

  -- of m equal members t are met
  every_from-met : (n t m : ℕ) → m ≤ t * suc n → t * suc n < m + suc n → every_from n 0 (replicate m x ++ rest) ≡ replicate t x ++ every_from n (t * suc n - m) rest
  every_from-met n zero zero low high = let none : 0 ≡ 0 * suc n - 0 = omega arith in ap (λ i. every_from n i rest) none
  every_from-met n zero (suc m) low high = absurd (omega arith)
  every_from-met n (suc t) zero low high = absurd (omega (arith, suc-mul t (suc n)))
  every_from-met n (suc t) (suc m) low high = elim (cases_lt n m) [
    | inl many ↦
        let left : t * suc n - (m - n) ≡ suc t * suc n - suc m = omega (arith, suc-mul t (suc n)) in
        ap (λ ys. x ∷ ys) (every_from-into n n m (omega arith) ∙ every_from-met n t (m - n) (omega (arith, suc-mul t (suc n))) (omega (arith, suc-mul t (suc n))) ∙ ap (λ i. replicate t x ++ every_from n i rest) left)
    | inr few ↦
        let one : 0 ≡ t = only t few high in
        let first : n - m ≡ suc 0 * suc n - suc m = omega (arith, suc-mul 0 (suc n)) in
        let left = first ∙ ap (λ i. suc i * suc n - suc m) one in
        ap (λ ys. x ∷ ys) (every_from-past n n m few) ∙ ap₂ (λ i j. x ∷ (replicate i x ++ every_from n j rest)) one left
  ]
    where
      only : (t : ℕ) → m ≤ n → suc t * suc n < suc m + suc n → 0 ≡ t
      only zero few high = refl
      only (suc t) few high = absurd (omega (arith, suc-mul (suc t) (suc n), suc-mul t (suc n)))

  -- of the members past the first k
  pub every_from-group : (n k m : ℕ) → k < m → every_from n k (replicate m x ++ rest) ≡ replicate ((m - k - 1) / suc n + 1) x ++ every_from n (n - (m - k - 1) % suc n) rest
  every_from-group n k m h =
      let more = m - k - 1 in
      let q = more / suc n in
      let parts = div_mod more n in
      let met = every_from-met n (q + 1) (m - k) (omega (arith, parts.0, parts.1, times q)) (omega (arith, parts.0, parts.1, times q)) in
      let left : (q + 1) * suc n - (m - k) ≡ n - more % suc n = omega (arith, parts.0, parts.1, times q) in
      every_from-into n k m (omega arith) ∙ met ∙ ap (λ i. replicate (q + 1) x ++ every_from n i rest) left
    where
      div_mod : (a n : ℕ) → (a ≡ a / suc n * suc n + a % suc n) × (a % suc n ≤ n)
      div_mod a n = (omega (arith, mod-eq-sub-div-mul a (suc n), div-mul-le_self a (suc n)), (let below = mod-lt a {m = suc n} (omega arith) in omega arith))

      times : (q : ℕ) → (q + 1) * suc n ≡ q * suc n + suc n
      times q = let one : q + 1 ≡ suc q = omega arith in ap (λ i. i * suc n) one ∙ suc-mul q (suc n)

-- the same with the step itself
pub step-into : {X : Type 0} (x : X) (rest : List X) (n k m : ℕ) → 0 < n → k < m → every_from (n - 1) k (replicate m x ++ rest) ≡ replicate ((m - k - 1) / n + 1) x ++ every_from (n - 1) (n - 1 - (m - k - 1) % n) rest
step-into x rest zero k m some h = absurd (omega arith)
step-into x rest (suc n) k m some h =
    let gap : n ≡ suc n - 1 = omega arith in
    subst (λ g. every_from g k (replicate m x ++ rest) ≡ replicate ((m - k - 1) / suc n + 1) x ++ every_from g (g - (m - k - 1) % suc n) rest) gap (every_from-group x rest n k m h)

every-map : {A B : Type 0} (f : A → B) (n : ℕ) (xs : List A) → every n (map f xs) ≡ map f (every n xs)
every-map f zero xs = refl
every-map f (suc n) xs =
    let start : 0 + 0 ≡ 0 * suc n = omega arith in
    every-from n 0 0 0 (map f xs) (omega arith) start ∙ every_from-map f n 0 xs ∙ ap (map f) (sym (every-from n 0 0 0 xs (omega arith) start))

-- how groups are gone through: by what is passed over at first
abbrev pub Passing : Type 0
Passing = ℕ → List (List Position) → List (List Position)

-- what was left of some groups, with n to be passed over in the rest
pub record Passed (pass : Passing) (all : List (List Position)) (rows columns : ℕ) (ahead : ℕ) (rest left : List Group) : Type 0 where
  pub same : unrolled rows columns left ++ pass ahead (unrolled rows columns rest) ≡ all
  pub rest_each : AllByRecursion (IsGroup rows columns) rest
  pub left_each : AllByRecursion (IsGroup rows columns) left

module _ (pass : Passing) (all : List (List Position)) (rows columns : ℕ) where
  -- a group is passed over
  pub passed-past : (ahead next : ℕ) (group : Group) (rest left : List Group)
      → ((x : List Position) (ps : List (List Position)) → pass ahead (replicate group.count x ++ ps) ≡ pass next ps)
      → Passed pass all rows columns ahead (group ∷ rest) left → Passed pass all rows columns next rest left
  passed-past ahead next group rest left passes so_far = record {
    same = ap (λ ps. unrolled rows columns left ++ ps) (sym (passes (inside group.entity rows columns) (unrolled rows columns rest))) ∙ so_far.same;
    rest_each = so_far.rest_each.1;
    left_each = so_far.left_each;
  }

  -- n of a group are left
  pub passed-into : (ahead next : ℕ) (group part : Group) (rest left now : List Group)
      → now ≡ left ++ part ∷ [] → part.entity ≡ group.entity → 1 ≤ part.count → part.count ≤ group.count
      → ((x : List Position) (ps : List (List Position)) → pass ahead (replicate group.count x ++ ps) ≡ replicate part.count x ++ pass next ps)
      → Passed pass all rows columns ahead (group ∷ rest) left → Passed pass all rows columns next rest now
  passed-into ahead next group part rest left now is same some few meets so_far = rw is (record {
    same =
        let f = λ (r : Group). replicate r.count (inside r.entity rows columns) in
        let later = pass next (unrolled rows columns rest) in
        let here : replicate part.count (inside part.entity rows columns) ≡ replicate part.count (inside group.entity rows columns) = ap (λ (e : Entity). replicate part.count (inside e rows columns)) same in
        let part_is : f part ++ [] ≡ replicate part.count (inside group.entity rows columns) = append-nil (f part) ∙ here in
        ap (λ ps. ps ++ later) (flat_map-append f left (part ∷ []))
        ∙ append_assoc (unrolled rows columns left) (f part ++ []) later
        ∙ ap (λ ps. unrolled rows columns left ++ ps) (ap (λ ps. ps ++ later) part_is ∙ sym (meets (inside group.entity rows columns) (unrolled rows columns rest)))
        ∙ so_far.same;
    rest_each = so_far.rest_each.1;
    left_each = all-append (IsGroup rows columns) left (part ∷ []) so_far.left_each (rw same (one so_far.rest_each.0), tt);
  })
    where
      one : IsGroup rows columns group → (part.count ≡ 1) ⊎ ((1 ≤ part.count) × (inside group.entity rows columns ≡ []))
      one (inl alone) = inl (omega arith)
      one (inr (many, none)) = inr (some, none)

  -- nothing is left to be gone through
  pub passed-all : (ahead : ℕ) (left : List Group) → pass ahead [] ≡ [] → Passed pass all rows columns ahead [] left → unrolled rows columns left ≡ all
  passed-all ahead left none so_far = sym (append-nil (unrolled rows columns left)) ∙ ap (λ ps. unrolled rows columns left ++ ps) (sym none) ∙ so_far.same

-- what was passed over, for whatever table
abbrev pub PassedGroups : Passing → ℕ → List Group → ℕ → List Group → List Group → Type 0
PassedGroups pass first all ahead rest left = (rows columns : ℕ) → AllByRecursion (IsGroup rows columns) all → Passed pass (pass first (unrolled rows columns all)) rows columns ahead rest left

-- groups of one entity each name what these entities name
module _ (rows columns : ℕ) (entities listed : List Entity) (grouped : AreGroups rows columns entities (map once listed)) where
  same_places : named_places rows columns entities ≡ named_places rows columns listed
  same_places = grouped.same ∙ sym (each_once rows columns listed).same

  pub once-skipped : (n : ℕ) (left : List Entity) → left ≡ drop n listed → AreGroups rows columns (drop n entities) (map once left)
  once-skipped n left is =
      let all = each_once rows columns (drop n listed) in
      rw is (record {
        same = sym (drop-map (λ (e : Entity). inside e rows columns) n entities) ∙ ap (drop n) same_places ∙ drop-map (λ (e : Entity). inside e rows columns) n listed ∙ all.same;
        each = all.each;
      })

  pub once-stepped : (n : ℕ) (left : List Entity) → left ≡ every n listed → AreGroups rows columns (every n entities) (map once left)
  once-stepped n left is =
      let all = each_once rows columns (every n listed) in
      rw is (record {
        same = sym (every-map (λ (e : Entity). inside e rows columns) n entities) ∙ ap (every n) same_places ∙ every-map (λ (e : Entity). inside e rows columns) n listed ∙ all.same;
        each = all.each;
      })

pub skipped : (n : ℕ) (all left : List Group) (ahead : ℕ) → PassedGroups drop n all ahead [] left → Skips n all left
skipped n all left ahead passed rows columns entities grouped =
    let end = passed rows columns grouped.each in
    record {
      same = sym (drop-map (λ (e : Entity). inside e rows columns) n entities) ∙ ap (drop n) grouped.same ∙ sym (passed-all drop _ rows columns ahead left (drop_none ahead) end);
      each = end.left_each;
    }
  where
    none : List (List Position)
    none = []

    drop_none : (n : ℕ) → drop n none ≡ none
    drop_none zero = refl
    drop_none (suc n) = refl

pub stepped : (n : ℕ) (all left : List Group) (ahead : ℕ) → PassedGroups (every_from n) 0 all ahead [] left → StepsBy (suc n) all left
stepped n all left ahead passed rows columns entities grouped =
    let end = passed rows columns grouped.each in
    let every_is = every-from n 0 0 0 entities (omega arith) (omega arith) in
    record {
      same = ap (named_places rows columns) every_is ∙ sym (every_from-map (λ (e : Entity). inside e rows columns) n 0 entities) ∙ ap (every_from n 0) grouped.same ∙ sym (passed-all (every_from n) _ rows columns ahead left refl end);
      each = end.left_each;
    }
