-- Slots, row by row, and the cells that cover them.
use Rattle.std.proofs.Common.{◌≡◌, ◌≢◌, ◌+◌, ◌-◌, ◌<◌, ◌≤◌, ◌⊎◌, ◌++◌, ◌∙◌, ℕ, Bool, true, false, List, [], ◌∷◌, ap, arith, cond, eqb, fold, inl, inr, map, ne_eqb, refl, suc, zero}
use Rattle.std.proofs.lemmas.Bool.{cases_eq, cond-false, cond-true, or_from}
use Rattle.std.proofs.lemmas.Bool.Decides.{nat_tests}
use Rattle.std.specs.List.{filter}
use Rattle.tabled_html_reading.specs.Areas.{is_before}
use Rattle.tabled_html_reading.specs.Forming.{Covered, Forming, any_below, cells_at, colspan_of, first_free, has_slot, is_covered, place_cell, process_cell, rowspan_of}
use Rattle.tabled_html_reading.specs.Elements.{Element}

-- ---- lists

pub fold-then : {A B : Type 0} (f : B → A → B) (b : B) (xs ys : List A) → fold f b (xs ++ ys) ≡ fold f (fold f b xs) ys
fold-then f b [] ys = refl
fold-then f b (x ∷ xs) ys = fold-then f (f b x) xs ys

pub cells-then : (cs ds : List Covered) (x y : ℕ) → cells_at (cs ++ ds) x y ≡ cells_at cs x y ++ cells_at ds x y
cells-then [] ds x y = refl
cells-then (c ∷ cs) ds x y = of-first (has_slot x y c) (cells-then cs ds x y)
  where
    of-first : (b : Bool) → cells_at (cs ++ ds) x y ≡ cells_at cs x y ++ cells_at ds x y → map (λ (c : Covered). c.cell) (cond b (c ∷ filter (has_slot x y) (cs ++ ds)) (filter (has_slot x y) (cs ++ ds))) ≡ map (λ (c : Covered). c.cell) (cond b (c ∷ filter (has_slot x y) cs) (filter (has_slot x y) cs)) ++ cells_at ds x y
    of-first true behind = ap (λ cells. c.cell ∷ cells) behind
    of-first false behind = behind

pub any-none : (n : ℕ) (test : ℕ → Bool) → ((k : ℕ) → k < n → test k ≡ false) → any_below n test ≡ false
any-none zero test none = refl
any-none (suc n) test none = or_from (any_below n test) (test n) (any-none n test (λ k less. none k (omega (arith, less)))) (none n (omega arith))

-- ---- slots row by row

module _ (i j x y : ℕ) where
  pub before-same : (x ≡ j → y ≡ i → ⊥) → is_before i (j + 1) x y ≡ is_before i j x y
  before-same other = grind (arith, nat_tests)

  pub before-more : is_before i j x y ≡ true → is_before i (j + 1) x y ≡ true
  before-more before = grind (arith, nat_tests)

  pub before-in : x ≤ j → y ≤ i → (x ≡ j → y ≡ i → ⊥) → is_before i j x y ≡ true
  before-in left up other = grind (arith, nat_tests)

  pub before-here : x ≡ j → y ≡ i → is_before i j x y ≡ false
  before-here col row = grind (arith, nat_tests)

  pub before-next : x ≡ j → y ≡ i → is_before i (j + 1) x y ≡ true
  before-next col row = grind (arith, nat_tests)

  pub before-row : x < j → is_before i j x y ≡ is_before (i + 1) 0 x y
  before-row less = grind (arith, nat_tests)

  pub before-all : y < i → is_before i 0 x y ≡ true
  before-all less = grind (arith, nat_tests)

pub before-none : (x y : ℕ) → is_before 0 0 x y ≡ false
before-none x y = grind (arith, nat_tests)

-- ---- the first free slot

pub first_free-to : (cs : List Covered) (y n x target : ℕ) → x ≤ target → target ≤ x + n → ((k : ℕ) → x ≤ k → k < target → is_covered cs k y ≡ true) → is_covered cs target y ≡ false → first_free cs y n x ≡ target
first_free-to cs y zero x target low high full free = omega arith
first_free-to cs y (suc n) x target low high full free = from-here (cases_eq x target) (first_free-to cs y n (x + 1) target)
  where
    from-here : (x ≡ target) ⊎ (x ≡ target → ⊥) → (x + 1 ≤ target → target ≤ (x + 1) + n → ((k : ℕ) → x + 1 ≤ k → k < target → is_covered cs k y ≡ true) → is_covered cs target y ≡ false → first_free cs y n (x + 1) ≡ target) → first_free cs y (suc n) x ≡ target
    from-here (inl same) further = cond-false _ _ _ (ap (λ k. is_covered cs k y) same ∙ free) ∙ same
    from-here (inr other) further = cond-true _ _ _ (full x (omega arith) (omega (arith, other))) ∙ further (omega (arith, other)) (omega arith) (λ k more less. full k (omega (arith, more)) less) free

-- ---- one element

pub process-is : (f : Forming) (t : Element) (c r x : ℕ) → colspan_of t ≡ c → rowspan_of t ≡ r → r ≢ 0 → first_free f.covered f.ycurrent (f.xwidth - f.xcurrent) f.xcurrent ≡ x → process_cell f t ≡ place_cell t c r false (record f { xcurrent = x })
process-is f t c r x wide high some free = rw (wide, high, ne_eqb r 0 some, free) refl

pub slot-in : (c : Covered) (x y : ℕ) → has_slot x y c ≡ true → (c.y ≤ y) × (y < c.y + c.height) × (c.x ≤ x) × (x < c.x + c.width)
slot-in c x y has = grind (arith, nat_tests)

pub slot-from : (c : Covered) (x y : ℕ) → c.y ≤ y → y < c.y + c.height → c.x ≤ x → x < c.x + c.width → has_slot x y c ≡ true
slot-from c x y top bottom left right = grind (arith, nat_tests)

pub raised-le : (x w n : ℕ) → x < n → w ≤ n → cond (eqb x w) (w + 1) w ≤ n
raised-le x w n less most = grind (arith, nat_tests)

pub raised-ge : (x w : ℕ) → w ≤ cond (eqb x w) (w + 1) w
raised-ge x w = grind (arith, nat_tests)
