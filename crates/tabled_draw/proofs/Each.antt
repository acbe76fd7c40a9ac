-- Lists of what a function gives of one number after another, and what is left of the texts in each column.
use Rattle.tabled_draw.proofs.Common.{AllByRecursion, Bool, Bor, IsCutAt, List, Option, Rectangle, [], add-one, all-append, ap, append-nil, append_assoc, ap₂, arith, bytes_in, cases_eq, cases_lt, each, false, get_or, get_or-append-add, get_or-map, get_or-set_other, get_or-set_same, get_or_append_left, get_or_push, inl, inr, left_if, length, length-append, length-map, length-set, map-set, nat_tests, refl, set, suc, sym, zero, ℕ, ◌++◌, ◌+◌, ◌<◌, ◌∙◌, ◌∷◌, ◌≡◌, ◌≤◌}

pub each-more : {A : Type 0} (f : ℕ → List A) (n : ℕ) → each (n + 1) f ≡ each n f ++ f n
each-more f n = ap (λ k. each k f) (add-one n)

pub each-same : {A : Type 0} (f h : ℕ → List A) (n : ℕ) → ((k : ℕ) → k < n → f k ≡ h k) → each n f ≡ each n h
each-same f h zero same = refl
each-same f h (suc n) same = ap₂ (λ x y. x ++ y) (each-same f h n (λ k less. same k (omega (arith, less)))) (same n (omega arith))

pub length-singles : {A : Type 0} (f : ℕ → A) (n : ℕ) → length (each n (λ k. f k ∷ [])) ≡ n
length-singles f zero = refl
length-singles f (suc n) = length-append (each n (λ k. f k ∷ [])) (f n ∷ []) ∙ ap (λ k. k + 1) (length-singles f n) ∙ add-one n

pub get-singles : {A : Type 0} (f : ℕ → A) (n k : ℕ) (d : A) → k < n → get_or (each n (λ k. f k ∷ [])) k d ≡ f k
get-singles f zero k d h = absurd (omega arith)
get-singles f (suc n) k d h = grind (arith, nat_tests, get_or_append_left, length-singles, get_or_push, get-singles f n k d)

-- one more at the end of a list of what a function gives
pub pushed : (f : ℕ → ℕ) (xs : List ℕ) (x n : ℕ) → length xs ≡ n → ((k : ℕ) → k < n → get_or xs k 0 ≡ f k) → x ≡ f n → (m : ℕ) → m < n + 1 → get_or (xs ++ (x ∷ [])) m 0 ≡ f m
pushed f xs x n long was is m h = elim (cases_lt m n) [
  | inl less ↦ get_or_append_left xs (x ∷ []) 0 m (omega (arith, long, less)) ∙ was m less
  | inr end ↦
      let last : m ≡ length xs + 0 = omega (arith, long, end, h) in
      let same : n ≡ m = omega (arith, end, h) in
      ap (λ k. get_or (xs ++ (x ∷ [])) k 0) last ∙ get_or-append-add xs (x ∷ []) 0 0 ∙ is ∙ ap f same
]

-- a part of a list of parts

pub record Split {A : Type 0} (f : ℕ → List A) (n j : ℕ) : Type 0 where
  pub rest : List A
  pub is : each n f ≡ each j f ++ (f j ++ rest)

pub split-each : {A : Type 0} (f : ℕ → List A) (n j : ℕ) → j < n → Split f n j
split-each f zero j h = absurd (omega arith)
split-each {A} f (suc n) j h = elim (cases_lt j n) [
  | inl less ↦ let s = split-each f n j less in record { rest = s.rest ++ f n; is = ap (λ xs. xs ++ f n) s.is ∙ append_assoc (each j f) (f j ++ s.rest) (f n) ∙ ap (λ xs. each j f ++ xs) (append_assoc (f j) s.rest (f n)) }
  | inr more ↦ let same : n ≡ j = omega arith in record { rest = []; is = ap (λ k. each k f ++ f k) same ∙ ap (λ xs. each j f ++ xs) (sym (append-nil (f j))) }
]

pub all-each : {A : Type 0} (P : A → Type 0) (f : ℕ → List A) (k : ℕ) → ((i : ℕ) → i < k → AllByRecursion P (f i)) → AllByRecursion P (each k f)
all-each P f zero all = tt
all-each P f (suc k) all = all-append P (each k f) (f k) (all-each P f k (λ i less. all i (omega (arith, less)))) (all k (omega arith))

-- ---- what is left of the texts in each column

-- a list that is changed from the front on
pub record Changed (f : ℕ → List ℕ) (old new : List (List ℕ)) (j : ℕ) : Type 0 where
  pub done : (k : ℕ) → k < j → get_or new k [] ≡ f k
  pub left : (k : ℕ) → j ≤ k → get_or new k [] ≡ get_or old k []

pub changed-more : (f : ℕ → List ℕ) (old : List (List ℕ)) (rs : List (Bor (List ℕ))) (j : ℕ) (x : Bor (List ℕ)) → Changed f old (bytes_in rs) j → j < length rs → x.now ≡ f j → Changed f old (bytes_in (set rs j x)) (j + 1)
changed-more f old rs j x was less is = grind (arith, nat_tests, get_or-set_other, map-set, get_or-set_same, length-map)

pub cut-set : (j : ℕ) (a : Option Rectangle) (rs : List (Bor (List ℕ))) (x : Bor (List ℕ)) → j < length rs → x.now ≡ left_if j false a (get_or (bytes_in rs) j []) → IsCutAt j false a rs (set rs j x)
cut-set j a rs x less is = record {
  long = length-set rs j x;
  here = grind (arith, nat_tests, map-set, get_or-set_same, length-map);
  others = λ k apart. grind (arith, nat_tests, get_or-set_other, map-set);
}

pub changed-at : (f : ℕ → List ℕ) (old : List (List ℕ)) (rs new : List (Bor (List ℕ))) (j : ℕ) (apart : Bool) (a : Option Rectangle) → Changed f old (bytes_in rs) j → IsCutAt j apart a rs new → left_if j apart a (get_or (bytes_in rs) j []) ≡ f j → Changed f old (bytes_in new) (j + 1)
changed-at f old rs new j apart a was cut is = record {
  done = λ k less. elim (cases_eq k j) [
    | inl same ↦ ap (λ i. get_or (bytes_in new) i []) same ∙ cut.here ∙ is ∙ ap f (sym same)
    | inr other ↦ cut.others k other ∙ was.done k (omega (arith, less, other))
  ];
  left = λ k more. cut.others k (λ same. omega (arith, more, same)) ∙ was.left k (omega (arith, more));
}

pub text-in : (rs : List (Bor (List ℕ))) (j : ℕ) (x : Bor (List ℕ)) → j < length rs → x ≡ get_or rs j x → x.now ≡ get_or (bytes_in rs) j []
text-in rs j x less is = ap (λ (r : Bor (List ℕ)). r.now) is ∙ sym (get_or-map (λ (r : Bor (List ℕ)). r.now) rs j x [] less)
