-- The numbers that digits write.
use Rattle.std.proofs.Common.{◌≡◌, ℕ, ◌+◌, ◌-◌, ◌*◌, ◌^◌, ◌<◌, ◌≤◌, true, nat_lt, List, [], ◌∷◌, ◌++◌, length, refl, ap, sym, ◌∙◌, arith, pow-suc, pow-add, length-append, nat_cmp, zero-lt-suc, IsTrue, ◌⊎◌, ◌||◌, inl, inr, ⊎_elim, rules, min, take, length-take, length-drop, take-append-drop, ◌≢◌, add-one, mul-pos, subst, zero, suc, drop, get_or, drop-cons}
use Rattle.std.proofs.lemmas.Bool.{cases_lt}
use Rattle.std.proofs.lemmas.Bool.Decides.{nat_tests}
use Rattle.std.proofs.Math.Nat.{one-le-pow}
use Rattle.std.specs.Char.{digit_value, is_ascii_digit}
use Rattle.std.specs.Cmp.Lexicographic.{slice_cmp}
use Rattle.std.specs.List.{list_all}
use Rattle.std.specs.Ordering.{bool_cmp, ordering_then}
use Rattle.std.specs.declared.cmp.Ordering.TheVariants.{Greater, Less}
use Rattle.std.specs.Str.Parse.{AllDigits, digits_value, digits_value_after}
use Rattle.std.proofs.lemmas.Int.Digits.{digits_value-lt}
use Rattle.tabled_decimal.specs.Products.{above, cmp-less, cmp-greater, cmp-shifted, cmp-scaled, heads-decide, sums-decide}

-- digits behind those of n
after-is : (n : ℕ) (ds : List ℕ) → digits_value_after 10 n ds ≡ n * 10 ^ length ds + digits_value 10 ds
after-is n [] = omega arith
after-is n (d ∷ ds) =
    let first : digits_value_after 10 (n * 10 + digit_value d) ds ≡ (n * 10 + digit_value d) * 10 ^ length ds + digits_value 10 ds = after-is (n * 10 + digit_value d) ds in
    let second : digits_value_after 10 (0 * 10 + digit_value d) ds ≡ (0 * 10 + digit_value d) * 10 ^ length ds + digits_value 10 ds = after-is (0 * 10 + digit_value d) ds in
    let tens : 10 ^ length (d ∷ ds) ≡ 10 ^ length ds * 10 = pow-suc 10 (length ds) in
    rw (first, second, tens) (omega arith)

pub value-cons : (d : ℕ) (ds : List ℕ) → digits_value 10 (d ∷ ds) ≡ digit_value d * 10 ^ length ds + digits_value 10 ds
value-cons d ds = after-is (0 * 10 + digit_value d) ds ∙ ap (λ (n : ℕ). n * 10 ^ length ds + digits_value 10 ds) (omega arith)

pub value-append : (xs ys : List ℕ) → digits_value 10 (xs ++ ys) ≡ digits_value 10 xs * 10 ^ length ys + digits_value 10 ys
value-append [] ys = omega arith
value-append (x ∷ xs) ys =
    let whole : digits_value 10 (x ∷ (xs ++ ys)) ≡ digit_value x * 10 ^ length (xs ++ ys) + digits_value 10 (xs ++ ys) = value-cons x (xs ++ ys) in
    let first : digits_value 10 (x ∷ xs) ≡ digit_value x * 10 ^ length xs + digits_value 10 xs = value-cons x xs in
    let rest : digits_value 10 (xs ++ ys) ≡ digits_value 10 xs * 10 ^ length ys + digits_value 10 ys = value-append xs ys in
    let power : 10 ^ length (xs ++ ys) ≡ 10 ^ length xs * 10 ^ length ys = ap (λ (n : ℕ). 10 ^ n) (length-append xs ys) ∙ pow-add 10 (length xs) (length ys) in
    rw (whole, first, rest, power) (omega arith)

-- what the byte of a digit is
pub digit-is : (d : ℕ) → IsTrue (is_ascii_digit d) → (digit_value d ≡ d - 48) × (48 ≤ d) × (d < 58)
digit-is d h = grind (arith, nat_tests)

pub digits-cons : (d : ℕ) (ds : List ℕ) → IsTrue (list_all is_ascii_digit (d ∷ ds)) → IsTrue (is_ascii_digit d) × IsTrue (list_all is_ascii_digit ds)
digits-cons d ds h = search rules

all-digits : (ds : List ℕ) → IsTrue (list_all is_ascii_digit ds) → AllDigits 10 ds
all-digits [] h = tt
all-digits (d ∷ ds) h = let both : IsTrue (is_ascii_digit d) × IsTrue (list_all is_ascii_digit ds) = digits-cons d ds h in
    let is : (digit_value d ≡ d - 48) × (48 ≤ d) × (d < 58) = digit-is d both.0 in
    (omega arith, all-digits ds both.1)

pub value-below : (ds : List ℕ) → IsTrue (list_all is_ascii_digit ds) → digits_value 10 ds < 10 ^ length ds
value-below ds h = digits_value-lt 10 ds (all-digits ds h)

-- digits are in the order of their bytes
digits-alike : (x y : ℕ) → IsTrue (is_ascii_digit x) → IsTrue (is_ascii_digit y) → nat_cmp x y ≡ nat_cmp (digit_value x) (digit_value y)
digits-alike x y p q = let a : (digit_value x ≡ x - 48) × (48 ≤ x) × (x < 58) = digit-is x p in
    let b : (digit_value y ≡ y - 48) × (48 ≤ y) × (y < 58) = digit-is y q in
    rw (a.0, b.0) (cmp-shifted (x - 48) (y - 48) 48 x y (omega arith) (omega arith))

-- digits as long as one another are in the order of their numbers
pub same-long : (xs ys : List ℕ) → length xs ≡ length ys → IsTrue (list_all is_ascii_digit xs) → IsTrue (list_all is_ascii_digit ys) → slice_cmp nat_cmp xs ys ≡ nat_cmp (digits_value 10 xs) (digits_value 10 ys)
same-long [] [] e p q = refl
same-long [] (y ∷ ys) e p q = absurd (omega arith)
same-long (x ∷ xs) [] e p q = absurd (omega arith)
same-long (x ∷ xs) (y ∷ ys) e p q =
    let long : length ys ≡ length xs = omega arith in
    let a : IsTrue (is_ascii_digit x) × IsTrue (list_all is_ascii_digit xs) = digits-cons x xs p in
    let b : IsTrue (is_ascii_digit y) × IsTrue (list_all is_ascii_digit ys) = digits-cons y ys q in
    let left : digits_value 10 (x ∷ xs) ≡ digit_value x * 10 ^ length xs + digits_value 10 xs = value-cons x xs in
    let right : digits_value 10 (y ∷ ys) ≡ digit_value y * 10 ^ length xs + digits_value 10 ys = value-cons y ys ∙ ap (λ (n : ℕ). digit_value y * 10 ^ n + digits_value 10 ys) long in
    let above : digits_value 10 ys < 10 ^ length xs = subst (λ (n : ℕ). digits_value 10 ys < 10 ^ n) long (value-below ys b.1) in
    let both : nat_cmp (digit_value x * 10 ^ length xs + digits_value 10 xs) (digit_value y * 10 ^ length xs + digits_value 10 ys) ≡ ordering_then (nat_cmp (digit_value x) (digit_value y)) (nat_cmp (digits_value 10 xs) (digits_value 10 ys)) = sums-decide (digit_value x) (digit_value y) (digits_value 10 xs) (digits_value 10 ys) (10 ^ length xs) (value-below xs a.1) above in
    rw (left, right, both, ← digits-alike x y a.0 b.0, ← same-long xs ys (sym long) a.1 b.1) refl

-- of two numbers of which one is 0, the other is the larger, where it is above 0
pub one-zero : (m n : ℕ) → (m ≡ 0) ⊎ (n ≡ 0) → nat_cmp m n ≡ bool_cmp (nat_lt 0 m) (nat_lt 0 n)
one-zero zero zero e = refl
one-zero zero (suc n) e = let right : bool_cmp (nat_lt 0 0) (nat_lt 0 (suc n)) ≡ Less = rw (above (suc n) (zero-lt-suc n)) refl in cmp-less 0 (suc n) (zero-lt-suc n) ∙ sym right
one-zero (suc m) zero e = let right : bool_cmp (nat_lt 0 (suc m)) (nat_lt 0 0) ≡ Greater = rw (above (suc m) (zero-lt-suc m)) refl in cmp-greater (suc m) 0 (zero-lt-suc m) ∙ sym right
one-zero (suc m) (suc n) (inl e) = absurd (omega arith)
one-zero (suc m) (suc n) (inr e) = absurd (omega arith)

-- the byte of a zero alone is worth 0
digit-above : (d : ℕ) → d ≢ 48 → 0 < digit_value d
digit-above d h = grind (arith, nat_tests)

-- a zero at the front says nothing
pub front-zero : (ds : List ℕ) (i : ℕ) → i < length ds → get_or ds i 0 ≡ 48 → digits_value 10 (drop i ds) ≡ digits_value 10 (drop (i + 1) ds)
front-zero ds i h e = rw (add-one, drop-cons ds i 0 h, value-cons, e) (omega arith)

-- any other digit says that the number is above 0
pub front-above : (ds : List ℕ) (i : ℕ) → i < length ds → get_or ds i 0 ≢ 48 → 0 < digits_value 10 (drop i ds)
front-above ds i h e = let at : digits_value 10 (drop i ds) ≡ digit_value (get_or ds i 0) * 10 ^ length (drop (suc i) ds) + digits_value 10 (drop (suc i) ds) = rw (drop-cons ds i 0 h) (value-cons (get_or ds i 0) (drop (suc i) ds)) in
    let some : 0 < digit_value (get_or ds i 0) * 10 ^ length (drop (suc i) ds) = mul-pos (digit-above _ e) (one-le-pow _ _ (omega arith)) in
    omega arith

nothing : (ds : List ℕ) → length ds ≡ 0 → (digits_value 10 ds ≡ 0) × (10 ^ length ds ≡ 1)
nothing [] e = (refl, refl)
nothing (d ∷ ds) e = absurd (omega arith)

all-append : (xs ys ds : List ℕ) → ds ≡ xs ++ ys → IsTrue (list_all is_ascii_digit ds) → IsTrue (list_all is_ascii_digit xs) × IsTrue (list_all is_ascii_digit ys)
all-append [] ys ds e h = (refl, subst (λ (l : List ℕ). IsTrue (list_all is_ascii_digit l)) e h)
all-append (x ∷ xs) ys ds e h =
    let both : IsTrue (is_ascii_digit x) × IsTrue (list_all is_ascii_digit (xs ++ ys)) = digits-cons x (xs ++ ys) (subst (λ (l : List ℕ). IsTrue (list_all is_ascii_digit l)) e h) in
    let rest : IsTrue (list_all is_ascii_digit xs) × IsTrue (list_all is_ascii_digit ys) = all-append xs ys (xs ++ ys) refl both.1 in
    (search (rules, both.0, rest.0), rest.1)

-- numbers compared whose digits end alike in number: first what one has more, and then the rest
pub whole-decides : (a b u v p q : List ℕ) → a ≡ u ++ p → b ≡ v ++ q → length p ≡ length q → (length u ≡ 0) ⊎ (length v ≡ 0)
    → IsTrue (list_all is_ascii_digit a) → IsTrue (list_all is_ascii_digit b)
    → nat_cmp (digits_value 10 a) (digits_value 10 b) ≡ ordering_then (bool_cmp (nat_lt 0 (digits_value 10 u)) (nat_lt 0 (digits_value 10 v))) (slice_cmp nat_cmp p q)
whole-decides a b u v p q is js long empty g h =
    let da : IsTrue (list_all is_ascii_digit u) × IsTrue (list_all is_ascii_digit p) = all-append u p a is g in
    let db : IsTrue (list_all is_ascii_digit v) × IsTrue (list_all is_ascii_digit q) = all-append v q b js h in
    let va : digits_value 10 a ≡ digits_value 10 u * 10 ^ length q + digits_value 10 p = ap (digits_value 10) is ∙ value-append u p ∙ ap (λ (n : ℕ). digits_value 10 u * 10 ^ n + digits_value 10 p) long in
    let vb : digits_value 10 b ≡ digits_value 10 v * 10 ^ length q + digits_value 10 q = ap (digits_value 10) js ∙ value-append v q in
    let below : digits_value 10 p < 10 ^ length q = subst (λ (n : ℕ). digits_value 10 p < 10 ^ n) long (value-below p da.1) in
    let zeros : (digits_value 10 u ≡ 0) ⊎ (digits_value 10 v ≡ 0) = ⊎_elim (λ e. inl ((nothing u e).0)) (λ e. inr ((nothing v e).0)) empty in
    rw (va, vb, sums-decide (digits_value 10 u) (digits_value 10 v) (digits_value 10 p) (digits_value 10 q) (10 ^ length q) below (value-below q db.1), one-zero _ _ zeros, same-long p q long da.1 db.1) refl

unit-scaled : (m n p q : ℕ) → ((m ≡ 0) × (p ≡ 1)) ⊎ ((n ≡ 0) × (q ≡ 1)) → nat_cmp (m * q) (n * p) ≡ bool_cmp (nat_lt 0 m) (nat_lt 0 n)
unit-scaled m n p q (inl e) = rw (e.0, e.1) (cmp-shifted 0 n 0 (0 * q) (n * 1) (omega arith) (omega arith) ∙ one-zero 0 n (inl refl))
unit-scaled m n p q (inr e) = rw (e.0, e.1) (cmp-shifted m 0 0 (m * 1) (0 * p) (omega arith) (omega arith) ∙ one-zero m 0 (inr refl))

regrouped : (n p u k q : ℕ) → (n * p + u) * (k * q) ≡ ((n * p + u) * q) * k
regrouped n p u k q = omega arith

-- fractions compared whose digits begin alike in number: first these, and then what one has more
pub fraction-decides : (a b p q u v : List ℕ) → a ≡ p ++ u → b ≡ q ++ v → length p ≡ length q → (length u ≡ 0) ⊎ (length v ≡ 0)
    → IsTrue (list_all is_ascii_digit a) → IsTrue (list_all is_ascii_digit b)
    → nat_cmp (digits_value 10 a * 10 ^ length b) (digits_value 10 b * 10 ^ length a) ≡ ordering_then (slice_cmp nat_cmp p q) (bool_cmp (nat_lt 0 (digits_value 10 u)) (nat_lt 0 (digits_value 10 v)))
fraction-decides a b p q u v is js long empty g h =
    let da : IsTrue (list_all is_ascii_digit p) × IsTrue (list_all is_ascii_digit u) = all-append p u a is g in
    let db : IsTrue (list_all is_ascii_digit q) × IsTrue (list_all is_ascii_digit v) = all-append q v b js h in
    let va : digits_value 10 a ≡ digits_value 10 p * 10 ^ length u + digits_value 10 u = ap (digits_value 10) is ∙ value-append p u in
    let vb : digits_value 10 b ≡ digits_value 10 q * 10 ^ length v + digits_value 10 v = ap (digits_value 10) js ∙ value-append q v in
    let la : 10 ^ length a ≡ 10 ^ length q * 10 ^ length u = ap (λ (l : List ℕ). 10 ^ length l) is ∙ ap (λ (n : ℕ). 10 ^ n) (length-append p u) ∙ pow-add 10 (length p) (length u) ∙ ap (λ (n : ℕ). 10 ^ n * 10 ^ length u) long in
    let lb : 10 ^ length b ≡ 10 ^ length q * 10 ^ length v = ap (λ (l : List ℕ). 10 ^ length l) js ∙ ap (λ (n : ℕ). 10 ^ n) (length-append q v) ∙ pow-add 10 (length q) (length v) in
    let unit : ((digits_value 10 u ≡ 0) × (10 ^ length u ≡ 1)) ⊎ ((digits_value 10 v ≡ 0) × (10 ^ length v ≡ 1)) = ⊎_elim (λ e. inl (nothing u e)) (λ e. inr (nothing v e)) empty in
    rw (va, vb, la, lb, regrouped (digits_value 10 p) (10 ^ length u) (digits_value 10 u) (10 ^ length q) (10 ^ length v), regrouped (digits_value 10 q) (10 ^ length v) (digits_value 10 v) (10 ^ length q) (10 ^ length u), cmp-scaled ((digits_value 10 p * 10 ^ length u + digits_value 10 u) * 10 ^ length v) ((digits_value 10 q * 10 ^ length v + digits_value 10 v) * 10 ^ length u) (10 ^ length q) (one-le-pow _ _ (omega arith)), heads-decide (digits_value 10 p) (digits_value 10 q) (digits_value 10 u) (digits_value 10 v) (10 ^ length u) (10 ^ length v) (value-below u da.1) (value-below v db.1), unit-scaled (digits_value 10 u) (digits_value 10 v) (10 ^ length u) (10 ^ length v) unit, same-long p q long da.0 db.0) refl

empty-front : (a b : List ℕ) (k : ℕ) → k ≡ min (length a) (length b) → (length (take (length a - k) a) ≡ 0) ⊎ (length (take (length b - k) b) ≡ 0)
empty-front a b k e = ⊎_elim (λ (le : length a < length b). inl (rw length-take (omega arith))) (λ (le : length b ≤ length a). inr (rw length-take (omega arith))) (cases_lt (length a) (length b))

empty-back : (a b : List ℕ) (k : ℕ) → k ≡ min (length a) (length b) → (length (drop k a) ≡ 0) ⊎ (length (drop k b) ≡ 0)
empty-back a b k e = ⊎_elim (λ (le : length a < length b). inl (rw length-drop (omega arith))) (λ (le : length b ≤ length a). inr (rw length-drop (omega arith))) (cases_lt (length a) (length b))

-- the same of digits that are cut where as many are left as both have
pub whole-cut : (a b : List ℕ) (k : ℕ) → k ≡ min (length a) (length b) → IsTrue (list_all is_ascii_digit a) → IsTrue (list_all is_ascii_digit b)
    → nat_cmp (digits_value 10 a) (digits_value 10 b) ≡ ordering_then (bool_cmp (nat_lt 0 (digits_value 10 (take (length a - k) a))) (nat_lt 0 (digits_value 10 (take (length b - k) b)))) (slice_cmp nat_cmp (drop (length a - k) a) (drop (length b - k) b))
whole-cut a b k e = whole-decides a b (take (length a - k) a) (take (length b - k) b) (drop (length a - k) a) (drop (length b - k) b) (sym (take-append-drop (length a - k) a)) (sym (take-append-drop (length b - k) b)) (rw (length-drop (length a - k) a, length-drop (length b - k) b) (omega arith)) (empty-front a b k e)

pub fraction-cut : (a b : List ℕ) (k : ℕ) → k ≡ min (length a) (length b) → IsTrue (list_all is_ascii_digit a) → IsTrue (list_all is_ascii_digit b)
    → nat_cmp (digits_value 10 a * 10 ^ length b) (digits_value 10 b * 10 ^ length a) ≡ ordering_then (slice_cmp nat_cmp (take k a) (take k b)) (bool_cmp (nat_lt 0 (digits_value 10 (drop k a))) (nat_lt 0 (digits_value 10 (drop k b))))
fraction-cut a b k e = fraction-decides a b (take k a) (take k b) (drop k a) (drop k b) (sym (take-append-drop k a)) (sym (take-append-drop k b)) (rw (length-take k a, length-take k b) (omega arith)) (empty-back a b k e)

sum-above : (m n k : ℕ) → 0 < k → nat_lt 0 (m * k + n) ≡ (nat_lt 0 m || nat_lt 0 n)
sum-above zero n k some = let e : 0 * k + n ≡ n = omega arith in rw e refl
sum-above (suc m) n k some = let product : 0 < suc m * k = mul-pos (zero-lt-suc m) some in
    let whole : nat_lt 0 (suc m * k + n) ≡ true = above _ (omega arith) in
    let first : nat_lt 0 (suc m) ≡ true = above (suc m) (zero-lt-suc m) in
    rw (whole, first) refl

-- digits are above 0 where a part of them is
pub above-append : (xs ys : List ℕ) → nat_lt 0 (digits_value 10 (xs ++ ys)) ≡ (nat_lt 0 (digits_value 10 xs) || nat_lt 0 (digits_value 10 ys))
above-append xs ys = rw (value-append xs ys) (sum-above (digits_value 10 xs) (digits_value 10 ys) (10 ^ length ys) (one-le-pow _ _ (omega arith)))

-- numbers compared by what stands before their points, and then by what stands behind
pub parts-decide : (w f v g : List ℕ) → IsTrue (list_all is_ascii_digit f) → IsTrue (list_all is_ascii_digit g)
    → nat_cmp (digits_value 10 (w ++ f) * 10 ^ length g) (digits_value 10 (v ++ g) * 10 ^ length f) ≡ ordering_then (nat_cmp (digits_value 10 w) (digits_value 10 v)) (nat_cmp (digits_value 10 f * 10 ^ length g) (digits_value 10 g * 10 ^ length f))
parts-decide w f v g p q = rw (value-append w f, value-append v g) (heads-decide (digits_value 10 w) (digits_value 10 v) (digits_value 10 f) (digits_value 10 g) (10 ^ length f) (10 ^ length g) (value-below f p) (value-below g q))
