-- The millionths that digits write.
use Rattle.std.proofs.Common.{◌≡◌, ℕ, ◌+◌, ◌-◌, ◌*◌, ◌^◌, ◌<◌, ◌≤◌, List, [], ◌∷◌, ◌++◌, zero, suc, length, get_or, take, IsTrue, ap, sym, ◌∙◌, subst, arith, pow-add, mul-lt-mul_of_pos_right}
use Rattle.std.proofs.Math.Nat.{one-le-pow}
use Rattle.std.proofs.lemmas.Int.Digits.{digits_value_more}
use Rattle.std.specs.Char.{digit_value, is_ascii_digit}
use Rattle.std.specs.List.{list_all}
use Rattle.std.specs.Str.Parse.{digits_value}
use Rattle.tabled_decimal.proofs.DigitValues.{digit-is, digits-cons, value-append, value-below}

digit-at : (ds : List ℕ) (i : ℕ) → i < length ds → IsTrue (list_all is_ascii_digit ds) → IsTrue (is_ascii_digit (get_or ds i 0))
digit-at [] i h all = absurd (omega arith)
digit-at (d ∷ ds) zero h all = (digits-cons d ds all).0
digit-at (d ∷ ds) (suc i) h all = digit-at ds i (omega arith) (digits-cons d ds all).1

-- one more digit
pub value-more : (ds : List ℕ) (i n : ℕ) → i < length ds → IsTrue (list_all is_ascii_digit ds) → n ≡ digits_value 10 (take i ds) → n * 10 + (get_or ds i 0 - 48) ≡ digits_value 10 (take (i + 1) ds)
value-more ds i n h all e =
    let is : (digit_value (get_or ds i 0) ≡ get_or ds i 0 - 48) × (48 ≤ get_or ds i 0) × (get_or ds i 0 < 58) = digit-is (get_or ds i 0) (digit-at ds i h all) in
    let more : digits_value 10 (take (i + 1) ds) ≡ digits_value 10 (take i ds) * 10 + digit_value (get_or ds i 0) = digits_value_more 10 ds i h in
    omega arith

grouped : (a b k n m : ℕ) → n * k ≡ m → (a * n + b) * k ≡ a * m + b * k
grouped a b k n m e = let f : a * (n * k) ≡ a * m = ap (λ (x : ℕ). a * x) e in omega arith

million : (p : ℕ) → p ≤ 6 → 10 ^ p * 10 ^ (6 - p) ≡ 1000000
million p few = let all : p + (6 - p) ≡ 6 = omega arith in sym (pow-add 10 p (6 - p)) ∙ ap (λ (n : ℕ). 10 ^ n) all

-- millionths in two parts
pub millionths-append : (w f : List ℕ) → length f ≤ 6 → digits_value 10 (w ++ f) * 10 ^ (6 - length f) ≡ digits_value 10 w * 1000000 + digits_value 10 f * 10 ^ (6 - length f)
millionths-append w f few = ap (λ (n : ℕ). n * 10 ^ (6 - length f)) (value-append w f) ∙ grouped (digits_value 10 w) (digits_value 10 f) (10 ^ (6 - length f)) (10 ^ length f) 1000000 (million (length f) few)

-- behind a point there are fewer than a million
pub millionths-below : (f : List ℕ) → length f ≤ 6 → IsTrue (list_all is_ascii_digit f) → digits_value 10 f * 10 ^ (6 - length f) < 1000000
millionths-below f few all = subst (λ (n : ℕ). digits_value 10 f * 10 ^ (6 - length f) < n) (million (length f) few) (mul-lt-mul_of_pos_right (value-below f all) (one-le-pow _ _ (omega arith)))

product-above : (n k : ℕ) → 0 < k → n ≤ n * k
product-above n zero h = absurd (omega arith)
product-above n (suc k) h = omega arith

pub value-few : (f : List ℕ) → length f ≤ 6 → IsTrue (list_all is_ascii_digit f) → digits_value 10 f < 1000000
value-few f few all =
    let above : digits_value 10 f ≤ digits_value 10 f * 10 ^ (6 - length f) = product-above _ _ (one-le-pow _ _ (omega arith)) in
    let below : digits_value 10 f * 10 ^ (6 - length f) < 1000000 = millionths-below f few all in
    omega arith
