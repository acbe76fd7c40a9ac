use Rattle.std.proofs.Common.{◌≡◌, ◌+◌, ◌-◌, ◌*◌, ◌^◌, ◌<◌, ◌++◌, ℕ, arith, ap₂, inr, length}
use Rattle.std.specs.Str.Parse.{digits_value}
use Rattle.tabled_decimal.proofs.MillionthsOfDigits.{millionths-append, millionths-below, value-few}
use Rattle.tabled_decimal.proofs.millionths.unsigned_millionths.Goals as goal

pub returns-in_err-front-clause-none : goal.returns-in_err-front-clause-none
returns-in_err-front-clause-none c =
    let w = c.args.whole.now in
    let f = c.args.fraction.now in
    let all : digits_value 10 (w ++ f) * 10 ^ (6 - length f) ≡ digits_value 10 w * 1000000 + digits_value 10 f * 10 ^ (6 - length f) = millionths-append w f (omega arith) in
    λ _. inr (omega (arith, c.in_err-front.ensures))

pub returns-in_err-back-clause-none : goal.returns-in_err-back-clause-none
returns-in_err-back-clause-none c =
    let few : digits_value 10 c.args.fraction.now < 1000000 = value-few c.args.fraction.now (omega arith) c.requires.fraction_digits in
    absurd (omega (arith, c.in_err-back.ensures))

pub overflow_mul-result-2 : goal.overflow_mul-result-2
overflow_mul-result-2 c =
    let f = c.args.fraction.now in
    let is : (c.in_ok-back.back ≡ digits_value 10 f) × (c.in_ok-back.back < 1000000000000) = c.in_ok-back.ensures in
    let product : c.in_ok-back.back * c.pow-unit.result ≡ digits_value 10 f * 10 ^ (6 - length f) = ap₂ (λ (m n : ℕ). m * n) is.0 c.pow-unit.ensures in
    let below : digits_value 10 f * 10 ^ (6 - length f) < 1000000 = millionths-below f (omega arith) c.requires.fraction_digits in
    omega arith

pub overflow_add-result : goal.overflow_add-result
overflow_add-result c =
    let f = c.args.fraction.now in
    let is : (c.in_ok-back.back ≡ digits_value 10 f) × (c.in_ok-back.back < 1000000000000) = c.in_ok-back.ensures in
    let product : c.in_ok-back.back * c.pow-unit.result ≡ digits_value 10 f * 10 ^ (6 - length f) = ap₂ (λ (m n : ℕ). m * n) is.0 c.pow-unit.ensures in
    let below : digits_value 10 f * 10 ^ (6 - length f) < 1000000 = millionths-below f (omega arith) c.requires.fraction_digits in
    omega (arith, c.in_ok-front.ensures)

pub returns-clause-some : goal.returns-clause-some
returns-clause-some c =
    let w = c.args.whole.now in
    let f = c.args.fraction.now in
    let is : (c.in_ok-back.back ≡ digits_value 10 f) × (c.in_ok-back.back < 1000000000000) = c.in_ok-back.ensures in
    let product : c.in_ok-back.back * c.pow-unit.result ≡ digits_value 10 f * 10 ^ (6 - length f) = ap₂ (λ (m n : ℕ). m * n) is.0 c.pow-unit.ensures in
    let below : digits_value 10 f * 10 ^ (6 - length f) < 1000000 = millionths-below f (omega arith) c.requires.fraction_digits in
    let all : digits_value 10 (w ++ f) * 10 ^ (6 - length f) ≡ digits_value 10 w * 1000000 + digits_value 10 f * 10 ^ (6 - length f) = millionths-append w f (omega arith) in
    (omega arith, omega (arith, c.in_ok-front.ensures), omega (arith, c.in_ok-front.ensures))
