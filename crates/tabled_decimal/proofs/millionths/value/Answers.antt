use Rattle.std.proofs.Common.{◌≡◌, ◌+◌, ◌-◌, ◌*◌, ◌≤◌, arith, get_or, take}
use Rattle.std.proofs.lemmas.Str.Parse.{digits_value-take-le}
use Rattle.std.specs.Str.Parse.{digits_value}
use Rattle.tabled_decimal.proofs.MillionthsOfDigits.{value-more}
use Rattle.tabled_decimal.proofs.millionths.value.Goals as goal

pub returns-then-value-ge1000000000000 : goal.returns-then-value-ge1000000000000
returns-then-value-ge1000000000000 c =
    let more : c.loop-digit.value * 10 + (get_or c.args.digits.now c.loop-digit.digit-index 0 - 48) ≡ digits_value 10 (take (c.loop-digit.digit-index + 1) c.args.digits.now) = value-more c.args.digits.now c.loop-digit.digit-index c.loop-digit.value c.loop-digit-test.true c.requires c.loop-digit.invariant.0 in
    let within : digits_value 10 (take (c.loop-digit.digit-index + 1) c.args.digits.now) ≤ digits_value 10 c.args.digits.now = digits_value-take-le 10 c.args.digits.now (c.loop-digit.digit-index + 1) (omega arith) in
    omega arith

pub loop-digit-preserved : goal.loop-digit-preserved
loop-digit-preserved c =
    let more : c.loop-digit.value * 10 + (get_or c.args.digits.now c.loop-digit.digit-index 0 - 48) ≡ digits_value 10 (take (c.loop-digit.digit-index + 1) c.args.digits.now) = value-more c.args.digits.now c.loop-digit.digit-index c.loop-digit.value c.loop-digit-test.true c.requires c.loop-digit.invariant.0 in
    (omega arith, omega arith)
