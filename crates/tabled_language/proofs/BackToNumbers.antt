-- What is written of a number is read as that number.
use Rattle.tabled_language.proofs.Common.{◌-◌, ◌<◌, ◌^◌, ◌∙◌, ◌≡◌, ◌≤◌, IsUtf8, IsUtf8-from_ascii, Some, all_ascii_digits, ap, arith, decimal, digits_value, eqb, leb, length, nat_tests, not, number_to, length_of, sym, ℕ}
use Rattle.std.proofs.lemmas.Fmt.{IsAscii-decimal, decimal_nonempty, digits_decimal, digits_value-decimal}
use Rattle.tabled_language.proofs.Numbers.{numerals, some_if}

-- the digits of a number up to a limit are read as the number
pub number_to-decimal : (largest n : ℕ) → n ≤ largest → n < 2 ^ 64 → number_to largest (decimal n) ≡ Some n
number_to-decimal largest n most fits =
    let value : digits_value 10 (decimal n) ≡ n = digits_value-decimal numerals n fits in
    let some : 0 < length (decimal n) = decimal_nonempty n fits in
    sym (some_if (not (eqb (length (decimal n)) 0)) (all_ascii_digits (decimal n)) (leb (digits_value 10 (decimal n)) largest) (digits_value 10 (decimal n)) (grind (arith, nat_tests)) (digits_decimal numerals n fits) (grind (arith, nat_tests)))
    ∙ ap Some value

-- also those of `usize::MAX`
pub length_of-decimal : (n : ℕ) → n < 2 ^ 64 → length_of (decimal n) ≡ Some n
length_of-decimal n fits = number_to-decimal (2 ^ 64 - 1) n (omega arith) fits

pub decimal-utf8 : (n : ℕ) → n < 2 ^ 64 → IsUtf8 (decimal n)
decimal-utf8 n fits = IsUtf8-from_ascii (decimal n) (IsAscii-decimal n fits)
