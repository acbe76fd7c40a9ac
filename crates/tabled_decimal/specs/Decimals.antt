-- What the parts of a decimal number say.
use Rattle.std.specs.Prelude.{ℕ, ◌^◌, ◌++◌, length}
use Rattle.std.specs.Str.Parse.{digits_value}
use Rattle.tabled_decimal.specs.Numbers.{Number, number_of}
use Rattle.tabled_decimal.specs.declared.decimal.Decimal.{Decimal}

-- the number
abbrev pub number : Decimal → Number
number d = number_of d.negative d.whole.now d.fraction.now

-- the number without its sign, times 10 to the number of digits behind its point
abbrev pub all_digits : Decimal → ℕ
all_digits d = digits_value 10 (d.whole.now ++ d.fraction.now)

-- 10 to the number of digits behind its point
abbrev pub scale : Decimal → ℕ
scale d = 10 ^ length d.fraction.now
