-- The numbers that texts write in decimal, and their order.
use Rattle.std.specs.Prelude.{ℕ, ◌^◌, ◌==◌, ◌&&◌, ◌++◌, ℤ, ◌*ℤ◌, pos, neg_ℤ, Bool, if◌then◌else◌, List, Option, None, Some, length, nat_lt}
use Rattle.std.specs.Char.{is_ascii_digit}
use Rattle.std.specs.List.{after_first, before_first, list_all}
use Rattle.std.specs.Ordering.{int_cmp}
use Rattle.std.specs.Str.Parse.{digits_value, starts_with_minus, without_leading_sign}
use Rattle.std.specs.declared.cmp.Ordering.{Ordering}

-- the number units / 10 ^ places
pub record Number : Type 0 where
  pub units : ℤ
  pub places : ℕ

-- m / 10 ^ p and n / 10 ^ q are in the order of m * 10 ^ q and n * 10 ^ p
abbrev pub number_cmp : Number → Number → Ordering
number_cmp a b = int_cmp (a.units *ℤ pos (10 ^ b.places)) (b.units *ℤ pos (10 ^ a.places))

-- the number of a sign and of the digits before and behind a point
abbrev pub number_of : Bool → List ℕ → List ℕ → Number
number_of negative whole fraction = record {
  units = if negative then neg_ℤ (pos (digits_value 10 (whole ++ fraction))) else pos (digits_value 10 (whole ++ fraction));
  places = length fraction;
}

-- a byte is a point
abbrev pub is_point : ℕ → Bool
is_point byte = byte == 46

-- one digit or more, and nothing else
abbrev pub are_digits : List ℕ → Bool
are_digits digits = nat_lt 0 (length digits) && list_all is_ascii_digit digits

-- the number that a text without a sign writes, after a sign, if it writes one
abbrev pub unsigned_number : Bool → List ℕ → Option Number
unsigned_number negative text =
    if are_digits (before_first is_point text ++ after_first is_point text)
    then Some (number_of negative (before_first is_point text) (after_first is_point text))
    else None

-- the number that a text writes, if it writes one: maybe a sign, digits, and maybe a point and digits, of which one part may be empty
abbrev pub decimal : List ℕ → Option Number
decimal text = unsigned_number (starts_with_minus text) (without_leading_sign text)
