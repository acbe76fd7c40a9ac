-- Kinds of characters, by their bytes.
use Rattle.std.specs.Prelude.{◌+◌, ◌-◌, ◌==◌, ◌&&◌, ◌||◌, if◌then◌else◌, ℕ, Bool, nat_le, not}

-- a byte is one of those from low to high
abbrev pub is_within : ℕ → ℕ → ℕ → Bool
is_within low high b = nat_le low b && nat_le b high

-- `0` to `9`
abbrev pub is_digit : ℕ → Bool
is_digit b = is_within 48 57 b

-- `A` to `Z` or `a` to `z`
abbrev pub is_letter : ℕ → Bool
is_letter b = is_within 65 90 b || is_within 97 122 b

-- a digit, `A` to `F` or `a` to `f`
abbrev pub is_hexadecimal : ℕ → Bool
is_hexadecimal b = is_digit b || (is_within 65 70 b || is_within 97 102 b)

-- what a hexadecimal digit counts
abbrev pub hexadecimal_value : ℕ → ℕ
hexadecimal_value b = if is_digit b then b - 48 else if is_within 65 70 b then b - 55 else b - 87

-- a capital as the small letter that it is read as
abbrev pub lowercase : ℕ → ℕ
lowercase b = if is_within 65 90 b then b + 32 else b

-- white space: a tab, a line feed, a form feed or a blank
abbrev pub is_blank : ℕ → Bool
is_blank b = (b == 9) || ((b == 10) || ((b == 12) || (b == 32)))

-- a byte that stands for itself in a name: `a` to `z`
abbrev pub is_small : ℕ → Bool
is_small b = is_within 97 122 b

-- a byte that stands for itself between quotes: no quote, ampersand, carriage return or U+0000
abbrev pub is_plain : ℕ → Bool
is_plain b = not (b == 34) && (not (b == 38) && (not (b == 13) && not (b == 0)))
