-- Numbers (RFC 8259, section 6).
use Rattle.std.specs.Prelude.{◌==◌, ◌&&◌, ◌||◌, nat_le, ℕ, Bool, true, false, List, [], ◌∷◌, if◌then◌else◌}

-- a decimal digit
abbrev pub is_digit : ℕ → Bool
is_digit b = nat_le 48 b && nat_le b 57

-- the bytes behind digits
abbrev pub behind_digits : List ℕ → List ℕ
behind_digits [] = []
behind_digits (b ∷ bytes) = if is_digit b then behind_digits bytes else b ∷ bytes

-- nothing is listed
abbrev pub is_none : List ℕ → Bool
is_none [] = true
is_none (b ∷ bytes) = false

-- digits, at least one
abbrev pub are_digits : List ℕ → Bool
are_digits [] = false
are_digits (b ∷ bytes) = is_digit b && is_none (behind_digits bytes)

-- the bytes behind a sign, if they begin with one
abbrev pub behind_sign : List ℕ → List ℕ
behind_sign [] = []
behind_sign (b ∷ bytes) = if (b == 43) || (b == 45) then bytes else b ∷ bytes

-- an exponent, or nothing
abbrev pub is_exponent : List ℕ → Bool
is_exponent [] = true
is_exponent (b ∷ bytes) = ((b == 69) || (b == 101)) && are_digits (behind_sign bytes)

-- the digits of a fraction, and an exponent or nothing
abbrev pub are_decimals : List ℕ → Bool
are_decimals [] = false
are_decimals (b ∷ bytes) = is_digit b && is_exponent (behind_digits bytes)

-- a fraction and an exponent, or one of them, or nothing
abbrev pub is_fraction : List ℕ → Bool
is_fraction [] = true
is_fraction (b ∷ bytes) = if b == 46 then are_decimals bytes else is_exponent (b ∷ bytes)

-- a number with no sign
abbrev pub is_unsigned : List ℕ → Bool
is_unsigned [] = false
is_unsigned (b ∷ bytes) = if b == 48 then is_fraction bytes else (is_digit b && is_fraction (behind_digits bytes))

-- a number
abbrev pub is_number : List ℕ → Bool
is_number [] = false
is_number (b ∷ bytes) = if b == 45 then is_unsigned bytes else is_unsigned (b ∷ bytes)

-- a byte that may stand in a number
abbrev pub is_numeric : ℕ → Bool
is_numeric b = is_digit b || ((b == 45) || ((b == 43) || ((b == 46) || ((b == 101) || (b == 69)))))

-- the bytes at the front that may stand in a number
abbrev pub numerals : List ℕ → List ℕ
numerals [] = []
numerals (b ∷ bytes) = if is_numeric b then b ∷ numerals bytes else []

-- those behind them
abbrev pub behind_numerals : List ℕ → List ℕ
behind_numerals [] = []
behind_numerals (b ∷ bytes) = if is_numeric b then behind_numerals bytes else b ∷ bytes
