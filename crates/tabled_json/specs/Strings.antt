-- Strings (RFC 8259, section 7).
use Rattle.std.specs.Prelude.{◌≡◌, ◌==◌, ◌&&◌, ◌||◌, ◌+◌, ◌-◌, ◌*◌, not, nat_le, nat_lt, ℕ, Bool, true, List, [], ◌∷◌, ◌++◌, if◌then◌else◌, Option, Some, None, option_map, option_and_then}
use Rattle.std.specs.Char.{encode_utf8}

-- the value of a hexadecimal digit
abbrev pub hex_digit : ℕ → Option ℕ
hex_digit b =
    if nat_le 48 b && nat_le b 57 then Some (b - 48)
    else if nat_le 97 b && nat_le b 102 then Some (b - 97 + 10)
    else if nat_le 65 b && nat_le b 70 then Some (b - 65 + 10)
    else None

-- what is at the front of bytes, and what is behind it
abbrev pub Front : Type 0 → Type 0
Front A = Option (A × List ℕ)

-- the value of a hexadecimal digit at the front
abbrev pub hex_at : List ℕ → Front ℕ
hex_at [] = None
hex_at (b ∷ bytes) = option_map (λ d. (d, bytes)) (hex_digit b)

infixl 10 ◌>>=◌
-- what is behind what is at the front, if it is there
abbrev pub ◌>>=◌ : {A B : Type 0} → Option A → (A → Option B) → Option B
o >>= f = option_and_then f o

-- the code unit that four hexadecimal digits spell
unfoldable pub unit_at : List ℕ → Front ℕ
unit_at bytes = do
  a ← hex_at bytes
  b ← hex_at a.1
  c ← hex_at b.1
  d ← hex_at c.1
  Some (a.0 * 4096 + b.0 * 256 + c.0 * 16 + d.0, d.1)

-- the first half of a surrogate pair
abbrev pub is_high : ℕ → Bool
is_high u = nat_le 0xd800 u && nat_lt u 0xdc00

-- the second half of one
abbrev pub is_low : ℕ → Bool
is_low u = nat_le 0xdc00 u && nat_lt u 0xe000

-- the bytes behind a byte
abbrev pub behind_byte : ℕ → List ℕ → Option (List ℕ)
behind_byte byte [] = None
behind_byte byte (b ∷ bytes) = if b == byte then Some bytes else None

-- a code unit that is a second half
abbrev pub only_low : ℕ × List ℕ → Front ℕ
only_low low = if is_low low.0 then Some low else None

-- the second half of a surrogate pair, with its backslash
unfoldable pub low_at : List ℕ → Front ℕ
low_at bytes = do
  slash ← behind_byte 92 bytes
  u ← behind_byte 117 slash
  low ← unit_at u
  only_low low

-- the character that a code unit begins: a surrogate stands only in a pair
abbrev pub paired : ℕ × List ℕ → Front ℕ
paired high =
    if is_high high.0 then option_map (λ low. (0x10000 + (high.0 - 0xd800) * 1024 + (low.0 - 0xdc00), low.1)) (low_at high.1)
    else if is_low high.0 then None
    else Some high

-- the character behind `\u`
unfoldable pub unicode_at : List ℕ → Front ℕ
unicode_at bytes = option_and_then paired (unit_at bytes)

-- what a letter behind a backslash stands for
abbrev pub short_escape : ℕ → Option ℕ
short_escape b =
    if (b == 34) || ((b == 92) || (b == 47)) then Some b
    else if b == 98 then Some 8
    else if b == 102 then Some 12
    else if b == 110 then Some 10
    else if b == 114 then Some 13
    else if b == 116 then Some 9
    else None

-- the character behind a backslash
unfoldable pub escaped_at : List ℕ → Front ℕ
escaped_at [] = None
escaped_at (b ∷ bytes) = if b == 117 then unicode_at bytes else option_map (λ c. (c, bytes)) (short_escape b)

-- a byte of a string that stands for itself
abbrev pub is_plain : ℕ → Bool
is_plain b = not (b == 34) && (not (b == 92) && nat_le 32 b)

-- bytes behind an opening quote are a text, and behind the closing quote is what is behind them
pub data ContentAt : List ℕ → List ℕ → List ℕ → Type 0 where
  closed : {bytes text after : List ℕ} → bytes ≡ 34 ∷ after → text ≡ [] → ContentAt bytes text after
  plain : {bytes text after : List ℕ} (b : ℕ) (rest more : List ℕ) → bytes ≡ b ∷ rest → is_plain b ≡ true → text ≡ b ∷ more → ContentAt rest more after → ContentAt bytes text after
  escaped : {bytes text after : List ℕ} (c : ℕ) (rest next more : List ℕ) → bytes ≡ 92 ∷ rest → escaped_at rest ≡ Some (c, next) → text ≡ encode_utf8 c ++ more → ContentAt next more after
      → ContentAt bytes text after

-- bytes begin with a string, which stands for a text
abbrev pub StringAt : List ℕ → List ℕ → List ℕ → Type 0
StringAt bytes text after = (behind : List ℕ) × (bytes ≡ 34 ∷ behind) × ContentAt behind text after
