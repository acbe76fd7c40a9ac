-- Texts cut into parts of n columns.
use Rattle.std.specs.Prelude.{◌≡◌, ◌+◌, ◌<◌, ◌≤◌, ◌==◌, ◌++◌, if◌then◌else◌, ℕ, Bool, true, false, List, [], ◌∷◌, chars, encode_utf8_all, map, nat_le, not}
use Rattle.std.specs.List.{concat, join_with_byte, list_all, slice_split, sum_by}
use Rattle.std.specs.Option.{unwrap_or}
use Rattle.unicode_width.specs.Width.{char_width}

-- the columns that a character takes, 1 where it is a control character
abbrev pub character_columns : ℕ → ℕ
character_columns c = unwrap_or (char_width false c) 1

-- the columns that characters take
abbrev pub columns_in : List ℕ → ℕ
columns_in cs = sum_by character_columns cs

-- the first character has a column
abbrev pub Begins : List ℕ → Type 0
Begins cs = (c : ℕ) × (rest : List ℕ) × (cs ≡ c ∷ rest) × (1 ≤ character_columns c)

-- consecutive parts of a line: before each next part there are n columns or more, and it begins with a character that has a column; in no part such a character stands after n columns
pub record AreParts (width : ℕ) (line : List ℕ) (parts : List (List ℕ)) : Type 0 where
  pub whole : concat parts ≡ line
  pub full : (before after : List (List ℕ)) (one next : List ℕ) → parts ≡ before ++ (one ∷ next ∷ after) → width ≤ columns_in one
  pub begins : (before after : List (List ℕ)) (one next : List ℕ) → parts ≡ before ++ (one ∷ next ∷ after) → Begins next
  pub short : (before after : List (List ℕ)) (front rest : List ℕ) (c : ℕ) → parts ≡ before ++ ((front ++ (c ∷ rest)) ∷ after) → 1 ≤ character_columns c → columns_in front < width

-- characters, with the replacement character for the last one that has a column
abbrev pub last_replaced : List ℕ → List ℕ
last_replaced [] = []
last_replaced (c ∷ cs) = if columns_in cs == 0 then 0xFFFD ∷ cs else (c ∷ last_replaced cs)

-- a part as it is shown: where it has more than n columns, its last character doesn't fit
abbrev pub shown : ℕ → List ℕ → List ℕ
shown width part = if nat_le (columns_in part) width then part else last_replaced part

-- a line cut: its parts as they are shown, joined with newlines
abbrev pub IsCutLine : ℕ → List ℕ → List ℕ → Type 0
IsCutLine width line new = (parts : List (List ℕ)) × AreParts width line parts × (new ≡ join_with_byte 10 (map (shown width) parts))

-- a text's characters cut: those between its newlines as lines, and joined with newlines again
pub record IsCut (width : ℕ) (text new : List ℕ) : Type 0 where
  pub cut_line : List ℕ → List ℕ
  pub each : (line : List ℕ) → list_all (λ c. not (c == 10)) line ≡ true → IsCutLine width line (cut_line line)
  pub whole : new ≡ join_with_byte 10 (map cut_line (slice_split (λ c. c == 10) text))

-- a text cut
abbrev pub IsCutText : ℕ → List ℕ → List ℕ → Type 0
IsCutText width text new = (cs : List ℕ) × IsCut width (chars text) cs × (new ≡ encode_utf8_all cs)

-- what becomes of a character, and how many columns its piece then has: as many as it may where it has ended
pub record Placed : Type 0 where
  pub begins : Bool
  pub character : ℕ
  pub used : ℕ

-- a character of at least one column in a piece of n: the replacement character, which ends the piece, where it doesn't fit
abbrev pub placed_from : ℕ → Bool → ℕ → ℕ → Placed
placed_from width begins used c = if nat_le (used + character_columns c) width then record { begins = begins; character = c; used = used + character_columns c } else record { begins = begins; character = 0xFFFD; used = width }

-- a character where its piece has n columns: a newline ends it, one without columns goes to it, and any other begins the next piece where it is full
abbrev pub placed : ℕ → ℕ → ℕ → Placed
placed width used c = if c == 10 then record { begins = false; character = c; used = 0 } else (if character_columns c == 0 then record { begins = false; character = c; used = used } else (if nat_le width used then placed_from width true 0 c else placed_from width false used c))

-- the characters of pieces of at most n columns, joined with newlines, where the first has some columns already
abbrev pub pieces : ℕ → ℕ → List ℕ → List ℕ
pieces width used [] = []
pieces width used (c ∷ cs) = (if (placed width used c).begins then 10 ∷ [] else []) ++ ((placed width used c).character ∷ pieces width (placed width used c).used cs)

-- a text cut into pieces, none of no columns
abbrev pub cut : ℕ → List ℕ → List ℕ
cut width text = if width == 0 then [] else encode_utf8_all (pieces width 0 (chars text))
