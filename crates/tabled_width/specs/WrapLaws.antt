-- What holds of every text that is wrapped.
use Rattle.std.specs.Prelude.{◌≡◌, ◌≤◌, ◌⊎◌, ◌==◌, ◌&&◌, ◌++◌, ℕ, Bool, List, [], ◌∷◌, length, map, not, true}
use Rattle.std.specs.List.{AllByRecursion, concat, filter, flat_map, join_with_byte, list_all, slice_split}
use Rattle.tabled_width.specs.Columns.{text_width}
use Rattle.tabled_width.specs.Laws.{IsLine}
use Rattle.tabled_width.specs.Pieces.{columns_in, pieces, words}

-- the lines that newlines part
abbrev pub lines_in : List ℕ → List (List ℕ)
lines_in cs = slice_split (λ c. c == 10) cs

-- neither a blank nor a newline
abbrev pub is_of_word : ℕ → Bool
is_of_word c = not (c == 32) && not (c == 10)

-- a line has at most n columns, or is a single piece
abbrev pub IsNarrow : ℕ → List ℕ → Type 0
IsNarrow n line = (text_width line ≤ n) ⊎ (pieces line ≡ line ∷ [])

-- so does each line
abbrev pub AreNarrow : ℕ → List ℕ → Type 0
AreNarrow n cs = AllByRecursion (IsNarrow n) (lines_in cs)

-- a line wrapped: no line is too wide, all that is no blank is there in order, and a line that fits is as it was
pub record IsWrappedLine (n : ℕ) (line new : List ℕ) : Type 0 where
  pub narrow : AreNarrow n new
  pub kept : filter is_of_word new ≡ filter is_of_word line
  pub same : text_width line ≤ n → new ≡ line

-- a text wrapped, line by line: no line is too wide, and all that is neither a blank nor a newline is there in order
pub record IsWrapped (n : ℕ) (text new : List ℕ) : Type 0 where
  pub narrow : AreNarrow n new
  pub kept : filter is_of_word new ≡ filter is_of_word text
  pub new_line : List ℕ → List ℕ
  pub each : (line : List ℕ) → IsLine line → IsWrappedLine n line (new_line line)
  pub whole : new ≡ join_with_byte 10 (map new_line (lines_in text))

-- a blank or a newline
abbrev pub is_gap : ℕ → Bool
is_gap c = not (is_of_word c)

-- the first character is a blank or a newline, where more is to follow
abbrev pub BeginsGap : List (List ℕ) → List ℕ → Type 0
BeginsGap [] cs = Unit {0}
BeginsGap (part ∷ parts) cs = (c : ℕ) × (rest : List ℕ) × (cs ≡ c ∷ rest) × (is_gap c ≡ true)

-- the parts stand in a text in order, with blanks and newlines between any two, and nothing else but these
abbrev pub AreSpaced : List (List ℕ) → List ℕ → Type 0
AreSpaced [] cs = list_all is_gap cs ≡ true
AreSpaced (part ∷ parts) cs = (gap : List ℕ) × (rest : List ℕ) × (list_all is_gap gap ≡ true) × (cs ≡ gap ++ (part ++ rest)) × BeginsGap parts rest × AreSpaced parts rest

-- a word, as its pieces, in parts: it is one where it has at most n columns
pub record IsParted (n : ℕ) (word parts : List (List ℕ)) : Type 0 where
  pub whole : concat parts ≡ concat word
  pub one : columns_in word ≤ n → parts ≡ concat word ∷ []

-- the words stand in order, each of at most n columns as it was, and the others in parts
pub record KeepsWords (n : ℕ) (text new : List ℕ) : Type 0 where
  pub parts : List (List ℕ) → List (List ℕ)
  pub none : parts [] ≡ []
  pub each : (word : List (List ℕ)) → 1 ≤ length word → IsParted n word (parts word)
  pub words : AreSpaced (flat_map parts (words text)) new
