-- Blanks, and characters of one byte that can be seen.
use Rattle.std.specs.Prelude.{◌<◌, ◌==◌, ℕ, [], List, None, Option, Some}
use Rattle.std.specs.List.{All, slice_split}
use Rattle.std.specs.Borrow.{Bor}

-- a blank, or such a character
abbrev pub IsPlain : ℕ → Type 0
IsPlain b = (31 < b) × (b < 127)

-- each byte of a text is one
abbrev pub ArePlain : List ℕ → Type 0
ArePlain bytes = All IsPlain bytes

-- the words that blanks part
abbrev pub blank_words : List ℕ → List (List ℕ)
blank_words text = slice_split (λ b. b == 32) text

-- those of a text that is left, if one is
abbrev pub words_left : Option (Bor (List ℕ)) → List (List ℕ)
words_left None = []
words_left (Some text) = blank_words text.now

-- it is of such characters
abbrev pub IsPlainRest : Option (Bor (List ℕ)) → Type 0
IsPlainRest None = Unit {0}
IsPlainRest (Some text) = ArePlain text.now
