-- Texts whose lines are cut between pieces, into lines of at most n columns.
use Rattle.std.specs.Prelude.{◌+◌, ◌==◌, ◌++◌, if◌then◌else◌, ℕ, Bool, true, false, List, [], ◌∷◌, None, Option, Some, chars, encode_utf8_all, map, nat_le}
use Rattle.std.specs.List.{concat, fold, join_with_byte, list_all, slice_split}
use Rattle.std.specs.Option.{unwrap_or}
use Rattle.tabled_width.specs.Columns.{text_width}
use Rattle.tabled_width.specs.Pieces.{columns_in, is_just, pieces}

-- the lines of a text, each as its pieces
abbrev pub lines : List ℕ → List (List (List ℕ))
lines cs = slice_split (is_just 10) (pieces cs)

-- columns fit into a line of n, which has some already; in a line in which nothing stands yet, any do
abbrev pub fits : ℕ → Option ℕ → ℕ → Bool
fits n None columns = true
fits n (Some used) columns = nat_le (used + columns) n

-- the columns of the line in which those then stand: this one, or the next
abbrev pub used_then : ℕ → Option ℕ → ℕ → ℕ
used_then n used columns = if fits n used columns then unwrap_or used 0 + columns else columns

-- pieces in lines: one that doesn't fit begins the next line
abbrev pub broken : ℕ → Option ℕ → List (List ℕ) → List ℕ
broken n used [] = []
broken n used (p ∷ ps) = (if fits n used (text_width p) then [] else 10 ∷ []) ++ (p ++ broken n (Some (used_then n used (text_width p))) ps)

-- the columns that their last line then has
abbrev pub last_used : ℕ → Option ℕ → List (List ℕ) → Option ℕ
last_used n used ps = fold (λ before p. Some (used_then n before (text_width p))) used ps

-- no pieces
abbrev pub is_empty : List (List ℕ) → Bool
is_empty [] = true
is_empty (p ∷ ps) = false

-- words behind a line: each follows a blank where both fit; else it begins the next line, and is cut where it is wider than that. Of one without pieces, the blank goes where it doesn't fit
abbrev pub with_words : ℕ → Option ℕ → List (List (List ℕ)) → List ℕ
with_words n used [] = []
with_words n used (word ∷ words) =
    if nat_le (unwrap_or used 0 + 1 + columns_in word) n then 32 ∷ (concat word ++ with_words n (Some (unwrap_or used 0 + 1 + columns_in word)) words)
    else (if is_empty word then with_words n used words
    else (10 ∷ (broken n None word ++ with_words n (last_used n None word) words)))

-- words, of which the first begins a line
abbrev pub words_wrapped : ℕ → List (List (List ℕ)) → List ℕ
words_wrapped n [] = []
words_wrapped n (word ∷ words) = broken n None word ++ with_words n (last_used n None word) words

-- a line cut between any pieces, or between the words that its blanks part
abbrev pub wrapped_line : ℕ → Bool → List (List ℕ) → List ℕ
wrapped_line n false line = broken n None line
wrapped_line n true line = words_wrapped n (slice_split (is_just 32) line)

-- the characters of a text, wrapped line by line
abbrev pub wrapped_characters : ℕ → Bool → List ℕ → List ℕ
wrapped_characters n keeps_words cs = join_with_byte 10 (map (wrapped_line n keeps_words) (lines cs))

-- what a wrap makes of a text, by its width and by whether it keeps words; nothing where there are no columns
abbrev pub wrapped : ℕ × Bool → List ℕ → List ℕ
wrapped (n, keeps_words) text = if n == 0 then [] else encode_utf8_all (wrapped_characters n keeps_words (chars text))

-- no line has more than n columns
abbrev pub all_lines_fit : ℕ → List ℕ → Bool
all_lines_fit n cs = list_all (λ line. nat_le (columns_in line) n) (lines cs)
