-- The steps in which a text is wrapped, piece by piece.
use Rattle.std.specs.Prelude.{◌+◌, ◌++◌, ◌&&◌, if◌then◌else◌, ℕ, Bool, true, false, List, [], ◌∷◌, None, Option, Some, nat_le, not}
use Rattle.std.specs.Option.{unwrap_or}
use Rattle.tabled_width.specs.Columns.{text_width}
use Rattle.tabled_width.specs.Pieces.{columns_in, is_just, is_space}
use Rattle.tabled_width.specs.Wraps.{fits, used_then}
use Rattle.tabled_width.specs.declared.wrapping.Placed.{Placed}

-- the first word, which may have no pieces
abbrev pub first_word : List (List ℕ) → List (List ℕ)
first_word [] = []
first_word (p ∷ ps) = if is_space p then [] else p ∷ first_word ps

-- a word comes first
abbrev pub begins_word : List (List ℕ) → Bool
begins_word [] = false
begins_word (p ∷ ps) = not (is_space p)

-- a blank and the first word fit behind some columns
abbrev pub word_fits : ℕ → Option ℕ → List (List ℕ) → Bool
word_fits n used rest = nat_le (unwrap_or used 0 + 1 + columns_in (first_word rest)) n

-- a piece that is no newline, in its line or in the next one
abbrev pub placed_in_line : ℕ → Option ℕ → ℕ → Placed
placed_in_line n used columns = record { breaks = not (fits n used columns); is_put = true; used = Some (used_then n used columns) }

-- a piece where its line has some columns already: a newline ends it; so does, where words are kept, a blank that doesn't fit with the next word, and where no word follows it goes
abbrev pub placed : ℕ → Bool → Option ℕ → List ℕ → List (List ℕ) → Placed
placed n keeps_words used p rest =
    if is_just 10 p then record { breaks = true; is_put = false; used = None }
    else (if keeps_words && (is_just 32 p && not (word_fits n used rest)) then (if begins_word rest then record { breaks = true; is_put = false; used = None } else record { breaks = false; is_put = false; used = used })
    else placed_in_line n used (text_width p))

-- what is put
abbrev pub put_by : Placed → List ℕ → List ℕ
put_by placed p = (if placed.breaks then 10 ∷ [] else []) ++ (if placed.is_put then p else [])

-- the pieces of a text, put one by one
abbrev pub put_from : ℕ → Bool → Option ℕ → List (List ℕ) → List ℕ
put_from n keeps_words used [] = []
put_from n keeps_words used (p ∷ ps) = put_by (placed n keeps_words used p ps) p ++ put_from n keeps_words (placed n keeps_words used p ps).used ps

-- each line fits, of which the first has some columns already
abbrev pub all_fit : ℕ → ℕ → List (List ℕ) → Bool
all_fit n used [] = true
all_fit n used (p ∷ ps) = if is_just 10 p then all_fit n 0 ps else (nat_le (used + text_width p) n && all_fit n (used + text_width p) ps)
