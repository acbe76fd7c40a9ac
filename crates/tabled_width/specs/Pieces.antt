-- The pieces of a text, which are never cut.
use Rattle.std.specs.Prelude.{ℕ, ◌+◌, ◌==◌, ◌++◌, ◌&&◌, ◌||◌, if◌then◌else◌, Bool, false, List, [], ◌∷◌, encode_utf8_all, chars, map, max, nat_lt, not}
use Rattle.std.specs.Int.{is_in_range}
use Rattle.std.specs.List.{fold, slice_split, sum_by}
use Rattle.std.specs.Option.{unwrap_or}
use Rattle.tabled_width.specs.Columns.{text_width}
use Rattle.unicode_width.specs.Width.{char_width, is_indicator}

-- the columns that a character takes by itself, 1 where it is a control character
abbrev pub character_width : ℕ → ℕ
character_width c = unwrap_or (char_width false c) 1

-- a character that stays with the one before: it takes no column by itself, joins letters of Tifinagh, or is a skin tone
abbrev pub attaches : ℕ → Bool
attaches c = (character_width c == 0) || ((c == 0x2D7F) || is_in_range 0x1F3FB 0x1F3FF c)

-- a vowel of Kirat Rai: several may make up one
abbrev pub is_kirat_vowel : ℕ → Bool
is_kirat_vowel c = (c == 0x16D63) || is_in_range 0x16D67 0x16D6A c

-- the last character, 0 where there is none
abbrev pub last_of : List ℕ → ℕ
last_of cs = fold (λ before c. c) 0 cs

-- the last character that doesn't attach, and those that do behind it
abbrev pub last_cluster : List ℕ → List ℕ
last_cluster cs = fold (λ cluster c. if attaches c then cluster ++ c ∷ [] else c ∷ []) [] cs

-- the regional indicators at the end are odd in number: the last one is half a flag
abbrev pub ends_in_half_a_flag : List ℕ → Bool
ends_in_half_a_flag cs = fold (λ half c. is_indicator c && not half) false cs

-- together they take another number of columns than apart
abbrev pub differ_together : List ℕ → ℕ → Bool
differ_together cluster c = not (text_width (cluster ++ c ∷ []) == text_width cluster + character_width c)

-- a character belongs to the text before: it attaches, follows U+200D, ends a flag or a vowel, or changes the columns of the last cluster
abbrev pub belongs : ℕ → Bool → List ℕ → ℕ → Bool
belongs last half cluster c =
    (attaches c || ((last == 0x200D) && nat_lt 0x20 c))
    || (((is_indicator c && half) || (is_kirat_vowel c && is_kirat_vowel last)) || differ_together cluster c)

-- the same, where a newline is a piece by itself
abbrev pub stays_behind : ℕ → Bool → List ℕ → ℕ → Bool
stays_behind last half cluster c = not ((c == 10) || (last == 10)) && belongs last half cluster c

-- a character goes to the piece before it
abbrev pub stays : List ℕ → ℕ → Bool
stays piece c = stays_behind (last_of piece) (ends_in_half_a_flag piece) (last_cluster piece) c

-- the pieces of a text of which the first has begun
abbrev pub pieces_from : List ℕ → List ℕ → List (List ℕ)
pieces_from piece [] = piece ∷ []
pieces_from piece (c ∷ cs) = if stays piece c then pieces_from (piece ++ c ∷ []) cs else piece ∷ pieces_from (c ∷ []) cs

-- the pieces of a text's characters
abbrev pub pieces : List ℕ → List (List ℕ)
pieces [] = []
pieces (c ∷ cs) = pieces_from (c ∷ []) cs

-- the pieces of a text, each as a text
abbrev pub pieces_in : List ℕ → List (List ℕ)
pieces_in text = map encode_utf8_all (pieces (chars text))

-- one character, and which
abbrev pub is_just : ℕ → List ℕ → Bool
is_just k (c ∷ []) = c == k
is_just k cs = false

-- a blank or a newline, which parts words
abbrev pub is_space : List ℕ → Bool
is_space piece = is_just 32 piece || is_just 10 piece

-- the words of a text, each as its pieces
abbrev pub words : List ℕ → List (List (List ℕ))
words cs = slice_split is_space (pieces cs)

-- the columns of consecutive pieces
abbrev pub columns_in : List (List ℕ) → ℕ
columns_in parts = sum_by text_width parts

-- the columns of the widest piece that is no newline
abbrev pub widest_piece : List ℕ → ℕ
widest_piece cs = fold (λ most piece. if is_just 10 piece then most else max most (text_width piece)) 0 (pieces cs)

-- the columns of the widest word
abbrev pub widest_word : List ℕ → ℕ
widest_word cs = fold (λ most word. max most (columns_in word)) 0 (words cs)
