-- The words that name rows and columns, and the column that rows are sorted by.
use Rattle.std.specs.Prelude.{ℕ, ◌==◌, ◌||◌, if◌then◌else◌, Bool, List, [], ◌∷◌, ◌++◌, None, Option, Some, drop, length, nat_eq, nat_lt, not}
use Rattle.std.specs.Cmp.Lexicographic.{pointwise}
use Rattle.std.specs.List.{after_first, before_first, position_or_len}
use Rattle.std.specs.Option.{is_some, option_and_then, option_map}
use Rattle.tabled_decimal.specs.Numbers.{decimal}
use Rattle.tabled_grid.specs.Grid.{Grid}
use Rattle.tabled_grid.specs.declared.config.offset.Offset.{Offset}
use Rattle.tabled_grid.specs.declared.config.offset.Offset.TheVariants.{End, Start}
use Rattle.tabled_select.specs.Locators.{columns_with}
use Rattle.tabled_settings.specs.Named.{are_in_order, counted, rows_where, sliced}
use Rattle.tabled_settings.specs.Sorted.{first_named}
use Rattle.tabled_settings.specs.declared.text_test.Comparison.{Comparison}
use Rattle.tabled_settings.specs.declared.text_test.Comparison.TheVariants.{Greater, GreaterOrEqual, Less, LessOrEqual}
use Rattle.tabled_language.specs.Word.{length_of}
use Rattle.tabled_language.specs.Words.{Reading, gives, kept, reads_all, reads_word, then_reads}

-- what names lines of a table of texts, in an order
abbrev pub NamedLines : Type 0
NamedLines = Grid (List ℕ) → List ℕ

-- an index counted from the end, of which 0 is the start
abbrev pub back_from_end : ℕ → Offset
back_from_end n = if n == 0 then Start 0 else End n

-- the index that a number tells, with a minus before it from the end
abbrev pub index_of : List ℕ → Option Offset
index_of [] = None
index_of (b ∷ bs) = if b == 45 then option_map back_from_end (length_of bs) else option_map Start (length_of (b ∷ bs))

-- the same, or where there is no text one that is told
abbrev pub bound_of : Offset → List ℕ → Option Offset
bound_of missing [] = Some missing
bound_of missing (b ∷ bs) = index_of (b ∷ bs)

-- a byte is a colon
abbrev pub is_colon : ℕ → Bool
is_colon b = b == 58

-- the lines of a slice, by its two bounds
abbrev pub slice_of : List ℕ → List ℕ → Option (ℕ → List ℕ)
slice_of from to = option_and_then (λ start. option_map (sliced start) (bound_of (End 0) to)) (bound_of (Start 0) from)

-- the lines, of n, that an index or a slice tells
abbrev pub lines_told : List ℕ → Option (ℕ → List ℕ)
lines_told word = if nat_lt (position_or_len is_colon word) (length word) then slice_of (before_first is_colon word) (after_first is_colon word) else option_map counted (index_of word)

-- the columns of an index or a slice, or those of a name
abbrev pub columns_by : Option (ℕ → List ℕ) → List ℕ → NamedLines
columns_by (Some lines) name = λ g. lines g.columns
columns_by None name = columns_with name

-- the columns that a word names: behind an equals sign those of a name
abbrev pub columns_of_word : List ℕ → NamedLines
columns_of_word [] = columns_by (lines_told []) []
columns_of_word (b ∷ bs) = if b == 61 then columns_with bs else columns_by (lines_told (b ∷ bs)) (b ∷ bs)

-- each word names columns
abbrev pub columns_told : List ℕ → Option NamedLines
columns_told word = Some (columns_of_word word)

-- a text is another one
abbrev pub is_text : List ℕ → List ℕ → Bool
is_text wanted text = pointwise nat_eq text wanted

-- a text is a number that is in an order with another one
abbrev pub is_number : Comparison → List ℕ → List ℕ → Bool
is_number how number text = are_in_order how (decimal text) (decimal number)

-- that test, where a number is told
abbrev pub number_test : Comparison → List ℕ → Option (List ℕ → Bool)
number_test how number = if is_some (decimal number) then Some (is_number how number) else None

-- a comparison with a number, or behind an equals sign another one
abbrev pub comparison_with : Comparison → Comparison → List ℕ → Option (List ℕ → Bool)
comparison_with strict equal [] = number_test strict []
comparison_with strict equal (b ∷ bs) = if b == 61 then number_test equal bs else number_test strict (b ∷ bs)

-- behind an equals sign: a text is none but this one
abbrev pub difference_from : List ℕ → Option (List ℕ → Bool)
difference_from [] = None
difference_from (b ∷ bs) = if b == 61 then Some (λ text. not (is_text bs text)) else None

-- the test that an operator tells, with what is behind it: `=`, `!=`, `<`, `<=`, `>` or `>=`
abbrev pub test_told : List ℕ → Option (List ℕ → Bool)
test_told [] = None
test_told (b ∷ bs) =
    if b == 61 then Some (is_text bs)
    else (if b == 33 then difference_from bs
    else (if b == 60 then comparison_with Less LessOrEqual bs
    else (if b == 62 then comparison_with Greater GreaterOrEqual bs
    else None)))

-- a byte begins an operator
abbrev pub is_operator : ℕ → Bool
is_operator b = (b == 61) || ((b == 33) || ((b == 60) || (b == 62)))

-- the rows below the first that pass the test of the first operator, in the first column of the name before it
abbrev pub rows_tested : List ℕ → Option NamedLines
rows_tested word = option_map (rows_where (before_first is_operator word)) (test_told (drop (position_or_len is_operator word) word))

-- the rows of an index or a slice, or those that pass a test
abbrev pub rows_by : Option (ℕ → List ℕ) → Option NamedLines → Option NamedLines
rows_by (Some lines) tested = Some (λ g. lines g.rows)
rows_by None tested = tested

-- the rows that a word names
abbrev pub rows_told : List ℕ → Option NamedLines
rows_told word = rows_by (lines_told word) (rows_tested word)

-- the lines of names, of one behind another
abbrev pub together : List NamedLines → NamedLines
together [] = λ g. []
together (lines ∷ others) = λ g. lines g ++ together others g

-- the lines that all words left name
abbrev pub reads_named_lines : (List ℕ → Option NamedLines) → Reading NamedLines
reads_named_lines tells = then_reads (reads_all tells) (λ names. gives (together names))

-- the column of an index, or the first of a name
abbrev pub column_by : Option ℕ → List ℕ → Grid (List ℕ) → ℕ
column_by (Some j) name = λ g. j
column_by None name = first_named name

-- the column that a word names: behind an equals sign a name
abbrev pub column_told : List ℕ → Grid (List ℕ) → ℕ
column_told [] = first_named []
column_told (b ∷ bs) = if b == 61 then first_named bs else column_by (length_of (b ∷ bs)) (b ∷ bs)

-- a word that names a column
abbrev pub reads_column : Reading (Grid (List ℕ) → ℕ)
reads_column = kept (then_reads reads_word (λ word. gives (column_told word)))
