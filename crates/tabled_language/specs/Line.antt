-- A line of a script, what it says, and the table of records.
use Rattle.std.specs.Prelude.{ℕ, Bool, true, false, if◌then◌else◌, ◌==◌, ◌+◌, ◌&&◌, not, List, [], ◌∷◌, ◌++◌, Option, None, Some, filter_map, map}
use Rattle.std.specs.List.{list_any, slice_split}
use Rattle.std.specs.Option.{option_and_then, option_map}
use Rattle.std.specs.Result.{result_ok}
use Rattle.std.specs.Str.{is_utf8}
use Rattle.tabled_grid.specs.Grid.{Grid}
use Rattle.tabled_grid.specs.declared.config.rectangle.Rectangle.{Rectangle}
use Rattle.tabled_language.specs.declared.fault.Fault.TheVariants.{Escape}
use Rattle.tabled_language.specs.Verb.{Line, EmptyLine, ShapeLine, RecordLine, SpanLine, StepLine, FaultyLine, says}
use Rattle.tabled_language.specs.Word.{text_of_word}
use Rattle.tabled_steps.specs.States.{State}
use Rattle.tabled_table.specs.Builder.{from_uneven, table_of}

-- the lines of a script, which end at newlines
abbrev pub lines_of : List ℕ → List (List ℕ)
lines_of input = slice_split (λ b. b == 10) input

-- lines without the last one, if nothing stands there
abbrev pub without_empty_last : List (List ℕ) → List (List ℕ)
without_empty_last [] = []
without_empty_last ([] ∷ []) = []
without_empty_last ((b ∷ bs) ∷ []) = (b ∷ bs) ∷ []
without_empty_last (line ∷ next ∷ lines) = line ∷ without_empty_last (next ∷ lines)

-- the lines of bytes that others may stand behind: where nothing stands behind the last newline, that is no line
abbrev pub ended_lines : List ℕ → List (List ℕ)
ended_lines input = without_empty_last (lines_of input)

-- the words of a line, which single tabs separate
abbrev pub words_of : List ℕ → List (List ℕ)
words_of line = slice_split (λ b. b == 9) line

-- a byte stands among bytes
abbrev pub has_byte : ℕ → List ℕ → Bool
has_byte b bytes = list_any (λ c. c == b) bytes

-- the texts of words, or nothing where a word has none
abbrev pub texts_of : List (List ℕ) → Option (List (List ℕ))
texts_of [] = Some []
texts_of (word ∷ words) = option_and_then (λ text. option_map (λ texts. text ∷ texts) (texts_of words)) (text_of_word word)

-- what a line's texts say; the first is its verb
abbrev pub meaning_of : Option (List (List ℕ)) → Line
meaning_of None = FaultyLine Escape
meaning_of (Some []) = EmptyLine
meaning_of (Some (verb ∷ texts)) = says verb texts

-- what a line says; one without bytes says nothing
abbrev pub says_line : List ℕ → Line
says_line [] = EmptyLine
says_line (b ∷ bs) = meaning_of (texts_of (words_of (b ∷ bs)))

-- the line of words is empty: they are one empty word
abbrev pub make_empty_line : List (List ℕ) → Bool
make_empty_line ([] ∷ []) = true
make_empty_line words = false

-- what words say as those of a line
abbrev pub says_words : List (List ℕ) → Line
says_words words = if make_empty_line words then EmptyLine else meaning_of (Some words)

-- the shape that a line says, if it says one
abbrev pub shape_in : Line → Option (ℕ × ℕ)
shape_in (ShapeLine read) = result_ok read
shape_in line = None

-- the record that a line says, if it says one
abbrev pub record_in : Line → Option (List (List ℕ))
record_in (RecordLine texts) = Some texts
record_in line = None

-- the anchor that a line says, if it says one
abbrev pub anchor_in : Line → Option Rectangle
anchor_in (SpanLine read) = result_ok read
anchor_in line = None

-- the step that a line says, if it says one
abbrev pub step_in : Line → Option (State → State)
step_in (StepLine step) = Some step
step_in line = None

-- the number of a line, if it says something of a kind
abbrev pub number_if : {A : Type 0} → (Line → Option A) → ℕ → Line → List ℕ
number_if said n line = map (λ x. n) (filter_map said (line ∷ []))

-- the numbers of the lines that say something of a kind, among lines after n
abbrev pub numbers_of : {A : Type 0} → (Line → Option A) → ℕ → List Line → List ℕ
numbers_of said n [] = []
numbers_of said n (line ∷ lines) = number_if said (n + 1) line ++ numbers_of said (n + 1) lines

-- records, each padded with empty texts to the longest
abbrev pub table_from : List (List (List ℕ)) → Grid (List ℕ)
table_from records = table_of (from_uneven records)

-- bytes that are UTF-8 without a backslash, so that each word is its own text
abbrev pub is_plain : List ℕ → Bool
is_plain line = is_utf8 line && not (list_any (λ b. b == 92) line)
