-- What the code's values say of a script (`script_in`), and how it goes through one, step by step. Nothing of it belongs to the language.
use Rattle.std.specs.Prelude.{◌≡◌, ◌<◌, ◌≤◌, ◌⊎◌, ◌+◌, ◌^◌, ℕ, Bool, true, false, List, [], length, Option, None, Some, Result, Ok, Err, MatchResult, String, map, not}
use Rattle.std.specs.Global.{Global, Vec}
use Rattle.std.specs.Slice.Iter.{iter_rest}
use Rattle.std.specs.String.{string_bytes}
use Rattle.tabled_grid.specs.Grid.{map_items}
use Rattle.tabled_grid.specs.Spans.{SpanMap}
use Rattle.tabled_settings.specs.Named.{columns_named, counted, rows_named, rows_where, sliced}
use Rattle.tabled_settings.specs.declared.line_names.ColumnName.{ColumnName}
use Rattle.tabled_settings.specs.declared.line_names.RowName.{RowName}
use Rattle.tabled_steps.specs.States.{after}
use Rattle.tabled_steps.specs.declared.step.Step.{Step}
use Rattle.tabled_language.specs.declared.draft.Draft.{Draft as Drafted}
use Rattle.tabled_language.specs.declared.fault.Fault.{Fault}
use Rattle.tabled_language.specs.declared.fault.Fault.TheVariants.{OutOfPlace}
use Rattle.tabled_language.specs.declared.fault.ParseError.{ParseError}
use Rattle.tabled_language.specs.declared.fault.ParseError.TheVariants as parse_error
use Rattle.tabled_language.specs.declared.fault.LineError.{LineError}
use Rattle.tabled_language.specs.declared.fault.LineError.TheVariants.{Faulty, OutOfMemory}
use Rattle.tabled_language.specs.declared.lent.LentText.{LentText}
use Rattle.tabled_language.specs.declared.line_words.ToldLines.{ToldLines}
use Rattle.tabled_language.specs.declared.line_words.ToldLines.TheVariants.{At, Between}
use Rattle.tabled_language.specs.declared.line_words.Operator.{Operator}
use Rattle.tabled_language.specs.declared.line_words.Operator.TheVariants as operator
use Rattle.tabled_language.specs.declared.line_words.RowTest.{RowTest}
use Rattle.tabled_language.specs.declared.line_words.RowWord.{RowWord}
use Rattle.tabled_language.specs.declared.line_words.RowWord.TheVariants as row_word
use Rattle.tabled_language.specs.declared.script.Script.{Script as Scripted}
use Rattle.tabled_language.specs.declared.words.WordSource.{WordSource}
use Rattle.tabled_language.specs.declared.words.WordSource.TheVariants.{Line as InLine, Texts}
use Rattle.tabled_language.specs.Drafts.{Draft, asks_behind, draft_of, fault_behind, first_behind, takes, with_line, with_lines}
use Rattle.tabled_language.specs.Lent.{bytes_of, texts_in_records}
use Rattle.tabled_language.specs.Faults.{fault_of, first_fault}
use Rattle.tabled_language.specs.LineNames.{NamedLines, is_number, is_text}
use Rattle.tabled_language.specs.Line.{meaning_of, numbers_of, says_words, step_in}
use Rattle.tabled_language.specs.Memory.{GivenLine, asks_between, asks_memory, says_given, verb_asks, words_ask}
use Rattle.tabled_language.specs.Script.{Script, parse, parse_between, script_or_fault}
use Rattle.tabled_language.specs.Verb.{Line, says_verb}
use Rattle.tabled_language.specs.Words.{Reading}

-- the words that are left of a source
abbrev pub words_in : WordSource → List (List ℕ)
words_in (InLine words) = words
words_in (Texts texts) = map bytes_of (iter_rest texts)

-- why a reading ends early: the fault that it meets, or memory that it asks for
abbrev pub EndsEarly : {A : Type 0} → Reading A → List (List ℕ) → LineError → Type 0
EndsEarly reading texts (Faulty fault) = reading.reads texts ≡ Err fault
EndsEarly reading texts OutOfMemory = reading.asks texts ≡ true

-- code reads as a reading says, from texts to those left, with what it gave seen through a view
abbrev pub Reads : {A X : Type 0} → (X → A) → Reading A → List (List ℕ) → Result X LineError → List (List ℕ) → Type 0
Reads view reading old result new = MatchResult result (λ x. reading.reads old ≡ Ok (view x, new)) (EndsEarly reading old)

-- the texts of rows of cells in memory
abbrev pub cell_texts : List (Vec (String Global)) → List (List (List ℕ))
cell_texts rows = map (map string_bytes) (map_items rows)

-- code takes what it is to take, seen through a view, and leaves the texts that it is to leave, or memory was refused
abbrev pub TakesWords : {A X : Type 0} → (X → A) → A → List (List ℕ) → Result X LineError → List (List ℕ) → Type 0
TakesWords view taken left result new = MatchResult result (λ x. (view x ≡ taken) × (new ≡ left)) (λ error. error ≡ OutOfMemory)

-- the lines, of n, that an index or a slice in memory tells
abbrev pub lines_in : ToldLines → ℕ → List ℕ
lines_in (At index) = counted index
lines_in (Between from to) = sliced from to

-- what a name of rows names
abbrev pub row_lines : RowName → NamedLines
row_lines name g = rows_named g name

-- what a name of columns names
abbrev pub column_lines : ColumnName → NamedLines
column_lines name g = columns_named g name

-- a text passes the test of an operator and a value
abbrev pub is_tested : Operator → List ℕ → List ℕ → Bool
is_tested operator.Is wanted = is_text wanted
is_tested operator.IsNot other = λ text. not (is_text other text)
is_tested (operator.Compares how) number = is_number how number

-- the columns that these are
abbrev pub columns_in : ToldLines → NamedLines
columns_in lines g = lines_in lines g.columns

-- the rows that pass a test in memory
abbrev pub rows_tested_in : RowTest → NamedLines
rows_tested_in test = rows_where test.title.now (is_tested test.operator test.value.now)

-- the rows that a word in memory names
abbrev pub rows_in : RowWord → NamedLines
rows_in (row_word.Lines lines) = λ g. lines_in lines g.rows
rows_in (row_word.Where test) = rows_tested_in test

-- the draft of what is in memory
abbrev pub draft_in : Drafted → Draft
draft_in d = record { shape = d.shape; records = texts_in_records d.records.items; anchors = d.spans.anchors; lines = d.spans.numbers; steps = map after d.steps.items; step_lines = d.step_lines.items }

-- the script of what is in memory
abbrev pub script_in : List (Vec LentText) → SpanMap → List Step → Script
script_in records spans steps = record { records = texts_in_records records; spans = spans; steps = map after steps }

-- what is meant is the script that is in memory
abbrev pub IsScript : Result Script (ℕ × Fault) → Scripted → Type 0
IsScript meant s = meant ≡ Ok (script_in s.records.items s.spans s.steps.items)

-- why bytes aren't read as a script: the number of the first faulty line and its fault; or memory, where some is asked for
abbrev pub EndsScript : List ℕ → ParseError → Type 0
EndsScript input (parse_error.Faulty line fault) = parse input ≡ Err (line, fault)
EndsScript input parse_error.OutOfMemory = asks_memory input ≡ true

-- why rows, bytes and words aren't read as a script: so it is, or there are more rows and words than any memory holds
abbrev pub EndsBetween : List (List (List ℕ)) → List ℕ → List (List (List ℕ)) → ParseError → Type 0
EndsBetween rows input words (parse_error.Faulty line fault) = parse_between rows input words ≡ Err (line, fault)
EndsBetween rows input words parse_error.OutOfMemory = (asks_between rows input words ≡ true) ⊎ (2 ^ 63 ≤ length rows + length words)

-- the numbers that a script in memory keeps are those of the lines that say its steps
abbrev pub HasStepLines : List Line → Scripted → Type 0
HasStepLines lines s = s.step_lines.items ≡ numbers_of step_in 0 lines

-- the lines of a draft, none of which is faulty by itself, mean this
abbrev pub DraftMeans : Draft → Result Script (ℕ × Fault) → Type 0
DraftMeans d meant = (lines : List Line) → first_fault fault_of [] lines ≡ None → d ≡ draft_of lines → script_or_fault lines ≡ meant

-- why a draft becomes no script: the fault that its lines mean; or memory, where there are anchors
abbrev pub EndsDraft : Draft → ParseError → Type 0
EndsDraft d (parse_error.Faulty line fault) = DraftMeans d (Err (line, fault))
EndsDraft d parse_error.OutOfMemory = 0 < length d.anchors

-- a draft becomes the script that its lines mean, or why it becomes none
abbrev pub BecomesScript : Draft → Result Scripted ParseError → Type 0
BecomesScript d result = MatchResult result (λ s. DraftMeans d (Ok (script_in s.records.items s.spans s.steps.items)) × (s.step_lines.items ≡ d.step_lines)) (EndsDraft d)

-- why a line isn't read: its fault, or memory where it asks for some
abbrev pub LineEnds : Option Fault → Bool → LineError → Type 0
LineEnds wrong asks (Faulty fault) = wrong ≡ Some fault
LineEnds wrong asks OutOfMemory = asks ≡ true

-- the line of a number read into a draft, or why it isn't
abbrev pub ReadsLine : {X : Type 0} → Draft → ℕ → Line → Bool → Result X LineError → Draft → Type 0
ReadsLine old n line asks result new = MatchResult result (λ _. (fault_behind old line ≡ None) × (new ≡ with_line old n line)) (LineEnds (fault_behind old line) asks)

-- the words of the line of a number read into a draft, or why they aren't
abbrev pub ReadsWords : {X : Type 0} → Draft → ℕ → List (List ℕ) → Result X LineError → Draft → Type 0
ReadsWords old n words result new = ReadsLine old n (meaning_of (Some words)) (words_ask (takes old) words) result new

-- what a verb says with words, in the line of a number, read into a draft, or why it isn't
abbrev pub ReadsVerb : {X : Type 0} → Draft → ℕ → List ℕ → List (List ℕ) → Result X LineError → Draft → Type 0
ReadsVerb old n verb words result new = ReadsLine old n (says_verb verb words) (verb_asks (takes old) verb words) result new

-- words read into a draft as those of the line of a number, or why they aren't
abbrev pub ReadsGivenWords : {X : Type 0} → Draft → ℕ → List (List ℕ) → Result X LineError → Draft → Type 0
ReadsGivenWords old n words result new = ReadsLine old n (says_words words) (words_ask (takes old) words) result new

-- code says that a line stands in its place after what was read, or that it doesn't
abbrev pub IsPlaced : {X : Type 0} → Draft → Line → Result X LineError → Type 0
IsPlaced d line result = MatchResult result (λ _. takes d line ≡ true) (λ error. (error ≡ Faulty OutOfPlace) × (takes d line ≡ false))

-- lines after n were read into a draft without a fault, with the number of the last
pub record HasGiven (old : Draft) (n : ℕ) (lines : List GivenLine) (read : Drafted × ℕ) : Type 0 where
  pub faultless : first_behind old n (map says_given lines) ≡ None
  pub is : draft_in read.0 ≡ with_lines old n (map says_given lines)
  pub counted : read.1 ≡ n + length lines

-- why lines after n aren't read
abbrev pub EndsGiven : Draft → ℕ → List GivenLine → ParseError → Type 0
EndsGiven old n lines (parse_error.Faulty line fault) = first_behind old n (map says_given lines) ≡ Some (line, fault)
EndsGiven old n lines parse_error.OutOfMemory = asks_behind old n lines ≡ true

-- lines after n read into a draft, with the number of the last, or why they aren't
abbrev pub ReadsGiven : Draft → ℕ → List GivenLine → Result (Drafted × ℕ) ParseError → Type 0
ReadsGiven old n lines result = MatchResult result (HasGiven old n lines) (EndsGiven old n lines)

-- why a script isn't read, by why one of its lines isn't, and the number of that line
abbrev pub in_line : ℕ → LineError → ParseError
in_line line (Faulty fault) = parse_error.Faulty line fault
in_line line OutOfMemory = parse_error.OutOfMemory
