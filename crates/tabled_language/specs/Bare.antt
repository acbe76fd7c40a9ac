-- What a script says where the words `shape` and `span` begin no line: records and steps alone.
use Rattle.std.specs.Prelude.{ℕ, Bool, true, false, ◌||◌, List, [], ◌∷◌, codes, map, if◌then◌else◌, Option, None, Some, Result, filter_map}
use Rattle.std.specs.List.{list_any}
use Rattle.std.specs.Str.{bytes_eq}
use Rattle.tabled_grid.specs.Spans.{empty}
use Rattle.tabled_language.specs.declared.fault.Fault.{Fault}
use Rattle.tabled_language.specs.declared.fault.Fault.TheVariants.{Escape, OutOfPlace}
use Rattle.tabled_language.specs.Faults.{first_fault, if_faultless}
use Rattle.tabled_language.specs.Line.{record_in, step_in}
use Rattle.tabled_language.specs.Script.{Script}
use Rattle.tabled_language.specs.Line.{lines_of, texts_of, words_of}
use Rattle.tabled_language.specs.Verb.{Line, EmptyLine, RecordLine, StepLine, FaultyLine, says_step}

-- texts begin with `shape` or `span`
abbrev pub begin_a_table : Option (List (List ℕ)) → Bool
begin_a_table None = false
begin_a_table (Some []) = false
begin_a_table (Some (verb ∷ texts)) = bytes_eq verb (codes "shape") || bytes_eq verb (codes "span")

-- some line of a script begins with `shape` or `span`
abbrev pub has_either_word : List ℕ → Bool
has_either_word input = list_any (λ line. begin_a_table (texts_of (words_of line))) (lines_of input)

-- what a verb says with the texts after it: a record or a step
abbrev pub says_record_or_step : List ℕ → List (List ℕ) → Line
says_record_or_step verb texts = if bytes_eq verb (codes "row") then RecordLine texts else says_step verb texts

-- what a line's texts say
abbrev pub bare_meaning_of : Option (List (List ℕ)) → Line
bare_meaning_of None = FaultyLine Escape
bare_meaning_of (Some []) = EmptyLine
bare_meaning_of (Some (verb ∷ texts)) = says_record_or_step verb texts

-- what a line says; one without bytes says nothing
abbrev pub bare_line_of : List ℕ → Line
bare_line_of [] = EmptyLine
bare_line_of (b ∷ bs) = bare_meaning_of (texts_of (words_of (b ∷ bs)))

-- a line is a step
abbrev pub is_step : Line → Bool
is_step (StepLine step) = true
is_step line = false

-- what is wrong with a line, where a step stands before it or none
abbrev pub bare_fault_of : Bool → Line → Option Fault
bare_fault_of stepped (RecordLine texts) = if stepped then Some OutOfPlace else None
bare_fault_of stepped (FaultyLine fault) = Some fault
bare_fault_of stepped line = None

-- what is wrong with a line after earlier lines
abbrev pub bare_fault : List Line → Line → Option Fault
bare_fault earlier line = bare_fault_of (list_any is_step earlier) line

-- the records and the steps among lines, and no merged cells, or the number of the first faulty line and its fault
abbrev pub bare_script : List Line → Result Script (ℕ × Fault)
bare_script lines = if_faultless (record { records = filter_map record_in lines; spans = empty; steps = filter_map step_in lines }) (first_fault bare_fault [] lines)

-- the script that bytes write, or the number of its first faulty line and the fault
abbrev pub bare_parse : List ℕ → Result Script (ℕ × Fault)
bare_parse input = bare_script (map bare_line_of (lines_of input))
