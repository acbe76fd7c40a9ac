-- A script: its records, its merged cells and its steps, and which one bytes write.
use Rattle.std.specs.Prelude.{ℕ, List, ◌++◌, map, Result, filter_map}
use Rattle.std.specs.List.{AllByRecursion}
use Rattle.std.specs.Str.{IsUtf8}
use Rattle.tabled_grid.specs.Spans.{SpanMap, from_rectangles}
use Rattle.tabled_language.specs.declared.fault.Fault.{Fault}
use Rattle.tabled_language.specs.Verb.{Line, RecordLine}
use Rattle.tabled_steps.specs.States.{State}
use Rattle.tabled_language.specs.Line.{anchor_in, ended_lines, lines_of, record_in, says_line, says_words, step_in, table_from}
use Rattle.tabled_language.specs.Faults.{fault_among, if_faultless}

-- rows of texts
abbrev pub Records : Type 0
Records = List (List (List ℕ))

-- each text is UTF-8
abbrev pub AreTexts : Records → Type 0
AreTexts rows = AllByRecursion (AllByRecursion IsUtf8) rows

-- the records, the merged cells and the steps of a script
pub record Script : Type 0 where
  pub records : Records
  pub spans : SpanMap
  pub steps : List (State → State)

-- the state that a script begins with: its records, padded, and its merged cells
abbrev pub start : Script → State
start script = record { texts = table_from script.records; spans = script.spans }

-- the records, the merged cells and the steps among lines, in order
abbrev pub script_of : List Line → Script
script_of lines = record { records = filter_map record_in lines; spans = from_rectangles (filter_map anchor_in lines); steps = filter_map step_in lines }

-- the script that lines are, or the number of the first faulty one and its fault
abbrev pub script_or_fault : List Line → Result Script (ℕ × Fault)
script_or_fault lines = if_faultless (script_of lines) (fault_among lines)

-- the script that bytes write, or the number of its first faulty line and the fault
abbrev pub parse : List ℕ → Result Script (ℕ × Fault)
parse input = script_or_fault (map says_line (lines_of input))

-- the lines of a script between rows and words: a record for each row, the lines of bytes, and a line for each list of words
abbrev pub lines_between : Records → List ℕ → Records → List Line
lines_between rows input words = map RecordLine rows ++ (map says_line (ended_lines input) ++ map says_words words)

-- the script of rows, bytes and words, or the number of its first faulty line and the fault
abbrev pub parse_between : Records → List ℕ → Records → Result Script (ℕ × Fault)
parse_between rows input words = script_or_fault (lines_between rows input words)
