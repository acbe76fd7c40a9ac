-- The faults of a script: which comes first, and the number of each.
use Rattle.std.specs.Prelude.{ℕ, ◌+◌, Bool, true, false, ◌==◌, ◌&&◌, List, [], ◌∷◌, ◌++◌, length, if◌then◌else◌, Option, None, Some, Result, Ok, Err, filter_map}
use Rattle.std.specs.List.{list_all}
use Rattle.std.specs.Option.{option_map, option_or}
use Rattle.tabled_grid.specs.Grid.{Grid}
use Rattle.tabled_language.specs.declared.fault.Fault.{Fault}
use Rattle.tabled_language.specs.declared.fault.Fault.TheVariants.{Escape, NumberRange, OutOfPlace, SelectorDepth, ShapeDiffers, SpanMisfits, UnknownWord, WordCount}
use Rattle.tabled_language.specs.Verb.{Line, EmptyLine, ShapeLine, RecordLine, SpanLine, StepLine, FaultyLine}
use Rattle.tabled_language.specs.Line.{anchor_in, record_in, shape_in, table_from}
use Rattle.tabled_grid.specs.Fitting.{fits_among}

-- a line may stand after an earlier one: the shape comes first, then records, then spans, then steps
abbrev pub may_follow : Line → Line → Bool
may_follow (ShapeLine read) EmptyLine = true
may_follow (ShapeLine read) earlier = false
may_follow (RecordLine texts) (SpanLine read) = false
may_follow (RecordLine texts) (StepLine step) = false
may_follow (SpanLine read) (StepLine step) = false
may_follow line earlier = true

-- a line stands in its place after earlier lines
abbrev pub is_in_place : List Line → Line → Bool
is_in_place earlier line = list_all (may_follow line) earlier

-- the fault of what was read, if it has one
abbrev pub fault_in : {A : Type 0} → Result A Fault → Option Fault
fault_in (Ok x) = None
fault_in (Err fault) = Some fault

-- the fault of a line in its place, if it has one
abbrev pub words_fault : Line → Option Fault
words_fault EmptyLine = None
words_fault (ShapeLine read) = fault_in read
words_fault (RecordLine texts) = None
words_fault (SpanLine read) = fault_in read
words_fault (StepLine step) = None
words_fault (FaultyLine fault) = Some fault

-- what is wrong with a line by itself, after earlier lines. Its first word is out of place before a later word is wrong
abbrev pub fault_of : List Line → Line → Option Fault
fault_of earlier line = if is_in_place earlier line then words_fault line else Some OutOfPlace

-- the number of the first line at fault by a test and its fault, among lines after earlier ones
abbrev pub first_fault : (List Line → Line → Option Fault) → List Line → List Line → Option (ℕ × Fault)
first_fault fault_at earlier [] = None
first_fault fault_at earlier (line ∷ lines) = option_or (option_map (λ fault. (length earlier + 1, fault)) (fault_at earlier line)) (first_fault fault_at (earlier ++ line ∷ []) lines)

-- a fault where there is a value, unless that passes a test
abbrev pub unless_it : {A : Type 0} → (A → Bool) → Fault → Option A → Option Fault
unless_it passes fault None = None
unless_it passes fault (Some x) = if passes x then None else Some fault

-- what is wrong with a shape beside a table
abbrev pub shape_fault : Grid (List ℕ) → List Line → Line → Option Fault
shape_fault g earlier line = unless_it (λ shape. (shape.0 == g.rows) && (shape.1 == g.columns)) ShapeDiffers (shape_in line)

-- what is wrong with an anchor in a table, after earlier lines
abbrev pub span_fault : Grid (List ℕ) → List Line → Line → Option Fault
span_fault g earlier line = unless_it (fits_among g.rows g.columns (filter_map anchor_in earlier)) SpanMisfits (anchor_in line)

-- the first fault of lines: the first of a line by itself, or else a shape beside the table of the records, or else the first of a span in that table
abbrev pub fault_among : List Line → Option (ℕ × Fault)
fault_among lines =
    let g = table_from (filter_map record_in lines) in
    option_or (first_fault fault_of [] lines) (option_or (first_fault (shape_fault g) [] lines) (first_fault (span_fault g) [] lines))

-- a value, or else the first faulty line and its fault
abbrev pub if_faultless : {A : Type 0} → A → Option (ℕ × Fault) → Result A (ℕ × Fault)
if_faultless x None = Ok x
if_faultless x (Some fault) = Err fault

-- the number that stands for a fault in what is written
abbrev pub fault_number : Fault → ℕ
fault_number UnknownWord = 1
fault_number WordCount = 2
fault_number NumberRange = 3
fault_number Escape = 4
fault_number SelectorDepth = 5
fault_number OutOfPlace = 6
fault_number SpanMisfits = 7
fault_number ShapeDiffers = 8
