-- What was read of a script so far: enough to tell whether the next line stands in its place, and to check the whole at the end. Nothing of it belongs to the language.
use Rattle.std.specs.Prelude.{ℕ, ◌+◌, ◌==◌, ◌&&◌, ◌||◌, Bool, true, false, List, [], ◌∷◌, ◌++◌, if◌then◌else◌, Option, None, Some, filter_map}
use Rattle.std.specs.Option.{is_none, option_map, option_or}
use Rattle.tabled_grid.specs.Grid.{Grid}
use Rattle.tabled_grid.specs.declared.config.rectangle.Rectangle.{Rectangle}
use Rattle.tabled_steps.specs.States.{State}
use Rattle.tabled_language.specs.declared.draft.Shape.{Shape}
use Rattle.tabled_language.specs.declared.fault.Fault.{Fault}
use Rattle.tabled_language.specs.declared.fault.Fault.TheVariants.{OutOfPlace, ShapeDiffers}
use Rattle.tabled_language.specs.Faults.{words_fault}
use Rattle.tabled_language.specs.Line.{anchor_in, number_if, numbers_of, record_in, shape_in, step_in}
use Rattle.tabled_language.specs.Memory.{GivenLine, given_asks, says_given}
use Rattle.tabled_language.specs.Verb.{Line, ShapeLine, RecordLine, SpanLine}

-- the shape that a line says, the records, and the anchors and the steps with the numbers of their lines
pub record Draft : Type 0 where
  pub shape : Option Shape
  pub records : List (List (List ℕ))
  pub anchors : List Rectangle
  pub lines : List ℕ
  pub steps : List (State → State)
  pub step_lines : List ℕ

-- a list is empty
abbrev pub is_nil : {A : Type 0} → List A → Bool
is_nil [] = true
is_nil (x ∷ xs) = false

-- a line stands in its place after what was read
abbrev pub takes : Draft → Line → Bool
takes d (ShapeLine read) = is_none d.shape && (is_nil d.records && (is_nil d.anchors && is_nil d.steps))
takes d (RecordLine texts) = is_nil d.anchors && is_nil d.steps
takes d (SpanLine read) = is_nil d.steps
takes d line = true

-- what is wrong with a line after what was read
abbrev pub fault_behind : Draft → Line → Option Fault
fault_behind d line = if takes d line then words_fault line else Some OutOfPlace

-- the shape that the line of a number says
abbrev pub shape_at : ℕ → ℕ × ℕ → Shape
shape_at n shape = record { line = n; rows = shape.0; columns = shape.1 }

-- the shape of the first line that says one, after n lines
abbrev pub shape_among : ℕ → List Line → Option Shape
shape_among n [] = None
shape_among n (line ∷ lines) = option_or (option_map (shape_at (n + 1)) (shape_in line)) (shape_among (n + 1) lines)

-- the draft of lines
abbrev pub draft_of : List Line → Draft
draft_of lines = record {
  shape = shape_among 0 lines;
  records = filter_map record_in lines;
  anchors = filter_map anchor_in lines;
  lines = numbers_of anchor_in 0 lines;
  steps = filter_map step_in lines;
  step_lines = numbers_of step_in 0 lines;
}

-- what is wrong with the shape of a draft beside a table
abbrev pub shape_misfit : Grid (List ℕ) → Option Shape → Option (ℕ × Fault)
shape_misfit g None = None
shape_misfit g (Some shape) = if (shape.rows == g.rows) && (shape.columns == g.columns) then None else Some (shape.line, ShapeDiffers)

-- a draft with what the line of a number says
abbrev pub with_line : Draft → ℕ → Line → Draft
with_line d n line = record {
  shape = option_or d.shape (option_map (shape_at n) (shape_in line));
  records = d.records ++ filter_map record_in (line ∷ []);
  anchors = d.anchors ++ filter_map anchor_in (line ∷ []);
  lines = d.lines ++ number_if anchor_in n line;
  steps = d.steps ++ filter_map step_in (line ∷ []);
  step_lines = d.step_lines ++ number_if step_in n line;
}

-- a draft with what lines after n say
abbrev pub with_lines : Draft → ℕ → List Line → Draft
with_lines d n [] = d
with_lines d n (line ∷ lines) = with_lines (with_line d (n + 1) line) (n + 1) lines

-- the number of the first faulty line and its fault, among lines after n
abbrev pub first_behind : Draft → ℕ → List Line → Option (ℕ × Fault)
first_behind d n [] = None
first_behind d n (line ∷ lines) = option_or (option_map (λ fault. (n + 1, fault)) (fault_behind d line)) (first_behind (with_line d (n + 1) line) (n + 1) lines)

-- reading lines after n asks for memory: one of them does up to the first faulty one
abbrev pub asks_behind : Draft → ℕ → List GivenLine → Bool
asks_behind d n [] = false
asks_behind d n (line ∷ lines) = given_asks (takes d) line || (is_none (fault_behind d (says_given line)) && asks_behind (with_line d (n + 1) (says_given line)) (n + 1) lines)
