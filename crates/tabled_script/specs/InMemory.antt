-- What the code's values say of a table and of a script.
use Rattle.std.specs.Prelude.{ℕ, List, String}
use Rattle.std.specs.Global.{Global, Vec}
use Rattle.std.specs.String.{string_bytes}
use Rattle.tabled_grid.specs.Grid.{Grid, grid_of, map_grid, map_items}
use Rattle.tabled_grid.specs.Spans.{SpanMap}
use Rattle.tabled_language.specs.Lent.{bytes_of}
use Rattle.tabled_language.specs.Parsing.{script_in}
use Rattle.tabled_language.specs.Script.{Script}
use Rattle.tabled_language.specs.declared.lent.LentText.{LentText}
use Rattle.tabled_language.specs.declared.script.Script.{Script as Scripted}
use Rattle.tabled_steps.specs.States.{State, state_of}

-- the texts of records, by what the text of a cell is
abbrev pub texts_by : {A : Type 0} → (A → List ℕ) → List (Vec A) → Grid (List ℕ)
texts_by text records = map_grid text (grid_of (map_items records))

-- the table of the bytes of texts, row by row
abbrev pub grid_of_texts : List (List (String Global)) → Grid (List ℕ)
grid_of_texts rows = map_grid string_bytes (grid_of rows)

-- the state of records and merged cells, by what the text of a cell is
abbrev pub state_by : {A : Type 0} → (A → List ℕ) → List (Vec A) → SpanMap → State
state_by text records spans = state_of text (grid_of (map_items records)) spans

-- the state of a script's records and merged cells
abbrev pub state_in : List (Vec LentText) → SpanMap → State
state_in = state_by bytes_of

-- what a script says
abbrev pub said_by : Scripted → Script
said_by script = script_in script.records.items script.spans script.steps.items
