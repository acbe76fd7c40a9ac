-- What is written of a table is read as that table.
use Rattle.std.specs.Prelude.{◌≡◌, ◌≤◌, ℕ, List, [], Ok}
use Rattle.std.specs.List.{AllByRecursion}
use Rattle.std.specs.Str.{IsUtf8}
use Rattle.tabled_grid.specs.Grid.{IsEmptyWithoutRows, IsEven}
use Rattle.tabled_grid.specs.Fitting.{Fits}
use Rattle.tabled_grid.specs.Spans.{empty}
use Rattle.tabled_steps.specs.States.{State}
use Rattle.tabled_language.specs.Script.{Script, parse, start}
use Rattle.tabled_language.specs.Line.{table_from}
use Rattle.tabled_language.specs.Output.{print, row_lines}
use Rattle.tabled_language.specs.Word.{largest_size}

-- a table of texts, 0 x 0 where it has no rows, of as many rows and columns as may be, and merged cells that fit
pub record IsTable (s : State) : Type 0 where
  pub even : IsEven s.texts
  pub empty : IsEmptyWithoutRows s.texts
  pub texts : AllByRecursion (AllByRecursion IsUtf8) s.texts.cells
  pub rows : s.texts.rows ≤ largest_size
  pub columns : s.texts.columns ≤ largest_size
  pub fits : Fits s.spans s.texts.rows s.texts.columns

-- the output of a state is a script that begins with that state, and has no steps
pub record ReadsBack (s : State) : Type 0 where
  pub script : Script
  pub read : parse (print s) ≡ Ok script
  pub starts : start script ≡ s
  pub steps : script.steps ≡ []

-- records that are written as lines are a script of these records, whose table they are once they are padded, with no merged cells and no steps
pub record ReadsRows (rows : List (List (List ℕ))) : Type 0 where
  pub script : Script
  pub read : parse (row_lines rows) ≡ Ok script
  pub starts : start script ≡ record { texts = table_from rows; spans = empty }
  pub steps : script.steps ≡ []
