-- The output of a script, given to the program once more.
use Rattle.std.specs.Prelude.{◌≡◌, Ok}
use Rattle.tabled_language.specs.Script.{Script, parse}
use Rattle.tabled_grid.specs.Fitting.{Fits}
use Rattle.tabled_script.specs.Answer.{ended, output_of}

-- merged cells fit the table that a script ends with
abbrev pub FitsAtEnd : Script → Type 0
FitsAtEnd script = Fits (ended script).spans (ended script).texts.rows (ended script).texts.columns

-- the output of a script is a script that has the same output
pub record GivesAgain (script : Script) : Type 0 where
  pub again : Script
  pub read : parse (output_of script) ≡ Ok again
  pub same : output_of again ≡ output_of script
