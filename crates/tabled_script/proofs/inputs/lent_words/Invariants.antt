use Rattle.std.specs.Prelude.{◌≡◌, take}
use Rattle.tabled_language.specs.Lent.{texts_in_records}
use Rattle.tabled_language.specs.Parsing.{cell_texts}
use Rattle.tabled_script.proofs.inputs.lent_words.Given as goal

abbrev pub invariant-loop-step : goal.invariant-loop-step
invariant-loop-step l = texts_in_records l.words.items ≡ cell_texts (take l.step-index l.steps)
