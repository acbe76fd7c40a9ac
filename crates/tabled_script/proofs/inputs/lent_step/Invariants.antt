use Rattle.std.specs.Prelude.{◌≡◌, map, take}
use Rattle.std.specs.String.{string_bytes}
use Rattle.tabled_language.specs.Lent.{texts_in_row}
use Rattle.tabled_script.proofs.inputs.lent_step.Given as goal

abbrev pub invariant-loop-word : goal.invariant-loop-word
invariant-loop-word l = texts_in_row l.words ≡ map string_bytes (take l.word-index l.step)
