use Rattle.std.specs.Prelude.{◌≡◌, map, take}
use Rattle.tabled_texts.specs.Texts.{text_of}
use Rattle.tabled_language.specs.Lent.{texts_in_row}
use Rattle.tabled_script.proofs.lending.lent_row.Given as goal

abbrev pub invariant-loop-text : goal.invariant-loop-text
invariant-loop-text l = texts_in_row l.lent ≡ map text_of (take l.text-index l.row)
