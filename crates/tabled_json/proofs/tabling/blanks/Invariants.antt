use Rattle.tabled_json.proofs.Common.{◌≡◌, [], map, take}
use Rattle.tabled_json.specs.Tables.{row_of}
use Rattle.tabled_texts.specs.Texts.{text_of, texts_of}
use Rattle.tabled_json.proofs.tabling.blanks.Given as goal

abbrev pub invariant-loop-key : goal.invariant-loop-key
invariant-loop-key l = texts_of l.row ≡ row_of (map text_of (take l.key-index l.keys)) []
