use Rattle.tabled_json.proofs.Common.{◌≡◌, map, take}
use Rattle.tabled_json.specs.Records.{list_of}
use Rattle.tabled_json.specs.Tables.{row_of}
use Rattle.tabled_texts.specs.Texts.{text_of, texts_of}
use Rattle.tabled_json.proofs.tabling.fill.Given as goal

abbrev pub invariant-loop-member : goal.invariant-loop-member
invariant-loop-member l = map text_of l.row ≡ row_of (texts_of l.keys.texts) (list_of (take l.member-index l.object))
