use Rattle.tabled_json.proofs.Common.{◌≡◌, map, take}
use Rattle.tabled_json.specs.Records.{all_of}
use Rattle.tabled_json.specs.Tables.{row_of}
use Rattle.tabled_texts.specs.Texts.{rows_of, texts_of}
use Rattle.tabled_json.proofs.tabling.table.Given as goal

abbrev pub invariant-loop-object : goal.invariant-loop-object
invariant-loop-object l = rows_of l.rows.items ≡ map (row_of (texts_of l.keys.texts)) (all_of (take l.object-index l.objects))
