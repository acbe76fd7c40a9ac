use Rattle.tabled_json.proofs.Meaning.{table-unique}
use Rattle.tabled_json.proofs.laws.bytes_mean_one_table.Goals as goal
use Rattle.tabled_texts.specs.Marks.{behind_mark}

pub returns : goal.returns
returns c bytes rows others a b = table-unique (behind_mark bytes) rows others a b
