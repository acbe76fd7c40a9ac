use Rattle.tabled_json.proofs.Lines.{records-unique}
use Rattle.tabled_json.proofs.laws.bytes_mean_one_list_of_records.Goals as goal
use Rattle.tabled_texts.specs.Marks.{behind_mark}

pub returns : goal.returns
returns c bytes objects others a b = records-unique (behind_mark bytes) objects others a b
