use Rattle.tabled_json.proofs.Faulty.{records-none, table-none}
use Rattle.tabled_json.proofs.laws.faulty_bytes_mean_nothing.Goals as goal
use Rattle.tabled_texts.specs.Marks.{behind_mark}

pub returns : goal.returns
returns c bytes = record {
  records = λ line column fault f. records-none (behind_mark bytes) fault f.0 f.1;
  table = λ line column fault f. table-none (behind_mark bytes) fault f.0 f.1;
}
