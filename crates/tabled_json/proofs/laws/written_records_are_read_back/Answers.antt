use Rattle.tabled_json.proofs.Lines.{records-unique}
use Rattle.tabled_json.proofs.WrittenRows.{records-mean}
use Rattle.tabled_json.specs.Writing.{records_text}
use Rattle.tabled_json.proofs.laws.written_records_are_read_back.Goals as goal
use Rattle.tabled_texts.specs.Marks.{behind_mark}

pub returns : goal.returns
returns c objects all = record {
  means = λ layout values. records-mean layout values objects all;
  only = λ layout values others d. records-unique (behind_mark (records_text layout values objects)) others objects d (records-mean layout values objects all);
}
