use Rattle.tabled_json.specs.Writing.{records_of}
use Rattle.tabled_json.proofs.WrittenRows.{are-records, records-mean, same-table}
use Rattle.tabled_json.proofs.laws.written_rows_are_read_back.Goals as goal

pub returns : goal.returns
returns c rows is texts layout values = (records-mean layout values (records_of rows) (are-records rows texts), same-table rows is)
