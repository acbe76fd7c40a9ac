use Rattle.tabled_json.proofs.Once.{records-once, table-once}
use Rattle.tabled_json.proofs.Told.{one-place}
use Rattle.tabled_json.specs.Faults.{RecordsFault, TableFault}
use Rattle.tabled_json.proofs.laws.bytes_have_one_fault.Goals as goal

pub returns-clause-records : goal.returns-clause-records
returns-clause-records c bytes = one-place RecordsFault bytes (λ text fault other left more f g. records-once text fault other left more f g)

pub returns-clause-table : goal.returns-clause-table
returns-clause-table c bytes = one-place TableFault bytes (λ text fault other left more f g. table-once text fault other left more f g)
