use Rattle.tabled_json.proofs.Faulty.{table-none}
use Rattle.tabled_json.proofs.Told.{at-fault-from, told-shows}
use Rattle.tabled_json.specs.Faults.{IsTableFault, TableFault}
use Rattle.tabled_json.specs.Meanings.{MeansNoTable}
use Rattle.tabled_json.proofs.tabling.read_table_with.Goals as goal
use Rattle.tabled_texts.specs.Marks.{behind_mark}

pub returns-in-Err-clause-none : goal.returns-in-Err-clause-none
returns-in-Err-clause-none c =
    let bytes = c.args.bytes.now in
    at-fault-from (IsTableFault bytes) (λ line column fault. MeansNoTable bytes) c.told.result (λ line column fault f. table-none (behind_mark bytes) fault f.0 f.1)
    (told-shows TableFault bytes c.behind_mark-text.result.now c.in-Err.error c.told.result c.behind_mark-text.ensures c.told.ensures.is c.in-Err.ensures)
