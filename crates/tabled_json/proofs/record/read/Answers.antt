use Rattle.tabled_json.proofs.Common.{List, ℕ, subst}
use Rattle.tabled_json.proofs.Faulty.{records-none}
use Rattle.tabled_json.proofs.Told.{at-fault-from, told-shows}
use Rattle.tabled_json.specs.Faults.{IsFault, RecordsFault}
use Rattle.tabled_json.specs.Places.{AtFault, IsPlace}
use Rattle.tabled_json.specs.Records.{MeansNoRecords}
use Rattle.tabled_json.proofs.record.read.Goals as goal
use Rattle.tabled_texts.specs.Marks.{behind_mark}

pub returns-clause-fault : goal.returns-clause-fault
returns-clause-fault c = told-shows RecordsFault c.args.bytes.now c.behind_mark-text.result.now c.in-Err.error c.told.result c.behind_mark-text.ensures c.told.ensures.is c.in-Err.ensures

pub returns-clause-none : goal.returns-clause-none
returns-clause-none c =
    let bytes = c.args.bytes.now in
    at-fault-from (IsFault bytes) (λ line column fault. MeansNoRecords bytes) c.told.result (λ line column fault f. records-none (behind_mark bytes) fault f.0 f.1)
    (told-shows RecordsFault bytes c.behind_mark-text.result.now c.in-Err.error c.told.result c.behind_mark-text.ensures c.told.ensures.is c.in-Err.ensures)

pub returns-clause-place : goal.returns-clause-place
returns-clause-place c =
    subst (λ (bytes : List ℕ). AtFault (λ line column fault. IsPlace bytes line column) c.told.result) c.behind_mark-text.ensures c.told.ensures.place
