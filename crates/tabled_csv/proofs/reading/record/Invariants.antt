use Rattle.tabled_csv.proofs.Common.{IsTrue, IsUtf8, length, map}
use Rattle.tabled_csv.proofs.Progress.{FieldsRead}
use Rattle.tabled_csv.proofs.reading.record.Given as goal

abbrev pub invariant-fields : goal.invariant-fields
invariant-fields g l = record {
  read : FieldsRead l.dialect l.bytes (map g.T.CellText.text_of l.row.items) l.rest;
  text : IsTrue l.is_text → IsUtf8 l.rest;
}

abbrev pub decreases-fields : goal.decreases-fields
decreases-fields g l = length l.rest
