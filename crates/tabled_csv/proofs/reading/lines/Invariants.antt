use Rattle.tabled_csv.proofs.Common.{[], IsTrue, IsUtf8, length}
use Rattle.tabled_csv.proofs.Lines.{LinesAt}
use Rattle.tabled_csv.proofs.Progress.{RowsRead}
use Rattle.tabled_texts.specs.Texts.{rows_by}
use Rattle.tabled_csv.proofs.reading.lines.Given as goal

abbrev pub invariant-lines : goal.invariant-lines
invariant-lines g l = record {
  read : RowsRead l.dialect l.bytes (rows_by g.T.CellText.text_of l.rows.items) l.rest;
  blank : LinesAt l.dialect l.bytes [] → LinesAt l.dialect l.rest [];
  text : IsTrue l.is_text → IsUtf8 l.rest;
}

abbrev pub decreases-lines : goal.decreases-lines
decreases-lines g l = length l.rest
