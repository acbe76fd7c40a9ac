use Rattle.tabled_held.specs.Pens.{Sends}
use Rattle.tabled_csv.proofs.Common.{AllByRecursion, AreTexts, csv_of, take}
use Rattle.tabled_csv.proofs.writing.write_rows.Given as goal

abbrev pub invariant-loop-i : goal.invariant-loop-i
invariant-loop-i g l = record {
  sends : Sends g.W.Write.contents l.fn.pen l.pen (csv_of l.separator (take l.i (g.R.Rows.texts l.rows)));
  texts : AllByRecursion AreTexts (take l.i (g.R.Rows.texts l.rows));
}
