use Rattle.tabled_held.specs.Pens.{Sends}
use Rattle.tabled_csv.proofs.Common.{◌-◌, AreTexts, drop, others_of, row_at, take}
use Rattle.tabled_csv.proofs.writing.write_others.Given as goal

abbrev pub invariant-loop-j : goal.invariant-loop-j
invariant-loop-j g l = record {
  sends : Sends g.W.Write.contents l.fn.pen l.pen (others_of l.separator (take (l.j - 1) (drop 1 (row_at (g.R.Rows.texts l.rows) l.i))));
  texts : AreTexts (take (l.j - 1) (drop 1 (row_at (g.R.Rows.texts l.rows) l.i)));
}
