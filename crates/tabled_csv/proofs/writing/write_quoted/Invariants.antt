use Rattle.tabled_held.specs.Pens.{Sends}
use Rattle.tabled_csv.proofs.Common.{◌≡◌, ◌≤◌, ◌-◌, ◌++◌, ◌∷◌, doubled, drop, take}
use Rattle.tabled_csv.proofs.writing.write_quoted.Given as goal

abbrev pub invariant-loop-i : goal.invariant-loop-i
invariant-loop-i g l = record {
  sends : Sends g.W.Write.contents l.fn.pen l.pen (34 ∷ doubled (take l.written l.text));
  behind : l.written ≤ l.i;
  quiet : doubled (take l.i l.text) ≡ doubled (take l.written l.text) ++ take (l.i - l.written) (drop l.written l.text);
}
