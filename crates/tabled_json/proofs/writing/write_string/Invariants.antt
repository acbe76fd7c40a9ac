use Rattle.tabled_held.specs.Pens.{Sends}
use Rattle.tabled_json.proofs.Common.{◌≡◌, ◌≤◌, ◌-◌, ◌++◌, ◌∷◌, drop, take}
use Rattle.tabled_json.specs.Writing.{escaped_text}
use Rattle.tabled_json.proofs.writing.write_string.Given as goal

abbrev pub invariant-loop-i : goal.invariant-loop-i
invariant-loop-i g l = record {
  sends : Sends g.W.Write.contents l.fn.pen l.pen (34 ∷ escaped_text (take l.written l.text));
  behind : l.written ≤ l.i;
  quiet : escaped_text (take l.i l.text) ≡ escaped_text (take l.written l.text) ++ take (l.i - l.written) (drop l.written l.text);
}
