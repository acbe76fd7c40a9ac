use Rattle.tabled_csv.proofs.Common.{◌≡◌, false, is_outside, list_any, take}
use Rattle.tabled_csv.proofs.outside.outside_among.Given as goal

abbrev pub invariant-loop-i : goal.invariant-loop-i
invariant-loop-i l = list_any (is_outside l.separator) (take l.i l.bytes) ≡ false
