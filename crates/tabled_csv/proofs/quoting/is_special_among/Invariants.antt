use Rattle.tabled_csv.proofs.Common.{◌≡◌, false, holds_special, take}
use Rattle.tabled_csv.proofs.quoting.is_special_among.Given as goal

abbrev pub invariant-loop-byte : goal.invariant-loop-byte
invariant-loop-byte l = holds_special l.separator (take l.byte-index l.text) ≡ false
