use Rattle.tabled_csv.proofs.Common.{◌≡◌, ◌≤◌, ◌++◌, drop, false, length, take}
use Rattle.tabled_csv.proofs.Closings.{undoubled}
use Rattle.tabled_csv.proofs.undoubling.undouble.Given as goal

abbrev pub invariant-loop-byte : goal.invariant-loop-byte
invariant-loop-byte l = record {
  behind : l.len ≤ l.byte-index;
  room : length l.bytes ≤ length l.room;
  written : take l.len l.room ++ undoubled l.is_second (drop l.byte-index l.bytes) ≡ undoubled false l.bytes;
}
