use Rattle.tabled_json.proofs.Common.{◌≡◌, ◌≤◌, ◌+◌, take}
use Rattle.tabled_json.specs.Places.{column_behind}
use Rattle.tabled_json.proofs.place.column_behind.Given as goal

abbrev pub invariant-loop-byte : goal.invariant-loop-byte
invariant-loop-byte l = record {
  is : l.column ≡ column_behind 1 (take l.byte-index l.bytes);
  small : l.column ≤ l.byte-index + 1;
}
