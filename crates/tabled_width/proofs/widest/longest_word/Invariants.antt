use Rattle.std.proofs.Common.{◌≡◌, ◌≤◌, drop}
use Rattle.tabled_width.proofs.PlainPieces.{singles}
use Rattle.tabled_width.proofs.Spaces.{widest_from}
use Rattle.tabled_width.proofs.widest.longest_word.Given as goal

abbrev pub invariant-loop-byte : goal.invariant-loop-byte
invariant-loop-byte l = record {
  widest : widest_from l.most l.columns (singles (drop l.byte-index l.text)) ≡ widest_from 0 0 (singles l.text);
  bound : l.columns ≤ l.byte-index;
}
