use Rattle.std.proofs.Common.{◌≡◌, length}
use Rattle.std.specs.Str.{IsUtf8}
use Rattle.std.specs.Str.Iter.{chars_rest}
use Rattle.tabled_width.proofs.Scanning.{IsScanned}
use Rattle.tabled_width.proofs.pieces.first_piece.Given as goal
use denote.Shadow.{shadow}
use denote.Text.{Utf8}

abbrev pub invariant-loop-c : goal.invariant-loop-c
invariant-loop-c l = record {
  texts : shadow (Utf8 l.cluster) × shadow (Utf8 l.rest);
  utf8 : IsUtf8 (chars_rest l.behind);
  left : l.rest ≡ chars_rest l.behind;
  scanned : IsScanned l.text l.rest l.cluster l.half_a_flag l.last;
}

abbrev pub decreases-loop-c : goal.decreases-loop-c
decreases-loop-c l = length (chars_rest l.behind)
