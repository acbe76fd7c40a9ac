use Rattle.std.proofs.Common.{◌*◌, ◌+◌, ◌≡◌, ◌≤◌, length, map}
use Rattle.std.specs.List.{concat}
use Rattle.std.specs.Prelude.{chars}
use Rattle.tabled_width.proofs.Spaces.{widest_from}
use Rattle.tabled_width.specs.Pieces.{pieces}
use Rattle.tabled_width.proofs.widest.widest_word.Given as goal

abbrev pub invariant-loop-piece : goal.invariant-loop-piece
invariant-loop-piece l = record {
  widest : widest_from l.most l.columns (map chars l.piece-iterator) ≡ widest_from 0 0 (pieces (chars l.text));
  bound : l.columns + 2 * length (concat l.piece-iterator) ≤ 2 * length l.text;
}
