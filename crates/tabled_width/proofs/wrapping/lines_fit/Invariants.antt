use Rattle.std.proofs.Common.{◌≡◌, ◌≤◌, map}
use Rattle.std.specs.Prelude.{chars}
use Rattle.tabled_width.specs.Pieces.{pieces}
use Rattle.tabled_width.specs.WrapSteps.{all_fit}
use Rattle.tabled_width.proofs.wrapping.lines_fit.Given as goal

abbrev pub invariant-loop-piece : goal.invariant-loop-piece
invariant-loop-piece l = record {
  within : l.used ≤ l.fn.width;
  same : all_fit l.fn.width l.used (map chars l.piece-iterator) ≡ all_fit l.fn.width 0 (pieces (chars l.fn.text));
}
