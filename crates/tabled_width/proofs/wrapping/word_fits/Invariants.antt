use Rattle.std.proofs.Common.{◌+◌, ◌≡◌, ◌≤◌, Some, map}
use Rattle.std.specs.Prelude.{chars, nat_le}
use Rattle.tabled_width.specs.Pieces.{columns_in, pieces}
use Rattle.tabled_width.specs.WrapSteps.{first_word, word_fits}
use Rattle.tabled_width.proofs.wrapping.word_fits.Given as goal

abbrev pub invariant-loop-piece : goal.invariant-loop-piece
invariant-loop-piece l = record {
  within : l.taken ≤ l.fn.width;
  same : nat_le (l.taken + columns_in (first_word (map chars l.piece-iterator))) l.fn.width ≡ word_fits l.fn.width (Some l.fn.used) (pieces (chars l.fn.text));
}
