use Rattle.std.proofs.Common.{◌∙◌, ◌+◌, ap, arith, map}
use Rattle.std.specs.Prelude.{chars, nat_le}
use Rattle.tabled_width.proofs.PieceTexts.{chars-pieces}
use Rattle.tabled_width.specs.Pieces.{columns_in}
use Rattle.tabled_width.specs.WrapSteps.{first_word}
use Rattle.tabled_width.proofs.wrapping.word_fits.Goals as goal

pub loop-piece-init : goal.loop-piece-init
loop-piece-init c = record {
  within = omega (arith, c.if-width-used.false);
  same = ap (λ ps. nat_le (c.args.used + 1 + columns_in (first_word ps)) c.args.width) (ap (map chars) (c.into_iter-piece-iterator.ensures.into_iter_gives ∙ c.new-piece-items.ensures) ∙ chars-pieces c.args.text.now c.utf8.text);
}
