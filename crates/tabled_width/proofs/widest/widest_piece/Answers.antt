use Rattle.std.proofs.Common.{◌∙◌, ap, cond, fold, map, max}
use Rattle.std.specs.Prelude.{chars}
use Rattle.tabled_width.proofs.PieceTexts.{chars-pieces}
use Rattle.tabled_width.proofs.PlainPieces.{plain-widest_piece}
use Rattle.tabled_width.specs.Columns.{text_width}
use Rattle.tabled_width.specs.Pieces.{is_just}
use Rattle.tabled_width.proofs.widest.widest_piece.Goals as goal

pub loop-piece-init : goal.loop-piece-init
loop-piece-init c = ap (λ ps. fold (λ most piece. cond (is_just 10 piece) most (max most (text_width piece))) 0 ps) (ap (map chars) (c.into_iter-piece-iterator.ensures.into_iter_gives ∙ c.new-piece-items.ensures) ∙ chars-pieces c.args.text.now c.utf8.text)

pub returns-then-is_plain : goal.returns-then-is_plain
returns-then-is_plain c = c.min.ensures ∙ plain-widest_piece c.args.text.now (c.is_plain.ensures.0 c.if-is_plain.true)
