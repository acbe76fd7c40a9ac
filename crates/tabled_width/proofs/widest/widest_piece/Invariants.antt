use Rattle.std.proofs.Common.{◌≡◌, cond, fold, map, max}
use Rattle.std.specs.Prelude.{chars}
use Rattle.tabled_width.specs.Columns.{text_width}
use Rattle.tabled_width.specs.Pieces.{is_just, widest_piece}
use Rattle.tabled_width.proofs.widest.widest_piece.Given as goal

abbrev pub invariant-loop-piece : goal.invariant-loop-piece
invariant-loop-piece l = fold (λ most piece. cond (is_just 10 piece) most (max most (text_width piece))) l.most (map chars l.piece-iterator) ≡ widest_piece (chars l.text)
