use Rattle.tabled_grid.proofs.Common.{Concat, Zip}
use Rattle.tabled_grid.proofs.PiecesPut.{is_piece}
use Rattle.tabled_grid.proofs.records.piece_order.PieceOrder.nth_piece.Goals as goal

pub returns-in-Zip-clause-piece : goal.returns-in-Zip-clause-piece
returns-in-Zip-clause-piece c = λ h. rw c.in-Zip.is (is_piece Zip c.args.lines c.args.pieces c.args.nth c.requires.lines c.requires.pieces h)

pub returns-in-Concat-clause-piece : goal.returns-in-Concat-clause-piece
returns-in-Concat-clause-piece c = λ h. rw c.in-Concat.is (is_piece Concat c.args.lines c.args.pieces c.args.nth c.requires.lines c.requires.pieces h)
