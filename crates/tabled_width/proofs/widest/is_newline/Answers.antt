use Rattle.std.proofs.Common.{◌∙◌}
use Rattle.tabled_width.proofs.Spaces.{newline-text}
use Rattle.tabled_width.proofs.widest.is_newline.Goals as goal

pub returns : goal.returns
returns c = c.eq.ensures ∙ newline-text c.args.piece.now c.utf8.piece
