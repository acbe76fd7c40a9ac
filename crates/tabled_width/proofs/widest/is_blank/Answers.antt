use Rattle.std.proofs.Common.{◌∙◌}
use Rattle.tabled_width.proofs.Spaces.{blank-text}
use Rattle.tabled_width.proofs.widest.is_blank.Goals as goal

pub returns : goal.returns
returns c = c.eq.ensures ∙ blank-text c.args.piece.now c.utf8.piece
