use Rattle.std.proofs.Common.{◌∙◌, ap, not, sym}
use Rattle.tabled_width.proofs.PieceTexts.{next-piece}
use Rattle.tabled_width.specs.WrapSteps.{begins_word}
use Rattle.tabled_width.proofs.wrapping.begins_word.Goals as goal

pub returns-in-Some : goal.returns-in-Some
returns-in-Some c = ap not c.is_space.ensures ∙ sym (ap begins_word (next-piece c.args.text.now c.in-Some.piece.now c.next.new.self c.utf8.text (sym c.new.ensures ∙ c.in-Some.ensures.steps)))
