use Rattle.tabled_width.proofs.WrapFacts.{text-wrapped}
use Rattle.tabled_width.proofs.laws.wrapped_texts_are_narrow_and_whole.Goals as goal

pub returns : goal.returns
returns c = text-wrapped
