use Rattle.tabled_language.proofs.texts.lent_texts.Goals as goal

pub new-requires : goal.new-requires
new-requires c = (rw c.in-Some.ensures.steps at c.loop-word.invariant.own).0
