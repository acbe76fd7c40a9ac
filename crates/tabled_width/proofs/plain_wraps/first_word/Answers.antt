use Rattle.std.proofs.Common.{lit<}
use Rattle.tabled_width.proofs.PlainWraps.{first-split, never-split}
use Rattle.tabled_width.proofs.plain_wraps.first_word.Goals as goal

pub returns-in-Some-clause-words : goal.returns-in-Some-clause-words
returns-in-Some-clause-words c = first-split c.args.text.now c.in-Some.word.now c.in-Some.others.now (c.in-Some.ensures.byte (lit< tt) (λ w o h. h))

pub returns-in-None-clause-words : goal.returns-in-None-clause-words
returns-in-None-clause-words c = never-split c.args.text.now (c.in-None.ensures.byte (lit< tt) (λ w o h. h))
