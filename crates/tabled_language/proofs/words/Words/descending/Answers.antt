use Rattle.tabled_language.proofs.Common.{refl}
use Rattle.tabled_language.proofs.AllTold.{first_read}
use Rattle.tabled_language.proofs.words.Words.descending.Goals as goal

pub returns-in-down : goal.returns-in-down
returns-in-down c = rw (first_read c.args.self.now c.word.new.self c.in_ok-word.field-0.now c.in_ok-word.ensures, c.in-down.is) refl
