use Rattle.tabled_width.proofs.WrapWords.{words-kept}
use Rattle.tabled_width.proofs.laws.wraps_keep_words.Goals as goal

pub returns : goal.returns
returns c = words-kept
