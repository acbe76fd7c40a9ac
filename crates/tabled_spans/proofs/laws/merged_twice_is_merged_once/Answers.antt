use Rattle.tabled_spans.proofs.MergeTwice.{merged_once}
use Rattle.tabled_spans.proofs.laws.merged_twice_is_merged_once.Goals as goal

pub returns : goal.returns
returns c axis e g m n k first second = merged_once axis e g m n first k second
