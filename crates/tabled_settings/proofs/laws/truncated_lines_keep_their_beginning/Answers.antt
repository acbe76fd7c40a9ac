use Rattle.tabled_settings.proofs.NarrowLines.{begins}
use Rattle.tabled_settings.proofs.laws.truncated_lines_keep_their_beginning.Goals as goal

pub returns : goal.returns
returns c = begins
