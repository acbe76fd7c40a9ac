use Rattle.tabled_language.proofs.RoundTrip.{reads_back}
use Rattle.tabled_language.proofs.laws.what_is_written_is_read_back.Goals as goal

pub returns : goal.returns
returns c = reads_back
