use Rattle.tabled_language.proofs.BareScripts.{parse-bare}
use Rattle.tabled_language.proofs.laws.scripts_of_records_and_steps_keep_their_meaning.Goals as goal

pub returns : goal.returns
returns c = parse-bare
