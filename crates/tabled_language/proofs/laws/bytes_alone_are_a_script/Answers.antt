use Rattle.tabled_language.proofs.EndedLines.{parse_between-alone}
use Rattle.tabled_language.proofs.laws.bytes_alone_are_a_script.Goals as goal

pub returns : goal.returns
returns c = parse_between-alone
