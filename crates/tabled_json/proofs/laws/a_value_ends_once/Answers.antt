use Rattle.tabled_json.proofs.WholeValues.{value-unique}
use Rattle.tabled_json.proofs.laws.a_value_ends_once.Goals as goal

pub returns : goal.returns
returns c bytes after other a b = value-unique other a b
