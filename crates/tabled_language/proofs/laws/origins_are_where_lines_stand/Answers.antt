use Rattle.tabled_language.proofs.LinesBetween.{origin_said}
use Rattle.tabled_language.proofs.laws.origins_are_where_lines_stand.Goals as goal

pub returns : goal.returns
returns c = origin_said
