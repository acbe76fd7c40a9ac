use Rattle.std.proofs.Common.{inl, rules}
use Rattle.tabled_uses.proofs.rows.lines_ahead.Goals as goal

pub new-requires : goal.new-requires
new-requires c = inl (search rules)
