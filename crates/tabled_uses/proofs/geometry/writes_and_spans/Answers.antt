use Rattle.std.proofs.Common.{rules}
use Rattle.tabled_uses.proofs.geometry.writes_and_spans.Goals as goal

-- the span's size is 1 or more: `search` stops at a limit among what spans do
pub listed_keep-requires-2 : goal.listed_keep-requires-2
listed_keep-requires-2 g c = c.spans_of_size_1_or_more_fit.ensures.rows (search rules)

-- each list is the pair of an object and an option, likewise
pub changes_by_settings-requires-clause-first_keeps : goal.changes_by_settings-requires-clause-first_keeps
changes_by_settings-requires-clause-first_keeps g c = rw c.list-texts.ensures c.listed_keep.ensures

pub changes_by_settings-requires-clause-second_keeps : goal.changes_by_settings-requires-clause-second_keeps
changes_by_settings-requires-clause-second_keeps g c = rw c.list-spans.ensures c.listed_keep-2.ensures
