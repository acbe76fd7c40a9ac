use Rattle.tabled_settings.proofs.Common.{◌≡◌, is_marked, left_over}
use Rattle.tabled_settings.proofs.kept_lines.unmarked.Given as goal

abbrev pub invariant-loop-index : goal.invariant-loop-index
invariant-loop-index l = l.indexes.items ≡ left_over (is_marked l.marks) l.index
