use Rattle.std.specs.Prelude.{false}
use Rattle.tabled_spans.proofs.Common.{◌-◌, ◌<◌, ◌≡◌, ◌≤◌, get_or, length, true, ℕ}
use Rattle.tabled_spans.proofs.merge.lines.marked_range.Given as goal

abbrev pub invariant-loop-end : goal.invariant-loop-end
invariant-loop-end l = (l.end ≤ length l.fn.marks) × ((line : ℕ) → get_or l.fn.marks line false ≡ true → line < l.end)

abbrev pub decreases-loop-end : goal.decreases-loop-end
decreases-loop-end l = l.end

abbrev pub invariant-loop-first : goal.invariant-loop-first
invariant-loop-first l = (l.first ≤ l.end) × ((line : ℕ) → get_or l.fn.marks line false ≡ true → l.first ≤ line)

abbrev pub decreases-loop-first : goal.decreases-loop-first
decreases-loop-first l = l.end - l.first
