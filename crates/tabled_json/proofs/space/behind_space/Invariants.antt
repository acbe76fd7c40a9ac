use Rattle.std.proofs.Common.{◌≡◌, ◌≤◌, length}
use Rattle.tabled_json.specs.Space.{behind_space}
use Rattle.tabled_json.proofs.space.behind_space.Given as goal

abbrev pub invariant-spaces : goal.invariant-spaces
invariant-spaces l = (behind_space l.fn.bytes ≡ behind_space l.rest) × (length l.rest ≤ length l.fn.bytes)

abbrev pub decreases-spaces : goal.decreases-spaces
decreases-spaces l = length l.rest
