use Rattle.tabled_settings.proofs.Common.{◌++◌, ◌≡◌, replicate, string_bytes}
use Rattle.tabled_settings.proofs.formatting.charset.push_spaces.Given as goal

abbrev pub invariant-loop-left : goal.invariant-loop-left
invariant-loop-left l = string_bytes l.out ++ replicate l.left 32 ≡ string_bytes l.fn.out ++ replicate l.fn.count 32

abbrev pub decreases-loop-left : goal.decreases-loop-left
decreases-loop-left l = l.left
