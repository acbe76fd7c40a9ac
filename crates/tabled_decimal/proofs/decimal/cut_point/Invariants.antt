use Rattle.std.proofs.Common.{◌≡◌, ◌<◌, ℕ, false, get_or}
use Rattle.tabled_decimal.specs.Numbers.{is_point}
use Rattle.tabled_decimal.proofs.decimal.cut_point.Given as goal

abbrev pub invariant-loop-index : goal.invariant-loop-index
invariant-loop-index l = (k : ℕ) → k < l.index → is_point (get_or l.text k 0) ≡ false
