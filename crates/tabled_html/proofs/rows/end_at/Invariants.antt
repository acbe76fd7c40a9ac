use Rattle.std.proofs.Common.{◌≡◌, ◌&&◌, ℕ, cond, get_or, length, nat_le, nat_lt}
use Rattle.tabled_html.proofs.rows.end_at.Given as goal

abbrev pub invariant-loop-x : goal.invariant-loop-x
invariant-loop-x l = record {
  long : length l.ends ≡ length l.fn.ends;
  numbers : (y : ℕ) → get_or l.ends y 0 ≡ cond (nat_le l.first y && nat_lt y l.x) l.row (get_or l.fn.ends y 0);
}
