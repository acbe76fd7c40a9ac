use Rattle.tabled_carry.proofs.Common.{◌<◌, ◌≡◌, ◌≤◌, IsPermutation, length}
use Rattle.tabled_carry.proofs.sort.reverse_descending_rows.Given as goal

abbrev pub invariant-loop-end : goal.invariant-loop-end
invariant-loop-end l = IsPermutation l.fn.rectangles l.rectangles × (length l.rectangles ≡ length l.fn.rectangles) × (l.start < l.end) × (l.start ≤ length l.rectangles)
