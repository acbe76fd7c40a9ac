use Rattle.tabled_carry.proofs.Common.{◌<◌, ◌≡◌, Around, IfSome, In, IsBefore, IsNone, Position, place}
use Rattle.tabled_carry.proofs.images.around.Given as goal

abbrev pub invariant-loop-j : goal.invariant-loop-j
invariant-loop-j g l = IfSome l.corners (λ corners. Around (g.M.Moves.places l.fn.moves) l.fn.of (λ (q : Position). In l.fn.of q × IsBefore q (place l.i l.j)) corners.first corners.last) × (IsNone l.corners → (l.i ≡ l.fn.of.first.row) × (l.j ≡ l.fn.of.first.col))

abbrev pub invariant-loop-i : goal.invariant-loop-i
invariant-loop-i g l = IfSome l.corners (λ corners. Around (g.M.Moves.places l.fn.moves) l.fn.of (λ (q : Position). In l.fn.of q × (q.row < l.i)) corners.first corners.last) × (IsNone l.corners → l.i ≡ l.fn.of.first.row)
