use Rattle.std.proofs.Common.{◌++◌, ◌≡◌, List, length, ℕ}
use Rattle.std.specs.Io.KnownBytes.{Appends}
use Rattle.tabled_held.proofs.sending.write_all.Given as goal

abbrev pub invariant-loop-rest : goal.invariant-loop-rest
invariant-loop-rest g l = record {
  sent : (sent : List ℕ) × (l.fn.bytes ≡ sent ++ l.rest) × Appends (g.W.Write.contents l.fn.writer) (g.W.Write.contents l.writer) sent;
}

abbrev pub decreases-loop-rest : goal.decreases-loop-rest
decreases-loop-rest g l = length l.rest
