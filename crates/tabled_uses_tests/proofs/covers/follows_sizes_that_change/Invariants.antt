use Rattle.std.proofs.Common.{◌≡◌}
use Rattle.tabled_grid.specs.Entity.{place}
use Rattle.tabled_grid.specs.Spans.{rectangle, sized}
use Rattle.tabled_uses_tests.proofs.covers.follows_sizes_that_change.Given as goal

abbrev pub invariant-loop-anchor : goal.invariant-loop-anchor
invariant-loop-anchor g l = l.cover.block ≡ rectangle (place 0 0) (sized 3 3)
