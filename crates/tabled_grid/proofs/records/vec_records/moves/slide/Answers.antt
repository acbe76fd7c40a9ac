use Rattle.tabled_grid.proofs.Common.{arith, refl}
use Rattle.tabled_grid.proofs.FlatSlides.{slid_by_swap, slid_by_turn}
use Rattle.tabled_grid.proofs.records.vec_records.moves.slide.Goals as goal

pub returns-then-count-gap : goal.returns-then-count-gap
returns-then-count-gap g c = slid_by_swap _ _ _ _ _ _ c.if-count-gap.true refl c.swap_runs.ensures

pub returns-else-count-gap : goal.returns-else-count-gap
returns-else-count-gap g c = slid_by_turn _ _ _ _ _ _ _ (omega arith) c.rotate_left.ensures.after refl
