use Rattle.tabled_draw.proofs.Sizes.{row-line}
use Rattle.tabled_draw.proofs.laws.rows_have_lines_of_their_own.Goals as goal

pub returns : goal.returns
returns c = λ plan aligns. row-line plan.style plan.grid plan.merged
