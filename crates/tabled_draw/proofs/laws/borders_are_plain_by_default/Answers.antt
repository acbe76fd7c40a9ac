use Rattle.tabled_draw.proofs.LawBorders.{stand-plain}
use Rattle.tabled_draw.proofs.Fitting.{holds}
use Rattle.tabled_draw.proofs.laws.borders_are_plain_by_default.Goals as goal

pub returns : goal.returns
returns c = holds _ (λ plan aligns fit some. stand-plain plan.grid plan.merged fit some)
