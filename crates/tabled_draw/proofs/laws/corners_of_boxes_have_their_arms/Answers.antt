use Rattle.tabled_draw.proofs.Fitting.{holds}
use Rattle.tabled_draw.proofs.StyleLaws.{arms-at-corners}
use Rattle.tabled_draw.proofs.laws.corners_of_boxes_have_their_arms.Goals as goal

pub returns : goal.returns
returns c = holds _ (arms-at-corners)
