use Rattle.tabled_carry.proofs.Common.{keep_fitting, keep_fitting-fits}
use Rattle.tabled_carry.proofs.RectanglesCarried.{image_is}
use Rattle.tabled_carry.proofs.laws.carried_rectangles_are_the_images.Goals as goal

pub returns : goal.returns
returns c = λ places rows columns m. image_is places (keep_fitting rows columns m) rows columns (keep_fitting-fits rows columns m)
