use Rattle.tabled_carry.proofs.RectanglesCarried.{image_one}
use Rattle.tabled_carry.proofs.laws.there_is_one_image.Goals as goal

pub returns : goal.returns
returns c = λ places old new other is same. image_one places old new other is same
