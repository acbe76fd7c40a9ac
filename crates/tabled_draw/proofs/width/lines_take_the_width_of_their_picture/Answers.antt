use Rattle.tabled_draw.proofs.Common.{AreEquallyWide}
use Rattle.tabled_draw.proofs.Fitting.{holds}
use Rattle.tabled_draw.proofs.LawPicture.{equally-wide}
use Rattle.tabled_draw.specs.Width.{picture_width}
use Rattle.tabled_draw.proofs.width.lines_take_the_width_of_their_picture.Goals as goal

pub returns : goal.returns
unfolding picture_width
returns c = λ style aligns g m fine. (holds AreEquallyWide (λ plan aligns fit fine. equally-wide plan aligns fine fit)).of_drawn style aligns g m fine
