use Rattle.tabled_select.proofs.MarkedPlaces.{given-last}
use Rattle.tabled_select.proofs.object.listed_marks.ListedMarks.of.Goals as goal

pub returns : goal.returns
returns c = given-last _ _ _ _ c.in-None.ensures.steps.0 c.loop-pos.invariant.given
