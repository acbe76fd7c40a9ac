use Rattle.tabled_language.proofs.Walked.{HasWalked}
use Rattle.tabled_language.proofs.walk.have_places.Given as goal

abbrev pub invariant-loop-anchor : goal.invariant-loop-anchor
invariant-loop-anchor l = HasWalked l.rows l.columns l.anchors l.anchor-index l.reaching
