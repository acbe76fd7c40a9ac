use Rattle.tabled_select.proofs.Common.{ap, cells_of, marks_of}
use Rattle.tabled_select.proofs.MarkedPlaces.{passes-sifted}
use Rattle.tabled_select.proofs.object.sieve.SieveIter.new.Goals as goal

pub returns : goal.returns
returns g c = rw c.new.ensures (ap cells_of (passes-sifted (marks_of c.in_ok-set.set) _ c.args.keeps_members _ c.in_ok-set.ensures.marked))
