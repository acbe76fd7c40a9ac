use Rattle.tabled_grid.proofs.Common.{IsCoverOf, subst, sym}
use Rattle.tabled_grid.proofs.config.cover_map.CoverMap.replace.Goals as goal

pub returns-clause-cover : goal.returns-clause-cover
returns-clause-cover c = λ m is has. record { counts = c.follow.ensures.map m has (subst (IsCoverOf m) (sym c.self.view_is) is).counts }
