use Rattle.tabled_carry.proofs.Common.{keep_fitting-all, sym}
use Rattle.tabled_carry.proofs.fitting_spans.FittingSpans.of.Goals as goal

pub returns-clause-found : goal.returns-clause-found
returns-clause-found c = elim c.if-fits.branch [
  | goal.then-fits w ↦ rw w.fitting-is (sym (keep_fitting-all c.args.table.height c.args.table.width c.args.cfg.now (c.fits.ensures.fits.0 w.if-fits.true)))
  | goal.else-fits+in_ok-fitting w ↦ rw w.fitting-is w.in_ok-fitting.ensures.fitting
]
