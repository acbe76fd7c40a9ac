use Rattle.tabled_grid.proofs.Common.{sym}
use Rattle.tabled_grid.proofs.Fitting.{keep_fitting-all}
use Rattle.tabled_grid.proofs.config.spanned_config.SpannedConfig.keep_fitting.Goals as goal

pub returns-else-not-fits-clause-ok : goal.returns-else-not-fits-clause-ok
returns-else-not-fits-clause-ok c = sym (keep_fitting-all c.args.rows c.args.columns c.args.self.now (c.fits.ensures.fits.0 c.if-not-fits.false))
