use Rattle.tabled_grid.proofs.FittingAnchors.{fits_decided}
use Rattle.tabled_grid.proofs.SortedEntries.{rectangles_anchors}
use Rattle.tabled_grid.proofs.config.spanned_config.SpannedConfig.fits.Goals as goal

pub fit-requires : goal.fit-requires
fit-requires c = rw c.rectangles.ensures.rectangles (rectangles_anchors c.args.self.now)

pub returns : goal.returns
returns c = record { fits = rw (c.fit.ensures, c.rectangles.ensures.rectangles) (fits_decided c.args.rows c.args.columns c.args.self.now) }
