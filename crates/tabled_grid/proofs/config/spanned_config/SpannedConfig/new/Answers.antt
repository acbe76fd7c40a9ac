use Rattle.tabled_grid.proofs.Common.{sym}
use Rattle.tabled_grid.specs.Spans.{empty-is}
use Rattle.tabled_grid.proofs.config.spanned_config.SpannedConfig.new.Goals as goal

pub returns : goal.returns
returns c = record { empty = rw c.new.ensures.items (sym empty-is) }
