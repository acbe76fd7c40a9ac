use Rattle.tabled_settings.proofs.NarrowLines.{ellipsis-adds, narrow-line, plain-adds}
use Rattle.tabled_settings.proofs.laws.truncated_lines_are_narrow.Goals as goal

pub returns : goal.returns
returns c = record { narrow = narrow-line; plain = plain-adds; ellipsis = ellipsis-adds }
