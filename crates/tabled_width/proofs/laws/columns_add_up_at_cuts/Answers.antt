use Rattle.tabled_width.proofs.Chains.{adds-up}
use Rattle.tabled_width.proofs.laws.columns_add_up_at_cuts.Goals as goal

pub returns : goal.returns
returns c = adds-up
