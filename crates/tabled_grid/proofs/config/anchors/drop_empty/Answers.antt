use Rattle.tabled_grid.proofs.Common.{filter_from_retain, rules}
use Rattle.tabled_grid.proofs.MarkedAnchors.{has_size}
use Rattle.tabled_grid.proofs.config.anchors.drop_empty.Goals as goal

pub returns : goal.returns
returns c = filter_from_retain _ has_size (λ p x b q h. search rules) _ c.args.anchors.now.items c.retain.new.self.items c.retain.ensures.filtered
