use Rattle.std.proofs.Common.{rules, sym, subst}
use Rattle.tabled_grid.proofs.Common.{AreAnchors, filter_from_retain}
use Rattle.tabled_html.proofs.Within.{anchors-within}
use Rattle.tabled_html.specs.Limits.{is_within_limits}
use Rattle.tabled_html.proofs.limits.drop_past_limits.Goals as goal

pub returns-clause-left : goal.returns-clause-left
returns-clause-left c = filter_from_retain _ is_within_limits (λ p x b q h. search rules) _ c.args.anchors.now.items c.retain.new.self.items c.retain.ensures.filtered

pub returns-clause-anchors : goal.returns-clause-anchors
returns-clause-anchors c = subst AreAnchors (sym (filter_from_retain _ is_within_limits (λ p x b q h. search rules) _ c.args.anchors.now.items c.retain.new.self.items c.retain.ensures.filtered)) (anchors-within c.args.anchors.now.items c.requires)
