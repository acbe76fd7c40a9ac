use Rattle.tabled_settings.proofs.Common.{◌∙◌, Some, ap, sym}
use Rattle.tabled_settings.proofs.RisingLists.{one_index, search_finds}
use Rattle.tabled_settings.proofs.kept_lines.index_of.Goals as goal

pub returns-then-holds_at-clause-finds : goal.returns-then-holds_at-clause-finds
returns-then-holds_at-clause-finds c = λ k here is.
    let at = c.holds_at.ensures.0 c.if-holds_at.true in
    ap Some (one_index c.args.rising.now c.requires.rising c.args.index k at.0 here (at.1 ∙ sym is))

pub returns-then-holds_at-2-clause-finds : goal.returns-then-holds_at-2-clause-finds
returns-then-holds_at-2-clause-finds c = λ k here is.
    let at = c.holds_at-2.ensures.0 c.if-holds_at-2.true in
    ap Some (one_index c.args.rising.now c.requires.rising c.saturating_sub-shifted.result k at.0 here (at.1 ∙ sym is))

pub returns-clause-finds : goal.returns-clause-finds
returns-clause-finds c = λ k here is. c.ok.ensures.value ∙ search_finds c.args.rising.now c.args.index k c.binary_search.result c.requires.rising c.binary_search.ensures.position here is
