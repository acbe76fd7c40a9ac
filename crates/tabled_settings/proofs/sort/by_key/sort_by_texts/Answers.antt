use Rattle.std.proofs.Common.{ℕ, rules}
use Rattle.std.proofs.lemmas.Cmp.{on_total}
use Rattle.tabled_settings.proofs.KeyOrders.{text_order-total}
use Rattle.tabled_settings.proofs.SortedRows.{sorted-by-closure}
use Rattle.tabled_settings.specs.Keys.{lent_text}
use Rattle.tabled_settings.specs.Sorted.{text_order}
use Rattle.tabled_settings.specs.declared.sort.SortKeys.TheVariants.{Texts}
use Rattle.tabled_settings.proofs.sort.by_key.sort_by_texts.Goals as goal

pub returns : goal.returns
returns c =
    let texts = c.args.texts.now in
    sorted-by-closure (λ (i j : ℕ). text_order Texts c.args.descending (lent_text texts i) (lent_text texts j)) (on_total (lent_text texts) (text_order-total Texts c.args.descending)) c.args.indexes.now c.sort_unstable_by.new.self
    c.sort_unstable_by.ensures.permutation c.sort_unstable_by.ensures.sorted (λ a r f' called. search rules)
