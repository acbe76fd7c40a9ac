use Rattle.std.proofs.Common.{◌≡◌, ℕ, Option, Ordering, ap, get_or, int_cmp, map, option_map, rules, subst, sym, ◌∙◌}
use Rattle.std.proofs.lemmas.Cmp.{int_cmp_total, on_total}
use Rattle.tabled_decimal.specs.Decimals.{number}
use Rattle.tabled_decimal.specs.Numbers.{Number, decimal, number_cmp}
use Rattle.tabled_settings.proofs.KeyOrders.{number-of-text, numbers_first-total}
use Rattle.tabled_settings.proofs.RankOrder.{rank-cmp}
use Rattle.tabled_settings.proofs.SortedRows.{sorted-by-closure}
use Rattle.tabled_settings.specs.InOrder.{comes_before, in_order}
use Rattle.tabled_settings.specs.Keys.{lent_text, number_of_key}
use Rattle.tabled_settings.specs.Ranks.{AreRanks, last_rank}
use Rattle.tabled_settings.specs.Sorted.{directed, numbers_first}
use Rattle.tabled_settings.proofs.sort.by_key.sort_by_numbers.Goals as goal

pub returns : goal.returns
returns c =
    let numbers = c.as_slice-numbers.result.now in
    let texts = c.args.texts.now in
    let as_texts : map (option_map number) numbers ≡ map (λ t. decimal t.now) texts = ap (map (option_map number)) c.as_slice-numbers.ensures.value ∙ c.in_ok-numbers.ensures in
    sorted-by-closure (λ (i j : ℕ). numbers_first (directed c.args.descending number_cmp) (number_of_key numbers i) (number_of_key numbers j)) (on_total (number_of_key numbers) (numbers_first-total c.args.descending)) c.args.indexes.now c.sort_unstable_by-2.new.self
    c.sort_unstable_by-2.ensures.permutation c.sort_unstable_by-2.ensures.sorted (λ a r f' called. search rules)
    ∙ ap (λ (n : ℕ → Option Number). in_order (comes_before (λ (i j : ℕ). numbers_first (directed c.args.descending number_cmp) (n i) (n j))) c.args.indexes.now) (λ i k. number-of-text texts numbers as_texts k i)

pub returns-in-Some : goal.returns-in-Some
returns-in-Some c =
    let texts = c.args.texts.now in
    let ranks = c.as_slice-ranks.result.now in
    let rank = λ (i : ℕ). get_or ranks i last_rank in
    let are : AreRanks c.args.descending texts ranks = subst (AreRanks c.args.descending texts) (sym c.as_slice-ranks.ensures.value) (rw c.in-Some.is at c.in_ok-ranks.ensures) in
    sorted-by-closure (λ (i j : ℕ). int_cmp (rank i) (rank j)) (on_total rank int_cmp_total) c.args.indexes.now c.sort_unstable_by.new.self
    c.sort_unstable_by.ensures.permutation c.sort_unstable_by.ensures.sorted (λ a r f' called. search rules)
    ∙ ap (λ (cmp : ℕ → ℕ → Ordering). in_order (comes_before cmp) c.args.indexes.now) (λ k i j. rank-cmp c.args.descending (decimal (lent_text texts i)) (decimal (lent_text texts j)) (rank i) (rank j) (are i) (are j) k)
