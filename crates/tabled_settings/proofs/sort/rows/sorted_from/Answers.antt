use Rattle.std.proofs.Common.{◌++◌, drop, length, take, take_at}
use Rattle.tabled_settings.proofs.Common.{◌∙◌, List, ap, arith, ℕ}
use Rattle.tabled_settings.proofs.RowKeys.{sorted-behind}
use Rattle.tabled_settings.specs.InOrder.{comes_before, in_order}
use Rattle.tabled_settings.specs.Keys.{lent_text}
use Rattle.tabled_settings.specs.Sorted.{text_order}
use Rattle.tabled_settings.proofs.sort.rows.sorted_from.Goals as goal

pub returns : goal.returns
returns c =
    let texts = c.args.texts.now in
    let cmp = λ (i j : ℕ). text_order c.args.keys c.args.descending (lent_text texts i) (lent_text texts j) in
    take_at c.sort_behind.new.indexes _ c.in_ok-rows.rows.len (omega arith)
    ∙ c.in_ok-sort_behind.ensures
    ∙ ap (λ (l : List ℕ). take c.args.from l ++ in_order (comes_before cmp) (drop c.args.from l)) (c.as_mut_slice.ensures.value ∙ c.in_ok-rows.ensures)
    ∙ sorted-behind c.args.from cmp (length texts)
