use Rattle.tabled_carry.proofs.Common.{IsPermutation-trans, Rectangle, answers_always, rules}
use Rattle.tabled_carry.proofs.sort.sort.Goals as goal

pub returns-clause-permutation : goal.returns-clause-permutation
returns-clause-permutation c = IsPermutation-trans _ _ _ c.reverse_descending.ensures.permutation (IsPermutation-trans _ _ _ c.reverse_descending_rows.ensures.permutation c.sort_unstable_by_key.ensures.permutation)

pub returns-clause-sorted : goal.returns-clause-sorted
returns-clause-sorted c = c.sort_unstable_by_key.ensures.sorted (λ (f : Rectangle). f.first) (answers_always _ _ _ (λ f a r h called. search rules))
