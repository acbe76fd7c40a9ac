use Rattle.tabled_carry.proofs.Common.{◌∙◌, IsPermutation, IsPermutation-put_mid, IsPermutation-trans, arith, subst, sym}
use Rattle.tabled_carry.proofs.sort.reverse_descending_rows.Goals as goal

pub loop-end-preserved : goal.loop-end-preserved
loop-end-preserved c =
    let held = c.loop-end.invariant in
    let same_length = c.if-rectangles-end.auto.rectangles in
    elim c.if-rectangles-end.branch [
      | goal.then-rectangles-end w ↦ (subst (λ xs. IsPermutation c.args.rectangles.now xs) (sym w.rectangles-is) (IsPermutation-trans _ _ _ held.0 (IsPermutation-put_mid _ _ _ _ w.reverse_descending.ensures.permutation)), same_length ∙ held.1, omega (arith, w.start-is), omega (arith, w.start-is, same_length, c.loop-end.auto.rectangles, c.loop-end-test.true))
      | goal.else-rectangles-end w ↦ (subst (λ xs. IsPermutation c.args.rectangles.now xs) (sym w.rectangles-is) held.0, same_length ∙ held.1, omega (arith, w.start-is, held.2), omega (arith, w.start-is, held.3, same_length))
    ]

pub returns-clause-permutation : goal.returns-clause-permutation
returns-clause-permutation c = IsPermutation-trans _ _ _ c.loop-end.invariant.0 (IsPermutation-put_mid _ _ _ _ c.reverse_descending-2.ensures.permutation)
