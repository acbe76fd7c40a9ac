use Rattle.tabled_settings.proofs.Common.{◌*◌, ◌+◌, ◌∙◌, ◌≡◌, ap, arith, div_ceil, refl, sym, ℕ}
use Rattle.tabled_settings.proofs.PieceReads.{filter_push, filter_skip}
use Rattle.tabled_settings.proofs.PiecesDone.{can_be_cut, staying_is}
use Rattle.tabled_settings.proofs.pieces.staying_pieces.Goals as goal

pub loop-nth-preserved : goal.loop-nth-preserved
loop-nth-preserved g c =
    elim c.if-stays.branch [
      | goal.then-stays+in_ok-push w ↦ rw w.staying-is (filter_push _ c.loop-nth.nth (c.loop-nth.nth + 1) _ _ refl (sym c.stays.ensures ∙ w.if-stays.true) c.loop-nth.invariant w.in_ok-push.ensures.items)
      | goal.else-stays w ↦ rw w.staying-is (filter_skip _ c.loop-nth.nth (c.loop-nth.nth + 1) _ refl (sym c.stays.ensures ∙ w.if-stays.false) c.loop-nth.invariant)
    ]

pub returns : goal.returns
returns g c =
    let t = c.args.pieces.now in
    let all : c.loop-nth.nth ≡ t.lines * div_ceil t.width t.index = omega (arith, c.loop-nth-test.false, c.loop-nth.auto.nth-end, ap (λ (n : ℕ). t.lines * n) t.counted) in
    let can = can_be_cut t (g.R.GridStore.grid c.args.records.now) (g.R.GridStore.even _ c.requires.well) c.requires.lines c.requires.width in
    rw all at c.loop-nth.invariant ∙ sym (staying_is g.R.Cell.CellText.text_of _ _ _ _ can)
