use Rattle.tabled_table.proofs.Common.{◌+◌, ◌∙◌, ◌≡◌, arith, false, map, map-swap, string_bytes, sym, true}
use Rattle.tabled_table.proofs.Cleaned.{brought_next}
use Rattle.tabled_table.proofs.builder.columns.bring_forward.Goals as goal

pub loop-i-preserved : goal.loop-i-preserved
loop-i-preserved c =
    let marks = c.args.marks.now in
    let i = c.loop-i.i in
    let j = c.args.start + i in
    let texts = map string_bytes c.loop-i.row in
    let next : c.args.start + (i + 1) ≡ j + 1 = omega arith in
    elim c.if-mark.branch [
      | goal.then-mark w ↦ rw (w.row-is, w.front-is, w.swap.ensures.after, map-swap string_bytes c.loop-i.row c.loop-i.front j, next) (record { below = omega arith; left = sym (brought_next true marks i c.loop-i.front j texts (omega arith) w.if-mark.true) ∙ c.loop-i.invariant.left })
      | goal.else-mark w ↦ rw (w.row-is, w.front-is, next) (record { below = omega arith; left = sym (brought_next false marks i c.loop-i.front j texts (omega arith) w.if-mark.false) ∙ c.loop-i.invariant.left })
    ]
