use Rattle.tabled_settings.proofs.Common.{◌+◌, ◌≡◌, add-one, ap, is_marked, left_over, suc}
use Rattle.tabled_settings.proofs.Dropped.{left_gone, left_stays}
use Rattle.tabled_settings.proofs.kept_lines.unmarked.Goals as goal

pub loop-index-preserved : goal.loop-index-preserved
loop-index-preserved c =
    let i = c.loop-index.index in
    let gone = is_marked c.args.marks.now in
    let next : left_over gone (i + 1) ≡ left_over gone (suc i) = ap (left_over gone) (add-one i) in
    elim c.if-not-mark.branch [
      | goal.then-not-mark+in_ok-push w ↦ let stays = left_stays gone i w.if-not-mark.true in cc w.in_ok-push.ensures.items
      | goal.else-not-mark w ↦ let goes = left_gone gone i w.if-not-mark.false in cc
    ]
