use Rattle.tabled_settings.proofs.Common.{◌+◌, ◌∙◌, ◌≡◌, ap, arith, is_marked, left_over, length, sym, ℕ}
use Rattle.tabled_settings.proofs.Dropped.{left_more_gone, left_more_kept}
use Rattle.tabled_settings.proofs.lines.count_kept.Goals as goal

pub loop-i-preserved : goal.loop-i-preserved
loop-i-preserved c =
    let test = is_marked c.args.gone.now in
    let u = c.loop-i.invariant in
    elim c.if-not-is_marked.branch [
      | goal.then-not-is_marked w ↦ rw w.kept-is (record { many = ap (λ (n : ℕ). n + 1) u.many ∙ sym (left_more_kept test c.loop-i.i (sym c.is_marked.ensures ∙ w.if-not-is_marked.true)); few = omega (arith, u.few) })
      | goal.else-not-is_marked w ↦ rw w.kept-is (record { many = u.many ∙ sym (left_more_gone test c.loop-i.i (sym c.is_marked.ensures ∙ w.if-not-is_marked.false)); few = omega (arith, u.few) })
    ]

pub returns : goal.returns
returns c =
    let all : c.loop-i.i ≡ length c.args.gone.now = omega (arith, c.loop-i-test.false, c.loop-i.auto.i-end) in
    c.loop-i.invariant.many ∙ ap (λ (i : ℕ). length (left_over (is_marked c.args.gone.now) i)) all
