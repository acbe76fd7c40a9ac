use Rattle.tabled_grid.proofs.Common.{◌∙◌, ap, arith, map}
use Rattle.std.specs.Prelude.{◌-◌}
use Rattle.tabled_grid.proofs.Stepping.{Begins, begins_after, begins_at, each_done, each_more, each_starts}
use Rattle.tabled_grid.proofs.config.hiders.step_each.Goals as goal

pub loop-i-init : goal.loop-i-init
loop-i-init g c = each_starts (map g.N.Count.value c.args.hiders.now) c.args.block c.args.anchor _ (g.N.Count.value c.args.step) g.N.Count.limit (omega arith)

pub loop-i-preserved : goal.loop-i-preserved
loop-i-preserved g c =
    let cells = c.args.block in
    let begins : Begins cells c.args.anchor c.loop-i.i c.saturating_sub.result = elim c.if-first-i.branch [
      | goal.then-first-i w ↦ begins_after cells c.args.anchor c.loop-i.i _ c.requires.fits.right w.if-first-i.true (c.saturating_sub.ensures ∙ ap (λ n. n - cells.first.col) (w.left-is ∙ w.saturating_add-left.ensures))
      | goal.else-first-i w ↦ begins_at cells c.args.anchor c.loop-i.i _ w.if-first-i.false (c.saturating_sub.ensures ∙ ap (λ n. n - cells.first.col) w.left-is)
    ] in
    each_more (map g.N.Count.value c.args.hiders.now) (map g.N.Count.value c.loop-i.hiders) (map g.N.Count.value c.step_run.new.hiders) cells c.args.anchor c.loop-i.i c.saturating_sub.result c.min.result (g.N.Count.value c.args.step) g.N.Count.limit c.loop-i.invariant c.step_run.ensures.steps (omega arith) (omega (arith, c.requires.fits.bottom)) begins (λ j h. (λ l. omega (arith, c.requires.fits.right), λ l. omega (arith, c.requires.fits.right)))

pub returns-clause-steps : goal.returns-clause-steps
returns-clause-steps g c = each_done (map g.N.Count.value c.args.hiders.now) (map g.N.Count.value c.loop-i.hiders) c.args.block c.args.anchor c.loop-i.i (g.N.Count.value c.args.step) g.N.Count.limit c.loop-i.invariant (λ r h l. omega arith)
