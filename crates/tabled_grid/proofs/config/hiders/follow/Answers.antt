use Rattle.tabled_grid.proofs.Common.{Steps, beyond, hides, map, rectangle, subst}
use Rattle.tabled_grid.proofs.Hiders.{hiders-replaced}
use Rattle.tabled_grid.proofs.config.hiders.follow.Goals as goal

pub returns-clause-map : goal.returns-clause-map
returns-clause-map g c = λ m has is.
    let cells = c.args.block in
    let xs = map g.N.Count.value c.args.hiders.now in
    let ys = map g.N.Count.value c.step_each.new.hiders in
    let zs = map g.N.Count.value c.step_each-2.new.hiders in
    hiders-replaced m c.args.pos c.args.old c.args.new cells g.N.Count.limit has c.requires.fits xs ys zs
    (subst (λ step. Steps xs ys (λ p. hides (beyond cells.first p) (rectangle c.args.pos c.args.old)) step g.N.Count.limit cells.size) c.greatest.ensures c.step_each.ensures.steps)
    (subst (λ step. Steps ys zs (λ p. hides (beyond cells.first p) (rectangle c.args.pos c.args.new)) step g.N.Count.limit cells.size) c.one.ensures c.step_each-2.ensures.steps)
    is
