use Rattle.tabled_grid.proofs.BesideAnchors.{before_found, before_missed}
use Rattle.tabled_grid.proofs.Common.{Rectangle}
use Rattle.tabled_grid.proofs.config.anchors.count_before.Goals as goal

pub returns-in-Ok-clause-before : goal.returns-in-Ok-clause-before
returns-in-Ok-clause-before c = λ j d low h. before_found c.args.anchors.now c.args.pos c.in-Ok.i c.requires c.in-Ok.ensures.within (λ (e : Rectangle). c.in-Ok.ensures.found e) j d h

pub returns-in-Ok-2-clause-before : goal.returns-in-Ok-2-clause-before
returns-in-Ok-2-clause-before c = λ j d low h. before_missed c.args.anchors.now c.args.pos c.in-Ok.i c.requires c.in-Ok.ensures.found j d h
