use Rattle.tabled_draw.proofs.Common.{arith, refl}
use Rattle.tabled_draw.proofs.Apart.{apart-rows}
use Rattle.tabled_draw.proofs.Unmerged.{none-left, unmerged-rows}
use Rattle.tabled_draw.proofs.owners.are_unmerged.Goals as goal

pub returns-then-is_empty : goal.returns-then-is_empty
returns-then-is_empty c = λ yes g within wide fits over under. unmerged-rows g c.args.cfg.now c.args.i g.rows g.columns c.args.above.now c.args.here.now refl refl fits (omega (arith, within)) wide
    (none-left _ _ _ c.rectangles.ensures.rectangles c.is_empty.ensures c.if-is_empty.true) (omega (arith, within)) over under

pub returns : goal.returns
returns c = λ yes g within wide fits over under. apart-rows g.rows g.columns c.args.cfg.now c.args.i c.args.above.now c.args.here.now (omega (arith, c.if-i-eq0.false)) wide over under
    (c.begin_here.ensures c.if-not-begin_here.false) (c.begin_here-2.ensures yes) within
