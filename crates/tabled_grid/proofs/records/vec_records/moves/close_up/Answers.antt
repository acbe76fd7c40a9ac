use Rattle.tabled_grid.proofs.Common.{◌*◌, ◌-◌, ◌≡◌, ap, arith, chunks, length, length-chunks, refl, wide-chunks}
use Rattle.tabled_grid.proofs.FlatColumns.{closed_none, closed_more, closed_all}
use Rattle.tabled_grid.proofs.records.vec_records.moves.close_up.Goals as goal

pub loop-i-init : goal.loop-i-init
loop-i-init g c = closed_none _ c.args.j c.args.count _ _ c.requires.size

pub loop-i-preserved : goal.loop-i-preserved
loop-i-preserved g c =
    closed_more c.args.columns c.args.j c.args.count _ _ _ _ _ _ _ _ _ _ (wide-chunks _ _ _ c.requires.size) c.requires.within (omega (arith, length-chunks c.args.rows c.args.columns c.args.cells.now))
    c.loop-i.invariant c.slide.ensures c.slide-in-loop-i.ensures refl refl refl refl refl

pub returns : goal.returns
returns g c =
    let done : c.args.rows ≡ c.loop-i.i = omega arith in
    let tall : length (chunks c.args.rows c.args.columns c.args.cells.now) ≡ c.loop-i.i = omega (arith, length-chunks c.args.rows c.args.columns c.args.cells.now) in
    closed_all c.args.columns c.args.j c.args.count _ _ _ _ (wide-chunks _ _ _ c.requires.size) c.requires.within tall c.loop-i.invariant (ap (λ n. n * (c.args.columns - c.args.count)) done)
