use Rattle.tabled_grid.proofs.Common.{◌*◌, ◌+◌, ◌-◌, ◌≡◌, ap, arith, chunks, length, length-chunks, length-take-le, refl, take, wide-chunks}
use Rattle.tabled_grid.proofs.FlatSpreads.{spread_none, spread_more, spread_all}
use Rattle.tabled_grid.proofs.records.vec_records.moves.spread.Goals as goal

pub loop-n-init : goal.loop-n-init
loop-n-init g c = spread_none g.T.Blank.is_blank _ _ _ _ _ _ _ _ (omega arith) refl refl c.requires.size c.requires.blanks

pub loop-n-preserved : goal.loop-n-preserved
loop-n-preserved g c =
    let size : length (take (c.args.rows * c.args.columns) c.args.cells.now) ≡ c.args.rows * c.args.columns = length-take-le _ c.args.cells.now (omega (arith, c.requires.size)) in
    let tall : length (chunks c.args.rows c.args.columns (take (c.args.rows * c.args.columns) c.args.cells.now)) ≡ c.args.rows = length-chunks c.args.rows c.args.columns _ in
    let here : c.args.rows - 1 - c.loop-n.n ≡ c.args.rows - (c.loop-n.n + 1) = omega arith in
    spread_more g.T.Blank.is_blank c.args.columns c.args.j c.args.many _ _ _ _ _ _ _ _ _ _ _ (wide-chunks _ _ _ size) c.requires.within (omega (arith, tall)) (omega arith)
    c.loop-n.invariant c.slide_back.ensures c.slide_back-in-loop-n.ensures (ap (λ m. m * c.args.columns + c.args.j) here) refl (ap (λ m. m * c.args.many + c.args.many) here) (ap (λ m. m * c.args.columns) here) (ap (λ m. m * c.args.many) here)

pub returns : goal.returns
returns g c = spread_all g.T.Blank.is_blank _ _ _ _ _ _ (omega arith) c.loop-n.invariant
