use Rattle.tabled_grid.proofs.Common.{◌∙◌, List, arith, length-chunks, refl, swap, wide-chunks}
use Rattle.tabled_grid.proofs.FlatColumns.{swapped_none, swapped_more, swapped_all}
use Rattle.tabled_grid.proofs.records.vec_records.moves.swap_each.Goals as goal

pub loop-i-init : goal.loop-i-init
loop-i-init g c = swapped_none _ _ _ (λ (row : List g.row.T.Denot). swap row c.args.j c.args.k) c.requires.size

pub loop-i-preserved : goal.loop-i-preserved
loop-i-preserved g c =
    rw c.swap.ensures.after
    (swapped_more c.args.columns _ c.loop-i.i c.args.j c.args.k _ _ _ (wide-chunks _ _ _ c.requires.size) (omega (arith, length-chunks c.args.rows c.args.columns c.args.cells.now)) c.requires.j_within c.requires.k_within refl refl c.loop-i.invariant)

pub returns : goal.returns
returns g c =
    c.loop-i.invariant
    ∙ swapped_all _ c.loop-i.i (λ (row : List g.row.T.Denot). swap row c.args.j c.args.k) (omega (arith, length-chunks c.args.rows c.args.columns c.args.cells.now))
