use Rattle.tabled_grid.proofs.Common.{◌≡◌, get_or, get_or-set_other, refl, set, sym}
use Rattle.tabled_grid.proofs.Swaps.{exchanged_in_row, exchanged_in_rows}
use Rattle.tabled_grid.proofs.records.nested_rows.moves.swap_cells.Goals as goal

pub returns-then-p-q : goal.returns-then-p-q
returns-then-p-q g c =
    exchanged_in_row c.args.rows.now c.args.p c.args.q c.requires.p_row c.requires.q_row c.index-rows-p.result c.swap.new.self c.if-p-q.true
    (c.requires.p_col _ _ c.requires.p_row) (c.requires.q_col _ _ c.requires.p_row) c.swap.ensures.items

pub returns : goal.returns
returns g c =
    let taken = c.replace-row.ensures.value in
    let other : get_or (set c.args.rows.now c.args.p.row c.replace-row.new.dest) c.args.q.row c.index-rows-q.result ≡ get_or c.args.rows.now c.args.q.row c.index-rows-q.result = get_or-set_other c.args.rows.now c.args.p.row c.args.q.row _ _ (λ e. c.if-p-q.false (sym e)) in
    exchanged_in_rows c.args.rows.now c.args.p c.args.q c.requires.p_row c.requires.q_row c.index-rows-p-3.result c.index-rows-q.result _ _ _ c.index_mut.result.now c.index_mut-2.result.now c.if-p-q.false
    (c.requires.p_col _ _ c.requires.p_row) (c.requires.q_col _ _ c.requires.q_row)
    (rw taken at c.index_mut.ensures.value) (rw other at c.index_mut-2.ensures.value)
    (rw (taken, c.swap-2.ensures.x_after) refl) (rw (other, c.swap-2.ensures.y_after) refl)
