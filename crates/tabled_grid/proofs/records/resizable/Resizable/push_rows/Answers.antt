use Rattle.tabled_grid.proofs.Common.{◌+◌, ◌∙◌, Rows, ap, first_along, refl, ℕ}
use Rattle.tabled_grid.proofs.AddedRows.{rows_added_more, rows_added_none, rows_taken_back}
use Rattle.tabled_grid.proofs.records.resizable.Resizable.push_rows.Goals as goal

pub loop-init : goal.loop-init
loop-init g c = record { well = c.requires.well; adds = rows_added_none _ _ }

pub loop-preserved : goal.loop-preserved
loop-preserved g c = record {
  well = c.push_row.ensures.well;
  adds = rows_added_more _ _ (c.loop.counter + 1) _ _ _ refl (g.Self.GridStore.even _ c.requires.well) c.loop.invariant.adds (rw c.in_default.is at c.push_row.ensures.ok);
}

pub returns-in-Err-clause-err : goal.returns-in-Err-clause-err
returns-in-Err-clause-err g c =
    let s = c.args.self.now in
    rows_taken_back _ _ _ _ _ (g.Self.GridStore.even s c.requires.well) (g.met.Self.Resizable.rowless s c.requires.well) c.loop.invariant.adds
    (c.truncate_rows.ensures.first ∙ ap (first_along Rows c.count_rows-rows.result) (rw c.in-Err.is at c.push_row.ensures.err)
    ∙ ap (λ (n : ℕ). first_along Rows n (g.Self.GridStore.grid c.loop.self)) c.count_rows-rows.ensures.rows)
