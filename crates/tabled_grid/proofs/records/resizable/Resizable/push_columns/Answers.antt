use Rattle.tabled_grid.proofs.Common.{◌+◌, ◌∙◌, Columns, ap, first_along, refl, ℕ}
use Rattle.tabled_grid.proofs.AddedColumns.{columns_added_more, columns_added_none, columns_taken_back}
use Rattle.tabled_grid.proofs.records.resizable.Resizable.push_columns.Goals as goal

pub loop-init : goal.loop-init
loop-init g c = record { well = c.requires.well; adds = columns_added_none _ _ }

pub loop-preserved : goal.loop-preserved
loop-preserved g c = record {
  well = c.push_column.ensures.well;
  adds = columns_added_more _ _ (c.loop.counter + 1) _ _ _ refl (g.Self.GridStore.even _ c.requires.well) c.loop.invariant.adds (rw c.in_default.is at c.push_column.ensures.ok);
}

pub returns-in-Err-clause-err : goal.returns-in-Err-clause-err
returns-in-Err-clause-err g c =
    columns_taken_back _ _ _ _ _ (g.Self.GridStore.even _ c.requires.well) c.loop.invariant.adds
    (c.truncate_columns.ensures.first ∙ ap (first_along Columns c.count_columns-columns.result) (rw c.in-Err.is at c.push_column.ensures.err)
    ∙ ap (λ (n : ℕ). first_along Columns n (g.Self.GridStore.grid c.loop.self)) c.count_columns-columns.ensures.columns)
