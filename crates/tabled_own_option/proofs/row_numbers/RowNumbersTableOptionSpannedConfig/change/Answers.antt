use Rattle.std.proofs.Common.{◌<◌, ◌∙◌, refl, ap, arith}
use Rattle.tabled_grid.specs.Resized.{without_column}
use Rattle.tabled_own_option.proofs.Numbered.{none_numbered, one_more_numbered, taken_back}
use Rattle.tabled_own_option.proofs.row_numbers.RowNumbersTableOptionSpannedConfig.change.Goals as goal

pub loop-row-init : goal.loop-row-init
loop-row-init g c = record { well = c.insert_column.ensures.well; numbered = none_numbered _ _ _ _ c.in_ok-insert_column.ensures.ok }

pub loop-row-preserved : goal.loop-row-preserved
loop-row-preserved g c =
    let within : c.loop-row.row < (g.R.GridStore.grid c.args.records.now).rows = omega (arith, c.loop-row-test.true, c.count_rows-rows.ensures.rows) in
    record {
      well = c.write_number.ensures.well;
      numbered = one_more_numbered _ _ _ _ _ (g.R.GridStore.even _ c.requires.well) within c.loop-row.invariant.numbered (rw c.in_default.is at c.write_number.ensures.ok);
    }

pub returns-in-Err-clause-err : goal.returns-in-Err-clause-err
returns-in-Err-clause-err g c =
    let some : 0 < (g.R.GridStore.grid c.args.records.now).rows = omega (arith, c.loop-row-test.true, c.count_rows-rows.ensures.rows) in
    let back = taken_back _ _ _ _ (g.R.GridStore.even _ c.requires.well) some c.loop-row.invariant.numbered in
    (c.remove_column.ensures.removed ∙ ap (λ grid. without_column grid 0) c.in-Err.ensures.err ∙ back, refl)
