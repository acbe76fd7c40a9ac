use Rattle.tabled_grid.specs.declared.records.axis.Axis.TheVariants.{Columns}
use Rattle.tabled_own_option.proofs.laws.row_numbers_keep_merged_cells_fitting.Goals as goal

pub returns : goal.returns
returns g c =
    let law = c.merged_cells_fit_once_a_line_is_put_in.ensures in
    record {
      done = λ old m new n fits does. law.columns _ _ _ _ _ _ does.put_in (law.first Columns m) fits;
      refused = λ old m new n fits same. rw (same.0, same.1) fits;
    }
