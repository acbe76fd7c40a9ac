use Rattle.tabled_options.proofs.Shapes.{fits_kept}
use Rattle.tabled_options.proofs.laws.same_table_shape_keeps_merged_cells_fitting.Goals as goal

pub returns : goal.returns
returns g c = record { table = λ done refused. fits_kept _ _ done refused }
