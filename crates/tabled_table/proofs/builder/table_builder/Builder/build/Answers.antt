use Rattle.tabled_table.proofs.Common.{◌∙◌, ap, map_grid, refl, string_bytes}
use Rattle.tabled_table.proofs.Tables.{IsEven-rows, map_grid-rows}
use Rattle.tabled_table.proofs.builder.table_builder.Builder.build.Goals as goal

pub new-requires : goal.new-requires
new-requires c = IsEven-rows _ c.into_cells.result.items c.into_cells.ensures.even

pub returns-clause-cells : goal.returns-clause-cells
returns-clause-cells c =
    let b = c.args.self in
    ap (map_grid string_bytes) (c.from_records.ensures.cells ∙ c.in_ok-records.ensures)
    ∙ map_grid-rows b.columns b.empty c.into_cells.result.items (rw c.into_cells.ensures.rows c.into_cells.ensures.wide)
    ∙ rw c.into_cells.ensures.rows refl
