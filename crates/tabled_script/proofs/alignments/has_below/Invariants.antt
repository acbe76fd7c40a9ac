use Rattle.std.specs.List.{list_any, range_with_len}
use Rattle.tabled_grid.specs.Entity.{place}
use Rattle.tabled_script.proofs.Common.{◌≡◌, ◌≤◌, map_grid}
use Rattle.std.specs.Prelude.{◌-◌, false}
use Rattle.tabled_script.specs.Aligners.{is_of}
use Rattle.tabled_select.specs.Locators.{text_at}
use Rattle.tabled_script.proofs.alignments.has_below.Given as goal

abbrev pub invariant-loop-row : goal.invariant-loop-row
invariant-loop-row g l =
    let grid = g.R.GridStore.grid l.records in
    record {
      none : list_any (λ i. is_of l.kind (text_at (map_grid g.R.Cell.CellText.text_of grid) (place i l.column))) (range_with_len 1 (l.row - 1)) ≡ false;
      few : l.row - 1 ≤ grid.rows - 1;
    }
