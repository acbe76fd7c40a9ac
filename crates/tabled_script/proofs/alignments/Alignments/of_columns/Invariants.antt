use Rattle.std.specs.List.{range_with_len}
use Rattle.tabled_script.proofs.Common.{◌≡◌, ◌≤◌, map, map_grid}
use Rattle.tabled_script.specs.Aligners.{alignment_by, rule_in}
use Rattle.tabled_script.proofs.alignments.Alignments.of_columns.Given as goal

abbrev pub invariant-loop-column : goal.invariant-loop-column
invariant-loop-column g l =
    let grid = g.R.GridStore.grid l.records in
    record {
      items : l.found.items ≡ map (alignment_by (map rule_in l.rules.items) (map_grid g.R.Cell.CellText.text_of grid)) (range_with_len 0 l.column);
      few : l.column ≤ grid.columns;
    }
