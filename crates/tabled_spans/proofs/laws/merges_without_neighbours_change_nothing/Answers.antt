use Rattle.tabled_spans.proofs.NoNeighbours.{none_changed, none_in_cell, none_in_column, none_in_row}
use Rattle.tabled_spans.proofs.laws.merges_without_neighbours_change_nothing.Goals as goal

pub returns-clause-same : goal.returns-clause-same
returns-clause-same c = none_changed

pub returns-clause-row : goal.returns-clause-row
returns-clause-row c = none_in_row

pub returns-clause-column : goal.returns-clause-column
returns-clause-column c = none_in_column

pub returns-clause-cell : goal.returns-clause-cell
returns-clause-cell c = none_in_cell
