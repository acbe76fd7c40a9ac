use Rattle.tabled_grid.proofs.Common.{◌≡◌, AllByRecursion, AreBlanks, length, map_items}
use Rattle.tabled_grid.proofs.records.nested_rows.moves.blank_rows.Given as goal

abbrev pub invariant-loop : goal.invariant-loop
invariant-loop g l = record {
  many : length l.made.items ≡ l.counter;
  blanks : AllByRecursion (AreBlanks g.T.Blank.is_blank l.columns) (map_items l.made.items);
}
