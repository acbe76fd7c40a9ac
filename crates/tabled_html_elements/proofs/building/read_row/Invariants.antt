use Rattle.std.proofs.Common.{◌≡◌, ◌≤◌, [], Bool, List, Some, length}
use Rattle.tabled_html_reading.specs.Building.Mode.{InRow}
use Rattle.tabled_html_reading.specs.Elements.{Element, Table}
use Rattle.tabled_html_elements.specs.Reading.{built_from, opened}
use Rattle.tabled_html_elements.proofs.building.read_row.Given as goal

abbrev pub invariant-cells : goal.invariant-cells
invariant-cells l = record {
  read : (table : Table) (is_head : Bool) (rows : List (List Element)) → built_from (Some (opened InRow table is_head rows [])) l.fn.bytes ≡ built_from (Some (opened InRow table is_head rows l.cells.items)) l.rest;
  shorter : length l.rest ≤ length l.fn.bytes;
}

abbrev pub decreases-cells : goal.decreases-cells
decreases-cells l = length l.rest
