use Rattle.std.proofs.Common.{◌≡◌, ◌≤◌, [], Some, length}
use Rattle.tabled_html_reading.specs.Building.Mode.{InTableBody}
use Rattle.tabled_html_reading.specs.Elements.{Table}
use Rattle.tabled_html_elements.specs.Reading.{built_from, opened}
use Rattle.tabled_html_elements.proofs.building.read_rows.Given as goal

abbrev pub invariant-rows : goal.invariant-rows
invariant-rows l = record {
  read : (table : Table) → built_from (Some (opened InTableBody table l.is_head l.fn.rows.items [])) l.fn.bytes ≡ built_from (Some (opened InTableBody table l.is_head l.rows.items [])) l.rest;
  shorter : length l.rest ≤ length l.fn.bytes;
}

abbrev pub decreases-rows : goal.decreases-rows
decreases-rows l = length l.rest
