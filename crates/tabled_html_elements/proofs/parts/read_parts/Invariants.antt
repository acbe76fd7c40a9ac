use Rattle.std.proofs.Common.{◌≡◌, ◌≤◌, [], Some, false, length}
use Rattle.tabled_html_reading.specs.Building.Mode.{InTable}
use Rattle.tabled_html_elements.specs.Reading.{built_from, opened}
use Rattle.tabled_html_elements.proofs.parts.read_parts.Given as goal

abbrev pub invariant-parts : goal.invariant-parts
invariant-parts l = record {
  read : built_from (Some (opened InTable l.fn.table false [] [])) l.fn.bytes ≡ built_from (Some (opened InTable l.table false [] [])) l.rest;
  shorter : length l.rest ≤ length l.fn.bytes;
}

abbrev pub decreases-parts : goal.decreases-parts
decreases-parts l = length l.rest
