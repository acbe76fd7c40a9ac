use Rattle.std.proofs.Common.{◌≡◌, drop}
use Rattle.tabled_html_reading.specs.Building.{is_number_if}
use Rattle.tabled_html_reading.specs.Elements.{value_of}
use Rattle.tabled_html_elements.proofs.building.is_span.Given as goal

abbrev pub invariant-loop-attribute : goal.invariant-loop-attribute
invariant-loop-attribute l = is_number_if (value_of l.name l.attributes) ≡ is_number_if (value_of l.name (drop l.attribute-index l.attributes))
