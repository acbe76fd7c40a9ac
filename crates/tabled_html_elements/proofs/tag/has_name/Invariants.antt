use Rattle.std.proofs.Common.{◌≡◌, drop}
use Rattle.std.specs.Prelude.{is_some}
use Rattle.tabled_html_reading.specs.Elements.{value_of}
use Rattle.tabled_html_elements.proofs.tag.has_name.Given as goal

abbrev pub invariant-loop-attribute : goal.invariant-loop-attribute
invariant-loop-attribute l = is_some (value_of l.name l.attributes) ≡ is_some (value_of l.name (drop l.attribute-index l.attributes))
