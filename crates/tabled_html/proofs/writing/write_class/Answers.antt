use Rattle.std.proofs.Common.{Some, ap}
use Rattle.std.specs.List.{flat_map}
use Rattle.tabled_held.proofs.Pens.{sends-as}
use Rattle.tabled_html.specs.Elements.{class_attribute}
use Rattle.tabled_html_reading.specs.Bytes.{attribute_bytes}
use Rattle.tabled_html.proofs.writing.write_class.Goals as goal

pub returns-in-Some : goal.returns-in-Some
returns-in-Some g c =
    rw c.in-Some.is
    (sends-as (ap (λ class. flat_map attribute_bytes (class_attribute (Some class))) c.as_bytes.ensures.value) c.write_class_name.ensures)
