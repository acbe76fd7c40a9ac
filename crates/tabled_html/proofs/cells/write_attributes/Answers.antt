use Rattle.std.specs.Prelude.{codes}
use Rattle.tabled_held.proofs.Pens.{sends-as, sends-then}
use Rattle.tabled_html_reading.proofs.Bytes.{four-attributes}
use Rattle.tabled_html.specs.Elements.{scope_attribute, span_attribute, style_attribute}
use Rattle.tabled_html.proofs.cells.write_attributes.Goals as goal

pub returns : goal.returns
returns g c =
    sends-as (four-attributes (span_attribute (codes "colspan") c.args.size.width) (span_attribute (codes "rowspan") c.args.size.height) (scope_attribute c.args.is_header) (style_attribute c.args.alignment))
    (sends-then (sends-then (sends-then (sends-then c.write_span.ensures c.write_span-2.ensures) c.write_scope.ensures) c.write_style.ensures) c.send_byte.ensures)
