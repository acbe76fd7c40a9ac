use Rattle.tabled_held.proofs.Pens.{sends-as, sends-then}
use Rattle.tabled_html_reading.proofs.Bytes.{four-parts}
use Rattle.tabled_html_reading.specs.Bytes.{attributes_bytes, cell_end, cell_start}
use Rattle.tabled_html_reading.specs.Escaping.{escaped}
use Rattle.tabled_html.specs.Elements.{cell_attributes}
use Rattle.tabled_html.proofs.cells.write_cell.Goals as goal

pub returns : goal.returns
returns g c =
    sends-as (four-parts (cell_start c.args.is_header) (attributes_bytes (cell_attributes c.args.is_header c.args.alignment c.args.size)) (escaped c.args.text.now) (cell_end c.args.is_header))
    (sends-then (sends-then (sends-then c.write_start.ensures c.write_attributes.ensures) c.write_text.ensures) c.write_end.ensures)
