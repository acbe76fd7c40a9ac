use Rattle.std.proofs.Common.{◌∙◌, ap, append_assoc, sym}
use Rattle.tabled_held.proofs.Pens.{sends-as, sends-then}
use Rattle.tabled_html.specs.Elements.{page_end, page_start, table}
use Rattle.tabled_html.specs.Written.{Written}
use Rattle.tabled_html_reading.specs.Bytes.{table_bytes}
use Rattle.tabled_html.proofs.sheet.Sheet.write_page.Goals as goal

pub returns-then-is_whole : goal.returns-then-is_whole
returns-then-is_whole g c =
    rw (ap (λ (w : Written). w.look.is_whole) (sym c.self.view_is) ∙ sym c.is_whole.ensures ∙ c.if-is_whole.true)
    (sends-as (append_assoc page_start (table_bytes (table c.args.self.now)) page_end) (sends-then (sends-then c.write_page_start.ensures c.write_table.ensures) c.write_page_end.ensures))

pub returns : goal.returns
returns g c = rw (ap (λ (w : Written). w.look.is_whole) (sym c.self.view_is) ∙ sym c.is_whole.ensures ∙ c.if-is_whole.false) c.write_table-2.ensures
