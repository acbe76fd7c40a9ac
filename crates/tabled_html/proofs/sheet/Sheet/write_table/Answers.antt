use Rattle.std.proofs.Common.{◌∙◌, ap}
use Rattle.std.specs.List.{flat_map}
use Rattle.std.specs.Prelude.{codes}
use Rattle.tabled_held.proofs.Pens.{sends-as, sends-then}
use Rattle.tabled_html.specs.Elements.{class_attribute, groups_of}
use Rattle.tabled_html.specs.Written.{Written}
use Rattle.tabled_html_reading.proofs.Bytes.{table-parts}
use Rattle.tabled_html_reading.specs.Bytes.{attribute_bytes, caption_bytes, group_bytes}
use Rattle.tabled_html.proofs.sheet.Sheet.write_table.Goals as goal

pub returns : goal.returns
returns g c =
    let w = c.args.self.now in
    let class = sends-as (ap (λ class. flat_map attribute_bytes (class_attribute class)) (c.class_text.ensures ∙ ap (λ (w : Written). w.look.class) c.self.view_is)) c.write_class.ensures in
    let caption = sends-as (ap caption_bytes (c.caption_text.ensures ∙ ap (λ (w : Written). w.look.caption) c.self.view_is)) c.write_caption.ensures in
    sends-as (table-parts (flat_map attribute_bytes (class_attribute w.look.class)) (caption_bytes w.look.caption) (flat_map group_bytes (groups_of w)) (codes "</table>\n"))
    (sends-then (sends-then (sends-then (sends-then (sends-then c.send.ensures class) c.send-2.ensures) caption) c.write_groups.ensures) c.send-3.ensures)
