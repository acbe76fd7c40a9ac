use Rattle.std.proofs.Common.{◌++◌, ◌∙◌, ◌∷◌, [], append-nil, append_assoc, sym}
use Rattle.std.specs.Prelude.{codes}
use Rattle.tabled_held.proofs.Pens.{sends-as, sends-then}
use Rattle.tabled_html.proofs.writing.write_class_name.Goals as goal

pub returns-then-is_plain : goal.returns-then-is_plain
returns-then-is_plain g c =
    let class = c.args.class.now in
    rw (sym c.is_plain.ensures ∙ c.if-is_plain.true)
    (sends-as (append_assoc (codes " class=\"") class (34 ∷ []) ∙ sym (append-nil (codes " class=\"" ++ (class ++ (34 ∷ [])))))
    (sends-then (sends-then c.send.ensures c.send-then-is_plain.ensures) c.send_byte.ensures))
