use Rattle.std.proofs.Common.{◌∙◌, Some, ap, append_assoc}
use Rattle.std.specs.Prelude.{codes}
use Rattle.tabled_held.proofs.Pens.{sends-as, sends-then}
use Rattle.tabled_html_reading.specs.Bytes.{caption_bytes}
use Rattle.tabled_html_reading.specs.Escaping.{escaped}
use Rattle.tabled_html.proofs.writing.write_caption.Goals as goal

pub returns-in-Some : goal.returns-in-Some
returns-in-Some g c =
    rw c.in-Some.is
    (sends-as (append_assoc (codes "<caption>") (escaped c.as_bytes.result.now) (codes "</caption>\n") ∙ ap (λ text. caption_bytes (Some text)) c.as_bytes.ensures.value)
    (sends-then (sends-then c.send.ensures c.write_text.ensures) c.send-in-Some.ensures))
