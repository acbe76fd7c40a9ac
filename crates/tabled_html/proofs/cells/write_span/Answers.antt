use Rattle.std.proofs.Common.{[], ◌∙◌, ◌∷◌, append-nil, sym}
use Rattle.std.proofs.lemmas.Bool.{lt-ltb}
use Rattle.std.specs.Prelude.{codes, decimal}
use Rattle.tabled_held.proofs.Pens.{sends-as, sends-then}
use Rattle.tabled_html_reading.proofs.Bytes.{five-parts}
use Rattle.tabled_html.proofs.cells.write_span.Goals as goal

pub returns-then-number-gt1 : goal.returns-then-number-gt1
returns-then-number-gt1 g c =
    let bytes = sends-then (sends-then (sends-then (sends-then c.send_byte.ensures c.send.ensures) c.send-then-number-gt1.ensures) c.send_number.ensures) c.send_byte-then-number-gt1.ensures in
    rw (lt-ltb 1 c.args.number c.if-number-gt1.true) (sends-as (five-parts (32 ∷ []) c.args.name.now (codes "=\"") (decimal c.args.number) (34 ∷ []) ∙ sym (append-nil _)) bytes)
