use Rattle.tabled_held.proofs.Pens.{sends-as, sends-then}
use Rattle.tabled_json.proofs.Common.{◌+◌, ◌∙◌, arith, sym}
use Rattle.tabled_json.proofs.Escapes.{escape-more, plain-more, quiet-none, whole-string}
use Rattle.tabled_json.proofs.writing.write_string.Goals as goal
use Rattle.tabled_json.proofs.writing.write_string.Goals.{else-not-is_plain, then-not-is_plain}

pub loop-i-preserved : goal.loop-i-preserved
loop-i-preserved g c =
    let text = c.args.text.now in
    let i = c.loop-i.i in
    let w = c.loop-i.written in
    let was = c.loop-i.invariant in
    elim c.if-not-is_plain.branch [
      | then-not-is_plain v ↦
          rw (v.pen-is, v.written-is) (record {
            sends = sends-as (escape-more text w i was.behind c.loop-i-test.true was.quiet) (sends-then (sends-then was.sends v.send.ensures) v.write_escape.ensures);
            behind = omega arith;
            quiet = quiet-none text (i + 1);
          })
      | else-not-is_plain v ↦
          rw (v.pen-is, v.written-is) (record {
            sends = was.sends;
            behind = omega (arith, was.behind);
            quiet = plain-more text w i was.behind c.loop-i-test.true (sym c.is_plain.ensures ∙ v.if-not-is_plain.false) was.quiet;
          })
    ]

pub returns : goal.returns
returns g c =
    sends-as (whole-string c.args.text.now c.loop-i.written c.loop-i.i c.loop-i-test.false c.loop-i.invariant.quiet)
    (sends-then (sends-then c.loop-i.invariant.sends c.send-2.ensures) c.send_byte-2.ensures)
