use Rattle.std.proofs.Common.{◌+◌, arith, rules}
use Rattle.tabled_held.proofs.Pens.{sends-as, sends-then}
use Rattle.tabled_html_reading.proofs.Bytes.{quiet-more, quiet-none, written-all, written-more}
use Rattle.tabled_html.proofs.cells.write_text.Goals as goal
use Rattle.tabled_html.proofs.cells.write_text.Goals.{else-not-stands_for_itself, then-not-stands_for_itself}

pub loop-i-preserved : goal.loop-i-preserved
loop-i-preserved g c =
    let text = c.args.text.now in
    let w = c.loop-i.written in
    let i = c.loop-i.i in
    elim c.if-not-stands_for_itself.branch [
      | then-not-stands_for_itself v ↦
          rw (v.pen-is, v.written-is) (record {
            sends = sends-as (written-more text w i c.loop-i.invariant.behind (omega arith) c.loop-i.invariant.quiet)
                (sends-then (sends-then c.loop-i.invariant.sends v.send.ensures) v.write_byte.ensures);
            behind = omega arith;
            quiet = quiet-none text (i + 1);
          })
      | else-not-stands_for_itself v ↦
          rw (v.pen-is, v.written-is) (record {
            sends = c.loop-i.invariant.sends;
            behind = omega arith;
            quiet = quiet-more text w i c.loop-i.invariant.behind (omega arith) c.loop-i.invariant.quiet (c.stands_for_itself.ensures (search rules));
          })
    ]

pub returns : goal.returns
returns g c =
    sends-as (written-all c.args.text.now c.loop-i.written c.loop-i.i c.loop-i-test.false c.loop-i.invariant.quiet)
    (sends-then c.loop-i.invariant.sends c.send-2.ensures)
