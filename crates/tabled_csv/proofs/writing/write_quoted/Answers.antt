use Rattle.tabled_held.proofs.Pens.{sends-as, sends-then}
use Rattle.tabled_csv.proofs.Common.{◌+◌, arith, get_or, ne_eqb}
use Rattle.tabled_csv.proofs.DoubledQuotes.{quiet-more, quiet-none, quote-more}
use Rattle.tabled_csv.proofs.Writes.{whole-quoted}
use Rattle.tabled_csv.proofs.writing.write_quoted.Goals as goal
use Rattle.tabled_csv.proofs.writing.write_quoted.Goals.{else-byte-eq34, then-byte-eq34}

pub loop-i-preserved : goal.loop-i-preserved
loop-i-preserved g c =
    let text = c.args.text.now in
    let i = c.loop-i.i in
    let w = c.loop-i.written in
    elim c.if-byte-eq34.branch [
      | then-byte-eq34 v ↦
          rw (v.pen-is, v.written-is) (record {
            sends = sends-as (quote-more text w i c.loop-i.invariant.behind (omega arith) v.if-byte-eq34.true c.loop-i.invariant.quiet)
                (sends-then (sends-then c.loop-i.invariant.sends v.send.ensures) v.send_byte-then-byte-eq34.ensures);
            behind = omega arith;
            quiet = quiet-none text (i + 1);
          })
      | else-byte-eq34 v ↦
          rw (v.pen-is, v.written-is) (record {
            sends = c.loop-i.invariant.sends;
            behind = omega arith;
            quiet = quiet-more text w i c.loop-i.invariant.behind (omega arith) (ne_eqb (get_or text i 0) 34 v.if-byte-eq34.false) c.loop-i.invariant.quiet;
          })
    ]

pub returns : goal.returns
returns g c =
    sends-as (whole-quoted c.args.text.now c.loop-i.written c.loop-i.i c.loop-i-test.false c.loop-i.invariant.quiet)
    (sends-then (sends-then c.loop-i.invariant.sends c.send-2.ensures) c.send_byte-2.ensures)
