use Rattle.tabled_held.proofs.Pens.{sends-as, sends-then}
use Rattle.tabled_html.proofs.Sent.{rows-more}
use Rattle.tabled_html.proofs.sheet.Sheet.write_rows.Goals as goal

pub loop-i-preserved : goal.loop-i-preserved
loop-i-preserved g c = record {
  sends = sends-as (rows-more c.args.self.now c.args.first c.loop-i.i c.loop-i.auto.i) (sends-then c.loop-i.invariant.sends c.write_row.ensures.sent);
  ends = c.write_row.ensures.ends;
}
