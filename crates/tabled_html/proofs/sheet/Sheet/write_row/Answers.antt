use Rattle.std.proofs.Common.{ap, arith}
use Rattle.std.specs.Prelude.{codes}
use Rattle.tabled_grid.specs.Entity.{place}
use Rattle.tabled_held.proofs.Pens.{sends-as, sends-then}
use Rattle.tabled_html.proofs.Ends.{ends-row}
use Rattle.tabled_html.specs.Elements.{begun_at}
use Rattle.tabled_html.specs.Written.{Written}
use Rattle.tabled_html_reading.proofs.Bytes.{series-end, series-more}
use Rattle.tabled_html_reading.specs.Bytes.{cell_bytes}
use Rattle.tabled_html.proofs.sheet.Sheet.write_row.Goals as goal

pub loop-j-preserved : goal.loop-j-preserved
loop-j-preserved g c = record {
  sends =
      sends-as (series-more cell_bytes (codes "<tr>") (λ j. begun_at c.args.self.now (place c.args.i j)) c.loop-j.j)
      (sends-then c.loop-j.invariant.sends c.write_place.ensures.sent);
  ends = c.write_place.ensures.ends;
}

pub returns-clause-sent : goal.returns-clause-sent
returns-clause-sent g c =
    let columns = ap (λ (w : Written). w.texts.columns) c.self.view_is in
    sends-as (series-end cell_bytes (codes "<tr>") (codes "</tr>\n") (λ j. begun_at c.args.self.now (place c.args.i j)) c.loop-j.j c.args.self.now.texts.columns (omega (arith, c.loop-j-test.false, c.count_columns-j-end.ensures.columns)))
    (sends-then c.loop-j.invariant.sends c.send-2.ensures)

pub returns-clause-ends : goal.returns-clause-ends
returns-clause-ends g c = ends-row c.self.view_is c.self.invariant.1.fits (omega (arith, c.loop-j-test.false, c.count_columns-j-end.ensures.columns)) c.loop-j.invariant.ends
