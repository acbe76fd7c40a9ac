use Rattle.std.proofs.Common.{rules}
use Rattle.tabled_held.proofs.Pens.{all-written, sends-then, works-before}
use Rattle.tabled_held.specs.Sent.{Kept}
use Rattle.tabled_script.proofs.Common.{◌∙◌, Appends, IsEven-map_grid, ap, grid_of, map_items, on_ok_weaker, print, subst}
use Rattle.tabled_script.proofs.RowsAlone.{rowless}
use Rattle.tabled_script.proofs.Works.{works-earlier}
use Rattle.tabled_script.specs.InMemory.{state_by}
use Rattle.tabled_script.proofs.script_form.send_lines.Goals as goal

pub returns-clause-written : goal.returns-clause-written
returns-clause-written g c =
    let contents = g.W.Write.contents in
    let outcome = c.finish-written.result.1 in
    let name = c.finish-written.ensures.same_writer ∙ c.write_spans.ensures.same_writer ∙ c.write_table.ensures.sends.same_writer ∙ c.new-pen.ensures.same_writer in
    let none = ap (λ (held : Kept). held.bytes) c.new-pen.ensures.held ∙ c.requires.unused in
    on_ok_weaker outcome
    (λ all. let bytes = subst (λ w. Appends (contents w) (contents c.finish-written.result.0.now) (print (state_by g.T.CellText.text_of c.args.records.now.items c.args.cfg.now))) c.new-pen.ensures.unchanged all in search rules)
    (all-written outcome none (sends-then c.write_table.ensures.sends c.write_spans.ensures) c.finish-written.ensures)

pub returns-clause-known : goal.returns-clause-known
returns-clause-known g c =
    let rows = map_items c.args.records.now.items in
    on_ok_weaker c.finish-written.result.1
    (λ works. λ fits. record {
      even = IsEven-map_grid g.T.CellText.text_of (grid_of rows) c.requires.even;
      empty = rowless rows;
      texts = c.write_table.ensures.texts (works-earlier c.write_spans.ensures works);
      rows = c.write_table.ensures.sizes.0;
      columns = c.write_table.ensures.sizes.1;
      fits = fits;
    })
    (works-before c.finish-written.result.1 c.finish-written.ensures)
