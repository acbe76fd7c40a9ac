use Rattle.std.proofs.Common.{rules, ◌∙◌, ap, arith}
use Rattle.tabled_grid.specs.Grid.{map_grid}
use Rattle.tabled_held.proofs.Pens.{all-written, some-written}
use Rattle.tabled_held.specs.Sent.{Kept}
use Rattle.tabled_html.proofs.Grids.{html-shows}
use Rattle.tabled_html.proofs.Within.{written-fits}
use Rattle.tabled_html.proofs.writing.write_with.Goals as goal

pub invariant_of-sheet : goal.invariant_of-sheet
invariant_of-sheet g c =
    let spans = rw (c.count_rows-rows.ensures.rows, c.count_columns-columns.ensures.columns) at c.in_ok-spans.ensures in
    (c.requires.well, record { fits = rw spans (written-fits _ _ c.args.cfg.now); counted = omega (arith, c.count_rows-rows.ensures.rows) })

pub returns-in-Ok-clause-written : goal.returns-in-Ok-clause-written
returns-in-Ok-clause-written g c =
    let name = c.finish-written.ensures.same_writer ∙ c.write_page.ensures.same_writer ∙ c.new-pen.ensures.same_writer in
    let none = ap (λ (held : Kept). held.bytes) c.new-pen.ensures.held ∙ c.in_ok-held.ensures.empty in
    let spans = rw (c.count_rows-rows.ensures.rows, c.count_columns-columns.ensures.columns) at c.in_ok-spans.ensures in
    let all = rw (c.in-Ok.is, c.new-pen.ensures.unchanged, spans) at (all-written c.finish-written.result.1 none c.write_page.ensures c.finish-written.ensures) in
    search rules

pub returns-in-Ok-clause-shows : goal.returns-in-Ok-clause-shows
returns-in-Ok-clause-shows g c empty = html-shows (map_grid g.R.Cell.CellText.text_of (g.R.GridStore.grid c.args.records.now)) c.args.cfg.now c.args.page.now empty

pub returns-clause-failed : goal.returns-clause-failed
returns-clause-failed g c =
    let name = c.finish-written.ensures.same_writer ∙ c.write_page.ensures.same_writer ∙ c.new-pen.ensures.same_writer in
    let none = ap (λ (held : Kept). held.bytes) c.new-pen.ensures.held ∙ c.in_ok-held.ensures.empty in
    let works = ap (λ (held : Kept). held.failure) c.new-pen.ensures.held ∙ c.in_ok-held.ensures.works in
    let spans = rw (c.count_rows-rows.ensures.rows, c.count_columns-columns.ensures.columns) at c.in_ok-spans.ensures in
    let some = rw (c.in-Err.is, c.new-pen.ensures.unchanged, spans) at (some-written c.finish-written.result.1 none works c.write_page.ensures c.finish-written.ensures) in
    search rules
