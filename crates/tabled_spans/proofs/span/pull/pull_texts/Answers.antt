use Rattle.tabled_spans.proofs.Common.{◌∙◌, ◌≡◌, count_of, inside-within, line_of, map_grid, on_err, pull_writes_on, refl, taken}
use Rattle.tabled_spans.proofs.SpanWrites.{cells_is, continues-start, pulled-first, pulled-here}
use Rattle.tabled_spans.proofs.span.pull.pull_texts.Goals as goal

pub loop-pos-init : goal.loop-pos-init
loop-pos-init g c =
    let start = g.R.GridStore.grid c.args.records.now in
    let old = map_grid g.R.Cell.CellText.text_of start in
    let all = c.into_iter-pos-iterator.ensures.into_iter_gives ∙ (rw (c.count_rows-rows.ensures.rows, c.count_columns-columns.ensures.columns) at c.iter-pos-items.ensures) in
    record {
      can = tt;
      ends = tt;
      well = c.requires;
      rows = refl;
      columns = refl;
      within = rw all (inside-within c.args.entity start.rows start.columns);
      texts = rw all (continues-start (pull_writes_on c.args.axis c.args.back c.args.entity old) old);
    }

pub returns-in_err-pull-clause-err : goal.returns-in_err-pull-clause-err
returns-in_err-pull-clause-err g c =
    let start = g.R.GridStore.grid c.args.records.now in
    let old = map_grid g.R.Cell.CellText.text_of start in
    let n = count_of c.args.axis start.rows start.columns in
    let before = map_grid g.R.Cell.CellText.text_of (g.R.GridStore.grid c.loop-pos.records) in
    let cells : c.taken-first.result ≡ taken c.args.back n (line_of c.args.axis c.in-Some.pos) = cells_is c.args.axis c.in-Some.pos c.args.back c.count_of-count.result c.line_of.result c.count_rows-rows.result c.count_columns-columns.result start.rows start.columns c.taken-first.result c.taken-first.ensures c.count_of-count.ensures c.count_rows-rows.ensures.rows c.count_columns-columns.ensures.columns c.line_of.ensures in
    on_err c.from_residual.result (pulled-first (pull_writes_on c.args.axis c.args.back c.args.entity old) old c.args.axis c.args.back n c.in-Some.pos c.next.new.self c.taken-first.result cells before (rw c.in-Some.ensures.steps at c.loop-pos.invariant.texts) (map_grid g.R.Cell.CellText.text_of (g.R.GridStore.grid c.pull.new.records)) c.in_err-pull.ensures.err)

pub loop-pos-preserved : goal.loop-pos-preserved
loop-pos-preserved g c =
    let start = g.R.GridStore.grid c.args.records.now in
    let old = map_grid g.R.Cell.CellText.text_of start in
    let n = count_of c.args.axis start.rows start.columns in
    let before = map_grid g.R.Cell.CellText.text_of (g.R.GridStore.grid c.loop-pos.records) in
    let cells : c.taken-first.result ≡ taken c.args.back n (line_of c.args.axis c.in-Some.pos) = cells_is c.args.axis c.in-Some.pos c.args.back c.count_of-count.result c.line_of.result c.count_rows-rows.result c.count_columns-columns.result start.rows start.columns c.taken-first.result c.taken-first.ensures c.count_of-count.ensures c.count_rows-rows.ensures.rows c.count_columns-columns.ensures.columns c.line_of.ensures in
    record {
      can = tt;
      ends = tt;
      well = c.in_ok-pull.ensures.well;
      rows = c.in_ok-pull.ensures.rows ∙ c.loop-pos.invariant.rows;
      columns = c.in_ok-pull.ensures.columns ∙ c.loop-pos.invariant.columns;
      within = (rw c.in-Some.ensures.steps at c.loop-pos.invariant.within).1;
      texts = pulled-here (pull_writes_on c.args.axis c.args.back c.args.entity old) old c.args.axis c.args.back n c.in-Some.pos c.next.new.self c.taken-first.result cells before (rw c.in-Some.ensures.steps at c.loop-pos.invariant.texts) (map_grid g.R.Cell.CellText.text_of (g.R.GridStore.grid c.pull.new.records)) c.in_ok-pull.ensures.ok;
    }
