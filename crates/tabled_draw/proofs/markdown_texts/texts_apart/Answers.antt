use Rattle.std.proofs.lemmas.Result.{IfOk-weaker}
use Rattle.tabled_draw.proofs.Common.{map_grid, ◌∙◌}
use Rattle.tabled_draw.proofs.Singly.{kept-apart}
use Rattle.tabled_draw.proofs.markdown_texts.texts_apart.Goals as goal

pub returns-clause-texts : goal.returns-clause-texts
returns-clause-texts g c =
    let t = map_grid g.R.Cell.CellText.text_of (g.R.GridStore.grid c.args.records.now) in
    let kept = c.in_ok-spans.spans in
    let rows = c.count_rows-rows.ensures.rows in
    let columns = c.count_columns-columns.ensures.columns in
    IfOk-weaker c.all_texts.result _ _ (λ texts h. h kept c.in_ok-cover.ensures.cover ∙ kept-apart t c.args.cfg.now kept _ _ rows columns c.in_ok-spans.ensures.fitting) c.all_texts.ensures.texts
