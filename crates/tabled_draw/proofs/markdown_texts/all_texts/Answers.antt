use Rattle.tabled_draw.specs.Markdown.{characters, row_apart}
use Rattle.tabled_draw.proofs.Common.{[], ap, arith, each, map_grid, rectangles, ◌∙◌, ◌∷◌, ◌≡◌}
use Rattle.tabled_draw.proofs.Singly.{row-more, wide-more}
use Rattle.tabled_draw.proofs.markdown_texts.all_texts.Goals as goal

pub loop-i-preserved : goal.loop-i-preserved
loop-i-preserved g c =
    let t = map_grid g.R.Cell.CellText.text_of (g.R.GridStore.grid c.args.records.now) in
    let old = c.loop-i.texts.items in
    let row = c.in_ok-row_texts.field-0 in
    record {
      wide = rw c.in_ok-push.ensures.items (wide-more old row t.columns c.loop-i.invariant.wide c.in_ok-row_texts.ensures.long);
      texts = λ m is. rw c.in_ok-push.ensures.items (row-more characters old row c.loop-i.i (row_apart t (rectangles m)) (c.loop-i.invariant.texts m is) (c.in_ok-row_texts.ensures.texts m is));
    }

pub returns-clause-texts : goal.returns-clause-texts
returns-clause-texts g c = λ m is.
    let t = map_grid g.R.Cell.CellText.text_of (g.R.GridStore.grid c.args.records.now) in
    let end : c.loop-i.i ≡ t.rows = omega (arith, c.loop-i-test.false, c.loop-i.auto.i-end, c.count_rows-i-end.ensures.rows) in
    c.loop-i.invariant.texts m is ∙ ap (λ n. each n (λ i. row_apart t (rectangles m) i ∷ [])) end
