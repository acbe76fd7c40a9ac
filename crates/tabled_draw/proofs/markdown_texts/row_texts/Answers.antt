use Rattle.tabled_draw.specs.Markdown.{cell_apart, characters}
use Rattle.tabled_draw.proofs.Common.{[], ap, ap₂, arith, each, map_grid, place, rectangles, sym, ◌++◌, ◌+◌, ◌∙◌, ◌∷◌, ◌≡◌}
use Rattle.std.proofs.lemmas.List.{length-append, map-append}
use Rattle.tabled_draw.proofs.Each.{each-more}
use Rattle.tabled_draw.proofs.markdown_texts.row_texts.Goals as goal

pub loop-j-preserved : goal.loop-j-preserved
loop-j-preserved g c =
    let t = map_grid g.R.Cell.CellText.text_of (g.R.GridStore.grid c.args.records.now) in
    let old = c.loop-j.row.items in
    let text = c.in_ok-text_at.field-0 in
    record {
      long = rw c.in_ok-push.ensures.items (length-append old (text ∷ []) ∙ ap (λ n. n + 1) c.loop-j.invariant.long);
      texts = λ m is. rw c.in_ok-push.ensures.items (map-append characters old (text ∷ []) ∙ ap₂ (λ ys y. ys ++ (y ∷ [])) (c.loop-j.invariant.texts m is) (c.in_ok-text_at.ensures m is) ∙ sym (each-more (λ j. cell_apart t (rectangles m) (place c.args.i j) ∷ []) c.loop-j.j));
    }

pub returns-clause-texts : goal.returns-clause-texts
returns-clause-texts g c = λ m is.
    let t = map_grid g.R.Cell.CellText.text_of (g.R.GridStore.grid c.args.records.now) in
    let end : c.loop-j.j ≡ t.columns = omega (arith, c.loop-j-test.false, c.loop-j.auto.j-end, c.count_columns-j-end.ensures.columns) in
    c.loop-j.invariant.texts m is ∙ ap (λ n. each n (λ j. cell_apart t (rectangles m) (place c.args.i j) ∷ [])) end
