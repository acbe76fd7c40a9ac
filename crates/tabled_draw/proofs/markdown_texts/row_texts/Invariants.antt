use Rattle.tabled_draw.specs.Markdown.{cell_apart, characters}
use Rattle.tabled_draw.proofs.Common.{SpanMap, [], each, length, map, map_grid, place, rectangles, ◌∷◌, ◌≡◌}
use Rattle.tabled_grid.specs.Covers.{IsCoverOf}
use Rattle.tabled_draw.proofs.markdown_texts.row_texts.Given as goal

abbrev pub invariant-loop-j : goal.invariant-loop-j
invariant-loop-j g l = record {
  long : length l.row.items ≡ l.j;
  texts : (m : SpanMap) → IsCoverOf m l.cover → map characters l.row.items ≡ each l.j (λ j. cell_apart (map_grid g.R.Cell.CellText.text_of (g.R.GridStore.grid l.records)) (rectangles m) (place l.i j) ∷ []);
}
