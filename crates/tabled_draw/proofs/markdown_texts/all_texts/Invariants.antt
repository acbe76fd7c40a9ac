use Rattle.tabled_draw.specs.Markdown.{characters, row_apart}
use Rattle.tabled_draw.proofs.Common.{SpanMap, [], each, map, map_grid, rectangles, ◌∷◌, ◌≡◌}
use Rattle.tabled_grid.specs.Covers.{IsCoverOf}
use Rattle.tabled_grid.specs.Evenness.{AreWide}
use Rattle.tabled_grid.specs.Grid.{map_items}
use Rattle.tabled_draw.proofs.markdown_texts.all_texts.Given as goal

abbrev pub invariant-loop-i : goal.invariant-loop-i
invariant-loop-i g l = record {
  wide : AreWide (g.R.GridStore.grid l.records).columns (map_items l.texts.items);
  texts : (m : SpanMap) → IsCoverOf m l.cover → map (map characters) (map_items l.texts.items) ≡ each l.i (λ i. row_apart (map_grid g.R.Cell.CellText.text_of (g.R.GridStore.grid l.records)) (rectangles m) i ∷ []);
}
