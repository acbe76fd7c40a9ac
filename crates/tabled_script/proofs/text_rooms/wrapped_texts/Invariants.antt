use Rattle.std.specs.String.{string_bytes}
use Rattle.tabled_draw.proofs.Common.{[], ◌∷◌, ◌≡◌, each, map, map_grid}
use Rattle.tabled_grid.specs.Evenness.{AreWide}
use Rattle.tabled_grid.specs.Grid.{map_items}
use Rattle.tabled_script.specs.TextRooms.{room_of, wrapped_row}
use Rattle.tabled_script.proofs.text_rooms.wrapped_texts.Given as goal

abbrev pub invariant-loop-i : goal.invariant-loop-i
invariant-loop-i g l = record {
  wide : AreWide (g.R.GridStore.grid l.records).columns (map_items l.texts.items);
  texts : map (map string_bytes) (map_items l.texts.items) ≡ each l.i (λ i. wrapped_row (room_of l.room) (map_grid g.R.Cell.CellText.text_of (g.R.GridStore.grid l.records)) i ∷ []);
}
