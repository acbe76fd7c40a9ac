use Rattle.std.specs.String.{string_bytes}
use Rattle.tabled_draw.proofs.Common.{[], ◌∷◌, ◌≡◌, each, length, map, map_grid, place}
use Rattle.tabled_script.specs.TextRooms.{room_of}
use Rattle.tabled_script.specs.Narrow.{wrapped_at}
use Rattle.tabled_script.proofs.text_rooms.wrapped_row.Given as goal

abbrev pub invariant-loop-j : goal.invariant-loop-j
invariant-loop-j g l = record {
  long : length l.row.items ≡ l.j;
  texts : map string_bytes l.row.items ≡ each l.j (λ j. wrapped_at (room_of l.room) (map_grid g.R.Cell.CellText.text_of (g.R.GridStore.grid l.records)) (place l.i j) ∷ []);
}
