use Rattle.tabled_settings.proofs.Common.{◌≡◌, clean_split, div_ceil, filter, map_grid, oriented, range_with_len, stays_at}
use Rattle.tabled_settings.proofs.pieces.staying_pieces.Given as goal

abbrev pub invariant-loop-nth : goal.invariant-loop-nth
invariant-loop-nth g l =
    l.staying.items ≡ filter (stays_at (clean_split l.pieces) (div_ceil l.pieces.width l.pieces.index) (oriented l.pieces.axis (map_grid g.R.Cell.CellText.text_of (g.R.GridStore.grid l.records))).cells) (range_with_len 0 l.nth)
