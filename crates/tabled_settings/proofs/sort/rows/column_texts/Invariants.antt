use Rattle.tabled_settings.proofs.Common.{◌≡◌, map, map_grid, place, range_with_len, text_at, ℕ}
use Rattle.tabled_settings.proofs.sort.rows.column_texts.Given as goal

abbrev pub invariant-loop-row : goal.invariant-loop-row
invariant-loop-row g l = map (λ t. t.now) l.texts.items ≡ map (λ (i : ℕ). text_at (map_grid g.R.Cell.CellText.text_of (g.R.GridStore.grid l.records)) (place i l.column)) (range_with_len 0 l.row)
