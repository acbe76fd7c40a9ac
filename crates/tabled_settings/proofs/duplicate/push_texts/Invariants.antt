use Rattle.tabled_settings.proofs.Common.{◌++◌, ◌<◌, ◌≡◌, ◌≤◌, AllByRecursion, Position, inside, length, map, map_grid, string_bytes, take, text_at}
use Rattle.tabled_settings.proofs.duplicate.push_texts.Given as goal

abbrev pub invariant-loop-pos : goal.invariant-loop-pos
invariant-loop-pos g l =
    let grid = g.R.GridStore.grid l.fn.records in
    let text = text_at (map_grid g.R.Cell.CellText.text_of grid) in
    record {
      can : (goal.iterator-loop-pos g).can_next l.pos-iterator;
      ends : (goal.iterator-loop-pos g).is_finite l.pos-iterator;
      within : AllByRecursion (λ (p : Position). (p.row < grid.rows) × (p.col < grid.columns)) l.pos-iterator;
      texts : take l.fn.many (map string_bytes l.texts.items ++ map text l.pos-iterator) ≡ take l.fn.many (map string_bytes l.fn.texts.items ++ map text (inside l.fn.entity grid.rows grid.columns));
      few : length l.texts.items ≤ l.fn.many;
    }
