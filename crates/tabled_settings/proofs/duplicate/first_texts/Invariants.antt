use Rattle.tabled_settings.proofs.Common.{◌++◌, ◌≡◌, ◌≤◌, into_iter_items, length, map, map_grid, source_texts, string_bytes, take}
use Rattle.tabled_settings.proofs.duplicate.first_texts.Given as goal

abbrev pub invariant-loop-entity : goal.invariant-loop-entity
invariant-loop-entity g l =
    let texts = map_grid g.R.Cell.CellText.text_of (g.R.GridStore.grid l.fn.records) in
    record {
      texts : take l.fn.many (map string_bytes l.texts.items ++ source_texts texts (into_iter_items l.rest)) ≡ take l.fn.many (source_texts texts l.fn.entities.items);
      few : length l.texts.items ≤ l.fn.many;
    }

abbrev pub decreases-loop-entity : goal.decreases-loop-entity
decreases-loop-entity g l = length (into_iter_items l.rest)
