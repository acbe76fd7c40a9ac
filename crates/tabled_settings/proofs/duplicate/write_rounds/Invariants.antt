use Rattle.tabled_settings.proofs.Common.{◌≡◌, FirstWrites, Grid, List, into_iter_items, length, map, map_grid, round_writes, string_bytes, with_writes, ℕ}
use Rattle.tabled_settings.proofs.duplicate.write_rounds.Given as goal

abbrev pub invariant-loop-entity : goal.invariant-loop-entity
invariant-loop-entity g l =
    let first = g.R.GridStore.grid l.fn.records in
    let grid = λ (r : _). map_grid g.R.Cell.CellText.text_of (g.R.GridStore.grid r) in
    let texts = map string_bytes l.fn.texts in
    let all = round_writes texts first.rows first.columns l.fn.entities.items in
    let left = round_writes texts first.rows first.columns (into_iter_items l.rest) in
    record {
      well : g.R.GridStore.is_well_formed l.records;
      rows : (g.R.GridStore.grid l.records).rows ≡ first.rows;
      columns : (g.R.GridStore.grid l.records).columns ≡ first.columns;
      ok : with_writes left (grid l.records) ≡ with_writes all (grid l.fn.records);
      err : (h : Grid (List ℕ)) → FirstWrites left (grid l.records) h → FirstWrites all (grid l.fn.records) h;
    }

abbrev pub decreases-loop-entity : goal.decreases-loop-entity
decreases-loop-entity g l = length (into_iter_items l.rest)
