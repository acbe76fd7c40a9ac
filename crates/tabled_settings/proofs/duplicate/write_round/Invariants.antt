use Rattle.tabled_settings.proofs.Common.{◌%◌, ◌<◌, ◌≡◌, AllByRecursion, FirstWrites, Grid, List, Position, inside, length, map, map_grid, round_from, string_bytes, with_writes, ℕ}
use Rattle.tabled_settings.proofs.duplicate.write_round.Given as goal

abbrev pub invariant-loop-pos : goal.invariant-loop-pos
invariant-loop-pos g l =
    let first = g.R.GridStore.grid l.fn.records in
    let grid = λ (r : _). map_grid g.R.Cell.CellText.text_of (g.R.GridStore.grid r) in
    let texts = map string_bytes l.fn.texts in
    let all = round_from 0 texts (inside l.fn.entity first.rows first.columns) in
    record {
      can : (goal.iterator-loop-pos g).can_next l.pos-iterator;
      ends : (goal.iterator-loop-pos g).is_finite l.pos-iterator;
      well : g.R.GridStore.is_well_formed l.records;
      rows : (g.R.GridStore.grid l.records).rows ≡ first.rows;
      columns : (g.R.GridStore.grid l.records).columns ≡ first.columns;
      within : AllByRecursion (λ (p : Position). (p.row < first.rows) × (p.col < first.columns)) l.pos-iterator;
      next : l.next < length l.fn.texts;
      left : (k : ℕ) × (l.next ≡ k % length texts) × (with_writes (round_from k texts l.pos-iterator) (grid l.records) ≡ with_writes all (grid l.fn.records))
          × ((h : Grid (List ℕ)) → FirstWrites (round_from k texts l.pos-iterator) (grid l.records) h → FirstWrites all (grid l.fn.records) h);
    }
