use Rattle.tabled_options.proofs.Common.{[], ◌<◌, ◌∷◌, ◌≡◌, AllByRecursion, FirstWrites, Grid, List, at_each, inside, map_grid, with_writes, ℕ}
use Rattle.tabled_grid.specs.declared.config.position.Position.{Position}
use Rattle.tabled_options.proofs.writers.write.Given as goal

abbrev pub invariant-loop-next : goal.invariant-loop-next
invariant-loop-next g l =
    let first = g.R.GridStore.grid l.fn.records in
    let texts = λ (r : _). map_grid g.R.Cell.CellText.text_of (g.R.GridStore.grid r) in
    let text = g.T.CellText.text_of l.fn.text in
    let all = inside l.fn.entity first.rows first.columns in
    let left = l.pos ∷ l.places in
    record {
      well : g.R.GridStore.is_well_formed l.records;
      rows : (g.R.GridStore.grid l.records).rows ≡ first.rows;
      columns : (g.R.GridStore.grid l.records).columns ≡ first.columns;
      inside : AllByRecursion (λ (p : Position). (p.row < first.rows) × (p.col < first.columns)) left;
      ok : with_writes (at_each text left) (texts l.records) ≡ with_writes (at_each text all) (texts l.fn.records);
      err : (h : Grid (List ℕ)) → FirstWrites (at_each text left) (texts l.records) h → FirstWrites (at_each text all) (texts l.fn.records) h;
      some : all ≡ [] → ⊥;
    }
