use Rattle.tabled_grid.proofs.Common.{◌≡◌, ◌≤◌, Columns, first_along}
use Rattle.tabled_grid.proofs.records.refusing.RefusingResizable.truncate_columns.Given as goal

abbrev pub invariant-loop-left : goal.invariant-loop-left
invariant-loop-left g l =
    let grid = g.S.GridStore.grid in
    record {
      well : g.S.GridStore.is_well_formed l.self.store;
      low : l.count ≤ l.left;
      is : grid l.self.store ≡ first_along Columns l.left (grid l.fn.self.store);
      high : l.left ≤ (grid l.fn.self.store).columns;
      growth : l.self.growth ≡ l.fn.self.growth;
      set : l.self.set ≡ l.fn.self.set;
    }

abbrev pub decreases-loop-left : goal.decreases-loop-left
decreases-loop-left g l = l.left
