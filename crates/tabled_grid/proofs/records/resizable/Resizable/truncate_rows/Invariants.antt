use Rattle.tabled_grid.proofs.Common.{◌≡◌, ◌≤◌, Rows, first_along}
use Rattle.tabled_grid.proofs.records.resizable.Resizable.truncate_rows.Given as goal

abbrev pub invariant-loop-left : goal.invariant-loop-left
invariant-loop-left g l =
    let grid = g.Self.GridStore.grid in
    record {
      well : g.Self.GridStore.is_well_formed l.self;
      low : l.count ≤ l.left;
      is : grid l.self ≡ first_along Rows l.left (grid l.fn.self);
      high : l.left ≤ (grid l.fn.self).rows;
    }

abbrev pub decreases-loop-left : goal.decreases-loop-left
decreases-loop-left g l = l.left
