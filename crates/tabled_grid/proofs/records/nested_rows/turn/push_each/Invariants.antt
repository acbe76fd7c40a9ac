use Rattle.tabled_grid.proofs.Common.{◌+◌, ◌≤◌, All, AllWithin, Vec, into_iter_items, suc, vec_capacity, vec_len, ℕ}
use Rattle.tabled_grid.proofs.Turned.{PushedTo}
use Rattle.tabled_grid.proofs.records.nested_rows.turn.push_each.Given as goal

abbrev pub invariant-loop-row : goal.invariant-loop-row
invariant-loop-row g l = record {
  pushed : PushedTo l.fn.rows l.rows l.fn.items.items (into_iter_items l.items) l.row-index;
  left : (n : ℕ) → All (λ (row : Vec g.row.T.Denot). vec_len row + suc n ≤ vec_capacity row) l.fn.rows → AllWithin (λ (row : Vec g.row.T.Denot). vec_len row + n ≤ vec_capacity row) l.rows 0 l.row-index;
}
