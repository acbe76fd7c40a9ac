use Rattle.tabled_select.proofs.Common.{◌++◌, ◌<◌, ◌≡◌, AllByRecursion, Bool, Filters, FnReturnsAt, List, Position, inside, map, map_grid, text_at}
use Rattle.tabled_select.proofs.location.search.search.Given as goal

abbrev pub invariant-loop-pos : goal.invariant-loop-pos
invariant-loop-pos g l =
    let grid = g.R.GridStore.grid l.fn.records in
    let says = λ (p : Position) (yes : Bool). FnReturnsAt g.F.Fn l.fn.says (text_at (map_grid g.R.Cell.CellText.text_of grid) p) yes in
    record {
      can : (goal.iterator-loop-pos g).can_next l.pos-iterator;
      ends : (goal.iterator-loop-pos g).is_finite l.pos-iterator;
      within : AllByRecursion (λ (p : Position). (p.row < grid.rows) × (p.col < grid.columns)) l.pos-iterator;
      rest : (picked : List Position) → Filters says l.pos-iterator picked → (all : List Position) × Filters says (inside l.fn.entity grid.rows grid.columns) all × (map g.K.Tell.told all ≡ l.found.items ++ map g.K.Tell.told picked);
    }
