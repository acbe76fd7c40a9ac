use Rattle.tabled_select.proofs.Common.{[], ◌∷◌, AllByRecursion, FnReturnsAtPair, FoldsTo, HeldLast, HoldsNext, Position, flat, map_grid}
use Rattle.tabled_select.proofs.NamedPlaces.{IsWithin}
use Rattle.tabled_select.proofs.location.by_value.held_last.Given as goal

abbrev pub invariant-loop-pos : goal.invariant-loop-pos
invariant-loop-pos g l =
    let grid = g.R.GridStore.grid l.fn.records in
    let texts = map_grid g.R.Cell.CellText.text_of grid in
    let takes = FnReturnsAtPair g.F.Fn l.fn.takes in
    record {
      can : (goal.iterator-loop-pos g).can_next l.pos-iterator;
      ends : (goal.iterator-loop-pos g).is_finite l.pos-iterator;
      within : AllByRecursion (IsWithin grid.rows grid.columns) l.pos-iterator;
      held : IsWithin grid.rows grid.columns l.held;
      rest : (last : Position) → FoldsTo (HoldsNext takes texts) l.held l.pos-iterator last → HeldLast takes texts (flat l.fn.entities.items grid.rows grid.columns) (last ∷ []);
    }
