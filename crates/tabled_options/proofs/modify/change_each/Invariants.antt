use Rattle.tabled_options.proofs.Common.{AlwaysYields, Each, EachUntil, Entity, List, SameOr}
use Rattle.tabled_options.proofs.modify.change_each.Given as goal

abbrev pub invariant-loop-entity : goal.invariant-loop-entity
invariant-loop-entity g l =
    let m = g.M.CellOption in
    let grid = g.R.GridStore.grid in
    record {
      can : (goal.iterator-loop-entity g).can_next l.entities;
      ends : (goal.iterator-loop-entity g).is_finite l.entities;
      well : g.R.GridStore.is_well_formed l.records;
      lasts : (all : List Entity) → AlwaysYields g.I.Iterator.next_gives (λ (e : Entity). e) l.fn.entities all → (rest : List Entity)
          × AlwaysYields g.I.Iterator.next_gives (λ (e : Entity). e) l.entities rest
          × ((h : _) (d : _) → Each (m.does l.fn.option) rest (grid l.records) l.cfg h d → Each (m.does l.fn.option) all (grid l.fn.records) l.fn.cfg h d)
          × ((h : _) (d : _) → EachUntil (m.does l.fn.option) (λ e. SameOr (m.leaves l.fn.option e)) rest (grid l.records) l.cfg h d → EachUntil (m.does l.fn.option) (λ e. SameOr (m.leaves l.fn.option e)) all (grid l.fn.records) l.fn.cfg h d);
    }
