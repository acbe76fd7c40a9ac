use Rattle.tabled_testing.proofs.tables.filled.Given as goal

abbrev pub invariant-loop-pos : goal.invariant-loop-pos
invariant-loop-pos g l =
    record {
      can : (goal.iterator-loop-pos g).can_next l.pos-iterator;
      ends : (goal.iterator-loop-pos g).is_finite l.pos-iterator;
      well : g.R.GridStore.is_well_formed l.records;
    }
