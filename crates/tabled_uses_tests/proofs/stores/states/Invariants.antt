use Rattle.tabled_uses_tests.proofs.stores.states.Given as goal

abbrev pub invariant-loop-change : goal.invariant-loop-change
invariant-loop-change g l = g.R.GridStore.is_well_formed l.lent
