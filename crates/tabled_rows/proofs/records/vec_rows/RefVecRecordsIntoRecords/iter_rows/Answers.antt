use Rattle.tabled_rows.proofs.Common.{YieldsFirstRef, ap, drop, length, refl}
use Rattle.tabled_rows.specs.declared.records.vec_rows.VecRows.{VecRows}
use Rattle.tabled_rows.proofs.Listed.{gives-shown, gives-slice}
use Rattle.tabled_rows.proofs.records.vec_rows.RefVecRecordsIntoRecords.iter_rows.Goals as goal

pub returns-clause-given : goal.returns-clause-given
returns-clause-given g c = λ rows is iter same. rw same (record {
  can = tt;
  ends = tt;
  gives = rw is (gives-shown (YieldsFirstRef (λ (s : VecRows _). drop s.row s.records.now.grid.cells)) _ (λ s. drop s.row s.records.now.grid.cells) (λ row. row.now) (λ row it from. record {
    can = tt;
    ends = tt;
    gives = rw (← from.0) (gives-slice _ (λ x. refl) it);
  }) (λ s t p. ap length p.0) (λ s t x p. p) (record { records = c.args.self; row = 0 }));
})
