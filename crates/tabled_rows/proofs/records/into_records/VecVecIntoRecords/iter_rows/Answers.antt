use Rattle.tabled_rows.proofs.Common.{GivesEach, into_iter_steps, map-id, refl, subst}
use Rattle.tabled_rows.proofs.Listed.{gives-vec}
use Rattle.tabled_rows.proofs.records.into_records.VecVecIntoRecords.iter_rows.Goals as goal

pub returns-clause-given : goal.returns-clause-given
returns-clause-given g c = λ rows is iter became. record {
  can = tt;
  ends = tt;
  gives = rw is (gives-vec (λ v. v.items) _ (λ v it from. record {
    can = tt;
    ends = tt;
    gives = subst (GivesEach into_iter_steps _ it) (map-id v.items) (gives-vec (λ x. x) _ (λ x. refl) v it from.0 from.1);
  }) c.args.self iter became.0 became.1);
}
