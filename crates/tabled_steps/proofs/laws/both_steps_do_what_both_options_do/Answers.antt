use Rattle.tabled_steps.proofs.Acts.{then_leaves, then_makes}
use Rattle.tabled_steps.proofs.laws.both_steps_do_what_both_options_do.Goals as goal

pub returns : goal.returns
returns g c = λ p first q second one two. record {
  done = λ old cfg new new_cfg. (
    then_makes _ _ _ _ (λ old cfg new new_cfg. (one.done old cfg new new_cfg).0) (λ old cfg new new_cfg. (two.done old cfg new new_cfg).0) old cfg new new_cfg,
    then_makes _ _ _ _ (λ old cfg new new_cfg. (one.done old cfg new new_cfg).1) (λ old cfg new new_cfg. (two.done old cfg new new_cfg).1) old cfg new new_cfg,
  );
  refused = λ old cfg new new_cfg. (
    then_leaves _ _ _ _ _ _ (λ old cfg new new_cfg. (one.done old cfg new new_cfg).0) (λ old cfg new new_cfg. (one.refused old cfg new new_cfg).0) (λ old cfg new new_cfg. (two.refused old cfg new new_cfg).0) old cfg new new_cfg,
    then_leaves _ _ _ _ _ _ (λ old cfg new new_cfg. (one.done old cfg new new_cfg).1) (λ old cfg new new_cfg. (one.refused old cfg new new_cfg).1) (λ old cfg new new_cfg. (two.refused old cfg new new_cfg).1) old cfg new new_cfg,
  );
}
