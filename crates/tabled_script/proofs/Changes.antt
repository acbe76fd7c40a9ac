-- Steps as changes of a state.
use Rattle.tabled_script.proofs.Common.{[], ◌∷◌, ◌≡◌, List, State, after, after_all, changed, map, refl}
use Rattle.tabled_steps.specs.declared.step.Step.{Step}

-- what steps do is what each does, one after another
pub after_all-changed : (steps : List Step) (s : State) → after_all steps s ≡ changed (map after steps) s
after_all-changed [] s = refl
after_all-changed (step ∷ steps) s = after_all-changed steps (after step s)
