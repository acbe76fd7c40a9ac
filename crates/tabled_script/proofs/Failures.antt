-- Why tables aren't written.
use Rattle.std.specs.Prelude.{IfErr, IsErrAnd}
use Rattle.std.proofs.lemmas.Result.{err_from_is_err_and}
use Rattle.tabled_script.proofs.Common.{◌≡◌, Err, List, Ok, Option, Result, refl, ℕ}
use Rattle.tabled_script.specs.Outcome.{Fails, OnlyFails}
use Rattle.tabled_script.specs.declared.json_form.EqualKeys.{EqualKeys as Keys}
use Rattle.tabled_script.specs.declared.outcome.Unwritten.{Unwritten}
use Rattle.tabled_script.specs.declared.outcome.Unwritten.TheVariants.{EqualKeys, Failed, Faulty, OutOfMemory, TooNarrow}
use Rattle.tabled_script.specs.declared.picture.TooNarrow.{TooNarrow as Narrow}

module _ {U : Type 0} (of_narrow : Narrow → Type 0) (of_keys : Keys → Type 0) where
  -- memory was refused before the first byte
  pub memory_fails : (old : Option (List ℕ)) (r : Result U Unwritten) → IsErrAnd r (λ e. e ≡ OutOfMemory) → IfErr r (Fails of_narrow of_keys old old)
  memory_fails old r is = (let p = err_from_is_err_and r is in rw (p.1, p.2) refl)

  -- what says why no table is written says it of each
  pub only_fails : (old new : Option (List ℕ)) (r : Result U Unwritten) → IfErr r (OnlyFails old new) → IfErr r (Fails of_narrow of_keys old new)
  only_fails old new (Ok u) fails = tt
  only_fails old new (Err (Faulty line fault)) fails = absurd fails
  only_fails old new (Err (TooNarrow narrow)) fails = absurd fails.0
  only_fails old new (Err (EqualKeys keys)) fails = absurd fails.0
  only_fails old new (Err OutOfMemory) fails = fails
  only_fails old new (Err Failed) fails = tt
