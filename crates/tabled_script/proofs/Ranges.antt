-- Tests of the numbers from one on.
use Rattle.std.proofs.lemmas.Bool.{cases_Bool}
use Rattle.std.specs.List.{list_any, range_with_len}
use Rattle.std.specs.Prelude.{Bool, true, zero}
use Rattle.tabled_script.proofs.Common.{◌+◌, ◌<◌, ◌≡◌, arith, inl, inr, refl, subst, suc, ℕ}

-- one of them passes where a number among them does
pub any_in_range : (test : ℕ → Bool) (n from k : ℕ) → k < n → test (from + k) ≡ true → list_any test (range_with_len from n) ≡ true
any_in_range test zero from k inside passes = absurd (omega (arith, inside))
any_in_range test (suc n) from zero inside passes =
    let here : from + zero ≡ from = omega arith in
    let first : test from ≡ true = subst (λ (i : ℕ). test i ≡ true) here passes in
    rw first refl
any_in_range test (suc n) from (suc k) inside passes =
    let next : from + suc k ≡ (from + 1) + k = omega arith in
    let behind = any_in_range test n (from + 1) k (omega (arith, inside)) (subst (λ (i : ℕ). test i ≡ true) next passes) in
    elim (cases_Bool (test from)) [
      | inl passing ↦ rw passing refl
      | inr failing ↦ rw (failing, behind) refl
    ]
