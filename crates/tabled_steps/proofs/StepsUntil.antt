-- The first of several steps is refused, or is done and a later one is refused.
use Rattle.tabled_steps.proofs.Common.{[], ◌∷◌, ◌≡◌, Change, EachUntilAt, Grid, List, arith, length, refl, suc, zero, ℕ}

module _ {A C X : Type 0} (does leaves : X → Change A C) (x : X) (xs : List X) (old : Grid A) (cfg : C) where
  pub first_refused : (new : Grid A) (new_cfg : C) → leaves x old cfg new new_cfg → EachUntilAt does leaves (x ∷ xs) zero old cfg new new_cfg
  first_refused new new_cfg left = record { item = x; is = refl; grid = old; configuration = cfg; before = (refl, refl); left = left }

  pub later_refused : (between : Grid A) (between_cfg : C) (n : ℕ) (new : Grid A) (new_cfg : C) → does x old cfg between between_cfg → EachUntilAt does leaves xs n between between_cfg new new_cfg → EachUntilAt does leaves (x ∷ xs) (suc n) old cfg new new_cfg
  later_refused between between_cfg n new new_cfg done at = record { item = at.item; is = at.is; grid = at.grid; configuration = at.configuration; before = (between, between_cfg, done, at.before); left = at.left }

-- a list of no length
pub none_left : {A : Type 0} (xs : List A) → length xs ≡ 0 → xs ≡ []
none_left [] h = refl
none_left (x ∷ xs) h = absurd (omega (arith, h))
