-- What is left where the change for one of several items is refused.
use Rattle.tabled_options.proofs.Common.{◌∷◌, Change, EachUntil, Grid, List, refl, suc, zero}

module _ {A C X : Type 0} (does leaves : X → Change A C) (x : X) (xs : List X) (old : Grid A) (cfg : C) where
  -- the first one is refused
  pub until_first : (new : Grid A) (new_cfg : C) → leaves x old cfg new new_cfg → EachUntil does leaves (x ∷ xs) old cfg new new_cfg
  until_first new new_cfg left = (zero, record { item = x; is = refl; grid = old; configuration = cfg; before = (refl, refl); left = left })

  -- the first one is done, and one of the others is refused
  pub until_next : (between : Grid A) (cfg_between : C) (new : Grid A) (new_cfg : C) → does x old cfg between cfg_between → EachUntil does leaves xs between cfg_between new new_cfg → EachUntil does leaves (x ∷ xs) old cfg new new_cfg
  until_next between cfg_between new new_cfg done until =
      let at = until.1 in
      (suc until.0, record { item = at.item; is = at.is; grid = at.grid; configuration = at.configuration; before = (between, cfg_between, done, at.before); left = at.left })
