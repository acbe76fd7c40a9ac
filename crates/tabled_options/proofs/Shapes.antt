-- What keeps the shape of a table, and so its merged cells inside and apart.
use Rattle.std.proofs.Common.{arith}
use Rattle.tabled_options.proofs.Common.{[], ◌∷◌, ◌≡◌, Change, DoesFirstWrites, DoesWrites, Fits, Grid, List, OptionKeeps, SpanMap, Write, common_steps, map_grid, refl, take, with_cell, with_writes, ℕ}
use Rattle.tabled_options.specs.Shapes.{KeepsShape}

pub fits_kept : {A : Type 0} (does leaves : Change A SpanMap) → KeepsShape does → KeepsShape leaves → OptionKeeps (λ (g : Grid A) (c : SpanMap). Fits c g.rows g.columns) does leaves
fits_kept does leaves done refused = grind (arith, common_steps)

-- writes keep the shape
pub record SameShape (old new : Grid (List ℕ)) : Type 0 where
  pub rows : new.rows ≡ old.rows
  pub columns : new.columns ≡ old.columns

pub shape_written : (writes : List Write) (g : Grid (List ℕ)) → SameShape g (with_writes writes g)
shape_written [] g = record { rows = refl; columns = refl }
shape_written (w ∷ writes) g = let rest = shape_written writes (with_cell g w.place w.text) in record { rows = rest.rows; columns = rest.columns }

-- cells whose texts are written have the shape as it was
pub shape_texts : {A C : Type 0} (text_of : A → List ℕ) (writes : List Write) (old new : Grid A) (cfg new_cfg : C) → map_grid text_of new ≡ with_writes writes (map_grid text_of old) → new_cfg ≡ cfg → (new.rows ≡ old.rows) × (new.columns ≡ old.columns) × (new_cfg ≡ cfg)
shape_texts text_of writes old new cfg new_cfg is same = grind (arith, common_steps, shape_written)

-- writes of texts
pub writes_keep : {A : Type 0} (text_of : A → List ℕ) (writes : Grid (List ℕ) → List Write) → OptionKeeps (λ (g : Grid A) (c : SpanMap). Fits c g.rows g.columns) (DoesWrites text_of writes) (DoesFirstWrites text_of writes)
writes_keep text_of writes = fits_kept _ _
    (record { each = λ old cfg new new_cfg w. shape_texts text_of (writes (map_grid text_of old)) old new cfg new_cfg w.0 w.1 })
    (record { each = λ old cfg new new_cfg w. shape_texts text_of (take w.0.count (writes (map_grid text_of old))) old new cfg new_cfg w.0.is w.1 })
