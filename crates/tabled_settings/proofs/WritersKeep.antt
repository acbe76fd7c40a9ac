-- Options that write texts keep merged cells inside the table and apart.
use Rattle.tabled_settings.proofs.Common.{[], ◌≡◌, Asking, Duplicates, DuplicatesFirst, Entity, Fits, Grid, List, OptionKeeps, Rewrites, RewritesBefore, SpanMap, ap, dup_writes, fits_kept, inl, inr, map_grid, shape_texts, take, ℕ}

module _ {A : Type 0} (text_of : A → List ℕ) where
  abbrev FitsIn : Grid A → SpanMap → Type 0
  FitsIn g m = Fits m g.rows g.columns

  pub rewrites_keep : {S : Type 0} (asks : Asking S) (first : S) (e : Entity) → OptionKeeps FitsIn (Rewrites text_of asks first e) (RewritesBefore text_of asks first e)
  rewrites_keep asks first e = fits_kept _ _
      (record { each = λ old cfg new new_cfg w. shape_texts text_of w.0.writes old new cfg new_cfg w.0.is w.1 })
      (record { each = λ old cfg new new_cfg w. shape_texts text_of w.0.before.writes old new cfg new_cfg w.0.before.is w.1 })

  pub duplicates_keep : (destination source : Grid A → List Entity → Type 0) → OptionKeeps FitsIn (Duplicates text_of destination source) (DuplicatesFirst text_of destination source)
  duplicates_keep destination source = fits_kept _ _
      (record { each = λ old cfg new new_cfg w. shape_texts text_of (dup_writes w.0 w.1 (map_grid text_of old)) old new cfg new_cfg w.4.0 w.4.1 })
      (record { each = λ old cfg new new_cfg w. left old cfg new new_cfg w })
    where
      left : (old : Grid A) (cfg : SpanMap) (new : Grid A) (new_cfg : SpanMap) → DuplicatesFirst text_of destination source old cfg new new_cfg → (new.rows ≡ old.rows) × (new.columns ≡ old.columns) × (new_cfg ≡ cfg)
      left old cfg new new_cfg (inl (is, same)) = shape_texts text_of [] old new cfg new_cfg (ap (map_grid text_of) is) same
      left old cfg new new_cfg (inr (sources, targets, from, to, first)) = shape_texts text_of (take first.0.count (dup_writes sources targets (map_grid text_of old))) old new cfg new_cfg first.0.is first.1
