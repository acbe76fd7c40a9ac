-- Steps that keep merged cells inside the table and apart.
use Rattle.tabled_steps.proofs.Common.{[], ◌∷◌, AllByRecursion, Axis, Change, Does, Each, EachListed, EachUntil, Entity, Fits, Grid, Leaves, LeavesFirst, List, Merges, Names, OptionKeeps, Refused, Same, Select, SpanMap, Step, map_grid, writes_keep, ℕ}
use Rattle.tabled_grid.specs.declared.config.entity.Entity.TheVariants.{Global}
use Rattle.tabled_options.proofs.Keeps.{keeps_all, keeps_copied, keeps_in_order, keeps_listed}
use Rattle.tabled_settings.proofs.RearrangedFits.{join_keeps, rearranged_keeps, reversal_keeps, split_keeps}
use Rattle.tabled_settings.proofs.WritersKeep.{duplicates_keep}
use Rattle.tabled_spans.proofs.MergeGeometry.{fits_merged}
use Rattle.tabled_spans.proofs.PanelGeometry.{panels_fit, same_fits}
use Rattle.tabled_spans.proofs.SpanGeometry.{fits_spanned, option_keeps}
use Rattle.tabled_steps.specs.Fitting.{ActKeepsCellsFitting, KeepsCellsFitting}
use Rattle.tabled_steps.specs.Kinds.{Act, ChangeEach, CutLines, DoBoth, Duplicate, EntityChange, JoinTable, Merge, MergeAll, PutPanel, Rearrange, ReverseLines, Rewrite, RewriteIf, Span, act_of, rewritten, rewritten_if}
use Rattle.tabled_steps.specs.Steps.{ActDoes, ActLeaves, ChangeDoes, ChangeLeaves}

module _ {A : Type 0} (is_blank : A → Type 0) (text_of : A → List ℕ) where
  abbrev fitting : Grid A → SpanMap → Type 0
  fitting g c = Fits c g.rows g.columns

  -- an option on each entity that a selector names
  on_entities : (select : Select) (does leaves : Entity → Change A SpanMap) → ((e : Entity) → OptionKeeps fitting (does e) (leaves e)) → OptionKeeps fitting (EachListed (Names text_of select) does) (LeavesFirst text_of select does leaves)
  on_entities select does leaves keeps = keeps_copied fitting _ _ (keeps_listed fitting does _ (Names text_of select) (λ e. keeps_copied fitting (does e) (leaves e) (keeps e)))

  merges : (axis : Axis) (e : Entity) → OptionKeeps fitting (Merges text_of axis e) Same
  merges axis e = record { done = λ g m h n fits does. rw does.0 (fits_merged axis e (map_grid text_of g) m n does.1 fits); refused = same_fits }

  change_keeps : (change : EntityChange) (e : Entity) (select : Select) → ActKeepsCellsFitting (ChangeEach change select) → OptionKeeps fitting (ChangeDoes text_of change e) (ChangeLeaves text_of change e)
  change_keeps (Rewrite f) e select _ = writes_keep text_of (rewritten f e)
  change_keeps (RewriteIf some f) e select _ = writes_keep text_of (rewritten_if some f e)
  change_keeps (Span axis size) e select positive = option_keeps text_of axis size e Fits (fits_spanned axis size e positive)
  change_keeps (Merge axis) e select _ = merges axis e

  act_keeps : (act : Act) → ActKeepsCellsFitting act → OptionKeeps fitting (ActDoes is_blank text_of act) (ActLeaves is_blank text_of act)
  act_keeps (ChangeEach change select) keeps = on_entities select (ChangeDoes text_of change) (ChangeLeaves text_of change) (λ e. change_keeps change e select keeps)
  act_keeps (Duplicate destination source) _ = duplicates_keep text_of (Names text_of destination) (Names text_of source)
  act_keeps (PutPanel axis line text) _ = record { done = λ g m h n fits does. panels_fit is_blank text_of axis (line (map_grid text_of g)) text g m h n fits does; refused = same_fits }
  act_keeps (MergeAll axis) _ = merges axis Global
  act_keeps (Rearrange _ how _) _ = rearranged_keeps (λ g. how.places (map_grid text_of g))
  act_keeps (ReverseLines how) _ = reversal_keeps how
  act_keeps (CutLines how) _ = split_keeps is_blank text_of how
  act_keeps (JoinTable axis second default) _ = join_keeps is_blank text_of axis second default
  act_keeps (DoBoth first second) both = keeps_in_order fitting _ _ _ _ (act_keeps first both.0) (act_keeps second both.1)

  pub step_keeps : (s : Step) → KeepsCellsFitting s → OptionKeeps fitting (Does is_blank text_of s) (Leaves is_blank text_of s)
  step_keeps s = act_keeps (act_of s)

  refused_keeps : (steps : List Step) → AllByRecursion KeepsCellsFitting steps → AllByRecursion (λ s. OptionKeeps fitting (Does is_blank text_of s) (Refused is_blank text_of s)) steps
  refused_keeps [] all = tt
  refused_keeps (s ∷ steps) all = (let keeps = step_keeps s all.0 in record { done = keeps.done; refused = λ old cfg new new_cfg fits left. keeps.refused old cfg new new_cfg fits left.0 }, refused_keeps steps all.1)

  pub steps_keep : (steps : List Step) → AllByRecursion KeepsCellsFitting steps → OptionKeeps fitting (Each (Does is_blank text_of) steps) (EachUntil (Does is_blank text_of) (Refused is_blank text_of) steps)
  steps_keep steps all = keeps_all fitting (Does is_blank text_of) (Refused is_blank text_of) steps (refused_keeps steps all)
