-- A step does and leaves what its option does and leaves.
use Rattle.tabled_steps.proofs.Common.{◌≡◌, Axis, Change, Does, Duplicates, DuplicatesFirst, Entity, Grid, Keeps, Leaves, List, Rearranges, Removes, Same, SpanMap, Step, Then, ThenLeaves, extracted, half_open, inl, inr, kept, refl, removed, ℕ}
use Rattle.std.specs.declared.ops.Bound.{Bound}
use Rattle.tabled_steps.specs.Acts.{ActsAs, ListTheSame, Makes}
use Rattle.tabled_steps.specs.declared.step.Step.TheVariants as step

pub acts : {A : Type 0} (is_blank : A → Type 0) (text_of : A → List ℕ) (step : Step) → ActsAs is_blank text_of step (Does is_blank text_of step) (Leaves is_blank text_of step)
acts is_blank text_of step = record { done = λ old cfg new new_cfg. ((λ x. x), λ x. x); refused = λ old cfg new new_cfg. ((λ x. x), λ x. x) }

-- ranges of the bounds of a step keep what the step keeps
pub extracts : {A : Type 0} (is_blank : A → Type 0) (text_of : A → List ℕ) (a b m n : ℕ) (rows columns : Bound ℕ × Bound ℕ) → rows ≡ half_open a b → columns ≡ half_open m n → ActsAs is_blank text_of (step.Extract a b m n) (λ g. Rearranges (extracted rows columns g.rows g.columns) g) Same
extracts is_blank text_of a b m n rows columns of_rows of_columns = rw (of_rows, of_columns) (acts is_blank text_of (step.Extract a b m n))

module _ {A C : Type 0} where
  pub then_makes : (first second other_first other_second : Change A C) → Makes first other_first → Makes second other_second → Makes (Then first second) (Then other_first other_second)
  then_makes first second other_first other_second one two old cfg new new_cfg (between, between_cfg, did, then) = (between, between_cfg, one old cfg between between_cfg did, two between between_cfg new new_cfg then)

  pub then_leaves : (first left second other_first other_left other_second : Change A C) → Makes first other_first → Makes left other_left → Makes second other_second → Makes (ThenLeaves first left second) (ThenLeaves other_first other_left other_second)
  then_leaves first left second other_first other_left other_second one leaves two old cfg new new_cfg (inl at_once) = inl (leaves old cfg new new_cfg at_once)
  then_leaves first left second other_first other_left other_second one leaves two old cfg new new_cfg (inr later) = inr (then_makes first second other_first other_second one two old cfg new new_cfg later)

-- objects that list the same are duplicated alike
module _ {A C : Type 0} (text_of : A → List ℕ) (destination source other_destination other_source : Grid A → List Entity → Type 0) (to : (g : Grid A) (items : List Entity) → destination g items → other_destination g items) (from : (g : Grid A) (items : List Entity) → source g items → other_source g items) where
  pub duplicates : Makes (Duplicates {C = C} text_of destination source) (Duplicates text_of other_destination other_source)
  duplicates old cfg new new_cfg (sources, targets, of, on, writes) = (sources, targets, from old sources of, to old targets on, writes)

  pub duplicates_first : Makes (DuplicatesFirst {C = C} text_of destination source) (DuplicatesFirst text_of other_destination other_source)
  duplicates_first old cfg new new_cfg (inl same) = inl same
  duplicates_first old cfg new new_cfg (inr (sources, targets, of, on, writes)) = inr (sources, targets, from old sources of, to old targets on, writes)

-- lines that a location finds, and the lines themselves, are taken away alike, and kept alike
module _ {A : Type 0} (axis : Axis) (locates : Grid A → List ℕ → Type 0) (found : Grid A → List ℕ) (alike : ListTheSame locates (λ g lines. lines ≡ found g)) (old : Grid A) (cfg : SpanMap) (new : Grid A) (new_cfg : SpanMap) where
  pub finds_removed : Rearranges (removed axis (found old) old.rows old.columns) old cfg new new_cfg → Removes axis locates old cfg new new_cfg
  finds_removed does = record { found = found old; located = (alike old (found old)).1 refl; rearranged = does }

  pub removed_found : Removes axis locates old cfg new new_cfg → Rearranges (removed axis (found old) old.rows old.columns) old cfg new new_cfg
  removed_found does = rw (← (alike old does.found).0 does.located) does.rearranged

  pub finds_kept : Rearranges (kept axis (found old) old.rows old.columns) old cfg new new_cfg → Keeps axis locates old cfg new new_cfg
  finds_kept does = record { found = found old; located = (alike old (found old)).1 refl; rearranged = does }

  pub kept_found : Keeps axis locates old cfg new new_cfg → Rearranges (kept axis (found old) old.rows old.columns) old cfg new new_cfg
  kept_found does = rw (← (alike old does.found).0 does.located) does.rearranged
