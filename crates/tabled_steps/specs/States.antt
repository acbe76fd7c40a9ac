-- The texts of a table and its merged cells, and what steps make of them.
use Rattle.std.specs.Prelude.{◌≡◌, ◌<◌, ◌≤◌, ℕ, suc, ◌-◌, ℤ, if◌then◌else◌, Bool, List, [], ◌∷◌, ◌++◌, length, replicate, Option, take}
use Rattle.std.specs.List.{fold}
use Rattle.tabled_carry.specs.Images.{carried}
use Rattle.tabled_grid.specs.Grid.{Grid, map_grid}
use Rattle.tabled_grid.specs.Spans.{SpanMap, with_sizes}
use Rattle.tabled_grid.specs.declared.config.entity.Entity.{Entity}
use Rattle.tabled_grid.specs.declared.config.entity.Entity.TheVariants.{Global}
use Rattle.tabled_grid.specs.declared.records.axis.Axis.{Axis}
use Rattle.tabled_options.specs.Does.{Change, Each, EachUntilAt}
use Rattle.tabled_options.specs.Writes.{with_writes}
use Rattle.tabled_settings.specs.Charsets.{is_set, recoded}
use Rattle.tabled_settings.specs.Replaced.{replaced_text}
use Rattle.tabled_settings.specs.Truncates.{truncated}
use Rattle.tabled_settings.specs.Dups.{dup_writes}
use Rattle.tabled_settings.specs.Joined.{spans_of_join}
use Rattle.tabled_settings.specs.PiecePlaces.{glued, spans_of_split}
use Rattle.tabled_settings.specs.Pieces.{split}
use Rattle.tabled_settings.specs.Rearranged.{reversed, spans_of_reversal}
use Rattle.tabled_settings.specs.declared.reverse.Reverse.{Reverse}
use Rattle.tabled_settings.specs.declared.split.Display.TheVariants.{Retain}
use Rattle.tabled_settings.specs.declared.split.Split.{Split}
use Rattle.tabled_spans.specs.Panels.{cells_along, has_room, with_line_at, with_panel}
use Rattle.tabled_spans.specs.Spanned.{span_writes, spanned}
use Rattle.tabled_steps.specs.Kinds.{Act, ChangeEach, CutLines, DoBoth, Duplicate, EntityChange, JoinTable, Merge, MergeAll, PutPanel, Rearrange, ReverseLines, Rewrite, RewriteIf, Span, act_of, rewritten, rewritten_if}
use Rattle.tabled_steps.specs.MergedRuns.{runs}
use Rattle.tabled_steps.specs.Reads.{joined_tables, read}
use Rattle.tabled_steps.specs.Rearrangements.{Rearrangement}
use Rattle.tabled_steps.specs.Selected.{Named, named_by}
use Rattle.tabled_steps.specs.Steps.{Does, Leaves}
use Rattle.tabled_steps.specs.declared.step.Step.{Step}
use Rattle.tabled_steps.specs.declared.step.Step.TheVariants as step
use Rattle.tabled_width.specs.Wraps.{wrapped}

-- the texts of a table, and its merged cells
pub record State : Type 0 where
  pub texts : Grid (List ℕ)
  pub spans : SpanMap

-- the state of a store with a grid, and of a map
abbrev pub state_of : {A : Type 0} → (A → List ℕ) → Grid A → SpanMap → State
state_of text_of g c = record { texts = map_grid text_of g; spans = c }

-- what a function makes of each text that an entity names
abbrev pub rewrite : (List ℕ → List ℕ) → State → Entity → State
rewrite f s e = record s { texts = with_writes (rewritten f e s.texts) s.texts }

-- the same, where some texts are written at all
abbrev pub rewrite_if : Bool → (List ℕ → List ℕ) → State → Entity → State
rewrite_if some f s e = record s { texts = with_writes (rewritten_if some f e s.texts) s.texts }

-- a text in each cell that an entity names
abbrev pub set : List ℕ → State → Entity → State
set text = rewrite (λ _. text)

-- the texts that an entity names, recoded
abbrev pub recode : Bool × Option ℕ → State → Entity → State
recode charset = rewrite_if (is_set charset) (recoded charset)

-- the texts that an entity names, wrapped
abbrev pub wrap : ℕ × Bool → State → Entity → State
wrap how = rewrite (wrapped how)

-- the texts that an entity names, cut at a width, with a suffix
abbrev pub truncate : ℕ → List ℕ → State → Entity → State
truncate n suffix = rewrite (truncated n suffix)

-- the texts that an entity names, with a part replaced
abbrev pub replace : List ℕ → List ℕ → State → Entity → State
replace from to = rewrite (replaced_text from to)

-- a span of a size on an entity
abbrev pub span : Axis → ℤ → State → Entity → State
span axis size s e = record { texts = with_writes (span_writes axis size e s.texts) s.texts; spans = spanned axis size e s.texts.rows s.texts.columns s.spans }

-- a change for each entity that is named in the old texts, in order
abbrev pub on_each : (State → Entity → State) → Named → State → State
on_each change named s = fold change s (named s.texts)

-- the texts of a source, written to a destination
abbrev pub duplicate : Named → Named → State → State
duplicate destination source s = record s { texts = with_writes (dup_writes (source s.texts) (destination s.texts) s.texts) s.texts }

-- a panel before a line, where it may stand
abbrev pub put_panel : Axis → ℕ → List ℕ → State → State
put_panel axis line text s = if has_room axis line s.texts s.spans then record { texts = with_line_at axis line (text ∷ replicate (cells_along axis s.texts - 1) []) s.texts; spans = with_panel axis line (cells_along axis s.texts) s.spans } else s

-- a rectangle for each run of equal neighbours among the cells of an entity
abbrev pub merge : Axis → State → Entity → State
merge axis s e = record s { spans = with_sizes s.spans (runs axis e s.texts s.spans) }

-- a rectangle for each run of equal neighbours among all cells
abbrev pub merge_all : Axis → State → State
merge_all axis s = merge axis s Global

-- the texts, read through a map of places, and the merged cells, carried along
abbrev pub rearrange : Rearrangement → State → State
rearrange how s = let places = how.places s.texts in record { texts = read places s.texts; spans = carried places s.texts.rows s.texts.columns s.spans }

-- lines in the opposite order, where the limit isn't past the table
abbrev pub reverse : Reverse → State → State
reverse r s = record { texts = read (reversed r.axis r.start r.limit s.texts.rows s.texts.columns) s.texts; spans = spans_of_reversal r s.texts.rows s.texts.columns s.spans }

-- rows or columns cut into pieces
abbrev pub cut_lines : Split → State → State
cut_lines how s = record { texts = split how s.texts; spans = spans_of_split how s.texts s.spans }

-- a second table joined to the texts
abbrev pub join : Axis → Grid (List ℕ) → List ℕ → State → State
join axis second default s = record { texts = joined_tables axis second default s.texts; spans = spans_of_join axis second s.texts.rows s.texts.columns s.spans }

-- the state of an entity's cells after a change
abbrev pub after_change : EntityChange → State → Entity → State
after_change (Rewrite f) = rewrite f
after_change (RewriteIf some f) = rewrite_if some f
after_change (Span axis size) = span axis size
after_change (Merge axis) = merge axis

-- the state after an act
abbrev pub after_act : Act → State → State
after_act (ChangeEach change select) = on_each (after_change change) (named_by select)
after_act (Duplicate destination source) = duplicate (named_by destination) (named_by source)
after_act (PutPanel axis line text) = λ s. put_panel axis (line s.texts) text s
after_act (MergeAll axis) = merge_all axis
after_act (Rearrange _ how _) = rearrange how
after_act (ReverseLines how) = reverse how
after_act (CutLines how) = cut_lines how
after_act (JoinTable axis second default) = join axis second default
after_act (DoBoth first second) = λ s. after_act second (after_act first s)

-- the state after a step
abbrev pub after : Step → State → State
after step = after_act (act_of step)

-- the state after steps, in order
abbrev pub after_all : List Step → State → State
after_all [] s = s
after_all (x ∷ xs) s = after_all xs (after x s)

-- the texts and the merged cells become what a formula makes of them
abbrev pub Becomes : {A : Type 0} → (A → List ℕ) → (State → State) → Change A SpanMap
Becomes text_of formula old cfg new new_cfg = state_of text_of new new_cfg ≡ formula (state_of text_of old cfg)

-- steps on stores of two kinds make equal texts and merged cells of equal ones
abbrev pub EndAlike : {A B : Type 0} → (A → Type 0) → (A → List ℕ) → (B → Type 0) → (B → List ℕ) → List Step → Type 0
EndAlike {A} {B} is_blank text_of other_is_blank other_text_of steps =
    (old : Grid A) (cfg : SpanMap) (new : Grid A) (new_cfg : SpanMap) (other : Grid B) (other_cfg : SpanMap) (other_new : Grid B) (other_new_cfg : SpanMap)
    → Each (Does is_blank text_of) steps old cfg new new_cfg → Each (Does other_is_blank other_text_of) steps other other_cfg other_new other_new_cfg
    → state_of text_of old cfg ≡ state_of other_text_of other other_cfg → state_of text_of new new_cfg ≡ state_of other_text_of other_new other_new_cfg

-- a table with a row and a column is the pieces of its split glued together, where all were kept
pub record IsUndone (how : Split) (old new : State) : Type 0 where
  pub glued : how.display ≡ Retain → 0 < how.index → 0 < old.texts.rows → 0 < old.texts.columns → glued how (old.texts.rows) (old.texts.columns) new.texts ≡ old.texts

-- the steps of which a step is made, in order
abbrev pub parts : Step → List Step
parts (step.Both' _ first _ second) = parts first ++ parts second
parts x = x ∷ []

-- steps, with each that is two taken apart
abbrev pub flattened : List Step → List Step
flattened [] = []
flattened (x ∷ xs) = parts x ++ flattened xs

-- a split is undone by gluing where it is made, and the steps after it lead on from there
pub record IsUndoneMidway (how : Split) (old : State) (rest : List Step) (new : State) : Type 0 where
  pub split : State
  pub is : split ≡ after (step.Split how) old
  pub undone : IsUndone how old split
  pub leads : new ≡ after_all rest split

-- each split among steps that lead from a state to another is undone by gluing where it is made
abbrev pub AreUndone : List Step → State → State → Type 0
AreUndone steps old new = (first rest : List Step) (split : Split) → steps ≡ first ++ step.Split split ∷ rest → IsUndoneMidway split (after_all first old) rest new

-- each split among steps that lead from one table to another is undone by gluing where it is made
abbrev pub SplitsAreUndone : {A : Type 0} → (A → List ℕ) → List Step → Change A SpanMap
SplitsAreUndone text_of steps old cfg new new_cfg = AreUndone (flattened steps) (state_of text_of old cfg) (state_of text_of new new_cfg)

-- step k is refused in one of its parts, the parts before that one are done, and each split among these is undone by gluing where it is made
pub record SplitsAreUndoneBefore {A : Type 0} (is_blank : A → Type 0) (text_of : A → List ℕ) (steps : List Step) (k : ℕ) (old : Grid A) (cfg : SpanMap) (new : Grid A) (new_cfg : SpanMap) : Type 0 where
  pub part : ℕ
  pub not_before : length (flattened (take k steps)) ≤ part
  pub within : part < length (flattened (take (suc k) steps))
  pub refused : EachUntilAt (Does is_blank text_of) (Leaves is_blank text_of) (flattened steps) part old cfg new new_cfg
  pub undone : AreUndone (take part (flattened steps)) (state_of text_of old cfg) (state_of text_of refused.grid refused.configuration)
