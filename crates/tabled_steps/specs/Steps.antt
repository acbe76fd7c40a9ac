-- What steps do to the cells and the merged cells of a table, and what they leave where memory is refused.
use Rattle.std.specs.Prelude.{◌≡◌, ◌⊎◌, ℕ, false, IsSomeAnd, List, []}
use Rattle.tabled_grid.specs.Entity.{inside}
use Rattle.tabled_grid.specs.Fitting.{Fits}
use Rattle.tabled_grid.specs.Grid.{Grid, map_grid}
use Rattle.tabled_grid.specs.Spans.{SpanMap}
use Rattle.tabled_grid.specs.declared.config.entity.Entity.{Entity}
use Rattle.tabled_grid.specs.declared.config.entity.Entity.TheVariants.{Global}
use Rattle.tabled_options.specs.Does.{AfterNeverRefused, Change, EachListed, EachListedUntil, EachUntilAt, Same, SameOr, Then, ThenLeaves}
use Rattle.tabled_options.specs.Writes.{DoesFirstWrites, DoesWrites}
use Rattle.tabled_settings.specs.Dups.{Duplicates, DuplicatesFirst}
use Rattle.tabled_settings.specs.Joined.{JoinsTables}
use Rattle.tabled_settings.specs.PiecePlaces.{SplitsTable}
use Rattle.tabled_settings.specs.Pieces.{has_pieces}
use Rattle.tabled_settings.specs.Rearranged.{Rearranges, ReversesTable, reverses}
use Rattle.tabled_spans.specs.Panels.{Panels, has_room}
use Rattle.tabled_spans.specs.Runs.{Merges, NamesNoNeighbours}
use Rattle.tabled_spans.specs.Spanned.{SpanTakesNoMemory, Spans, SpansFirst}
use Rattle.tabled_steps.specs.Kinds.{Act, ChangeEach, CutLines, DoBoth, Duplicate, EntityChange, JoinTable, Merge, MergeAll, PutPanel, Rearrange, ReverseLines, Rewrite, RewriteIf, Span, act_of, rewritten, rewritten_if}
use Rattle.tabled_steps.specs.Selected.{selected, single}
use Rattle.tabled_steps.specs.declared.select.Select.{Select}
use Rattle.tabled_steps.specs.declared.step.Step.{Step}

module _ {A : Type 0} (text_of : A → List ℕ) where
  -- these are the entities that a selector names in a table
  abbrev pub Names : Select → Grid A → List Entity → Type 0
  Names select g entities = entities ≡ selected (map_grid text_of g) select

  -- nothing, or the changes for the entities that a selector names before one, and what the refused change for that one leaves
  abbrev pub LeavesFirst : Select → (Entity → Change A SpanMap) → (Entity → Change A SpanMap) → Change A SpanMap
  LeavesFirst select does leaves = SameOr (EachListedUntil (Names select) does (λ e. SameOr (leaves e)))

  -- what a change does on an entity
  abbrev pub ChangeDoes : EntityChange → Entity → Change A SpanMap
  ChangeDoes (Rewrite f) = λ e. DoesWrites text_of (rewritten f e)
  ChangeDoes (RewriteIf some f) = λ e. DoesWrites text_of (rewritten_if some f e)
  ChangeDoes (Span axis size) = Spans text_of axis size
  ChangeDoes (Merge axis) = Merges text_of axis

  -- what it leaves where it is refused
  abbrev pub ChangeLeaves : EntityChange → Entity → Change A SpanMap
  ChangeLeaves (Rewrite f) = λ e. DoesFirstWrites text_of (rewritten f e)
  ChangeLeaves (RewriteIf some f) = λ e. DoesFirstWrites text_of (rewritten_if some f e)
  ChangeLeaves (Span axis size) = SpansFirst text_of axis size
  ChangeLeaves (Merge axis) = λ _. Same

-- a change takes no memory on an entity, and so is not refused
abbrev pub ChangeTakesNoMemory : {A : Type 0} → EntityChange → Grid A → Entity → Type 0
ChangeTakesNoMemory (Rewrite _) g = λ e. inside e g.rows g.columns ≡ []
ChangeTakesNoMemory (RewriteIf some _) g = λ e. (some ≡ false) ⊎ (inside e g.rows g.columns ≡ [])
ChangeTakesNoMemory (Span axis size) g = λ e. SpanTakesNoMemory size e g.rows g.columns
ChangeTakesNoMemory (Merge axis) g = λ e. NamesNoNeighbours axis e g

module _ {A : Type 0} (is_blank : A → Type 0) (text_of : A → List ℕ) where
  -- what an act does
  abbrev pub ActDoes : Act → Change A SpanMap
  ActDoes (ChangeEach change select) = EachListed (Names text_of select) (ChangeDoes text_of change)
  ActDoes (Duplicate destination source) = Duplicates text_of (Names text_of destination) (Names text_of source)
  ActDoes (PutPanel axis line text) = λ old. Panels is_blank text_of axis (line (map_grid text_of old)) text old
  ActDoes (MergeAll axis) = Merges text_of axis Global
  ActDoes (Rearrange _ how _) = λ old. Rearranges (how.places (map_grid text_of old)) old
  ActDoes (ReverseLines how) = ReversesTable how
  ActDoes (CutLines how) = SplitsTable is_blank text_of how
  ActDoes (JoinTable axis second default) = JoinsTables is_blank text_of axis second default
  ActDoes (DoBoth first second) = Then (ActDoes first) (ActDoes second)

  -- what a refused one leaves
  abbrev pub ActLeaves : Act → Change A SpanMap
  ActLeaves (ChangeEach change select) = LeavesFirst text_of select (ChangeDoes text_of change) (ChangeLeaves text_of change)
  ActLeaves (Duplicate destination source) = DuplicatesFirst text_of (Names text_of destination) (Names text_of source)
  ActLeaves (DoBoth first second) = ThenLeaves (ActDoes first) (ActLeaves first) (ActLeaves second)
  ActLeaves _ = Same

  -- an act takes no memory on a table: with a selector, on a single entity
  abbrev pub ActTakesNoMemory : Act → Grid A → SpanMap → Type 0
  ActTakesNoMemory (ChangeEach change select) old cfg = IsSomeAnd (single select) (ChangeTakesNoMemory change old)
  ActTakesNoMemory (PutPanel axis line _) old cfg = has_room axis (line (map_grid text_of old)) old cfg ≡ false
  ActTakesNoMemory (Rearrange _ _ takes_none) old cfg = takes_none (map_grid text_of old) cfg
  ActTakesNoMemory (ReverseLines how) old cfg = (reverses how.axis how.start how.limit old.rows old.columns ≡ false) ⊎ Fits cfg old.rows old.columns
  ActTakesNoMemory (CutLines how) old cfg = has_pieces how old.rows old.columns ≡ false
  ActTakesNoMemory (DoBoth first second) old cfg = ActTakesNoMemory first old cfg × AfterNeverRefused (ActDoes first) (ActTakesNoMemory second) old cfg
  ActTakesNoMemory _ old cfg = ⊥

  -- what a step does
  abbrev pub Does : Step → Change A SpanMap
  Does step = ActDoes (act_of step)

  -- what a refused step leaves
  abbrev pub Leaves : Step → Change A SpanMap
  Leaves step = ActLeaves (act_of step)

  -- a step that takes no memory on a table, and so is not refused
  abbrev pub TakesNoMemory : Step → Grid A → SpanMap → Type 0
  TakesNoMemory step = ActTakesNoMemory (act_of step)

  -- a step that takes memory is refused, and leaves what it leaves
  abbrev pub Refused : Step → Change A SpanMap
  Refused step old cfg new new_cfg = Leaves step old cfg new new_cfg × (TakesNoMemory step old cfg → ⊥)

  -- the steps before step k are done, and that one is refused
  abbrev pub RefusedAt : List Step → ℕ → Change A SpanMap
  RefusedAt = EachUntilAt Does Refused
