-- What a step does to a store is what its formula makes of the store's texts and merged cells.
use Rattle.tabled_steps.proofs.Common.{[], ◌&&◌, ◌<◌, ◌∙◌, ◌∷◌, ◌≡◌, ◌≤◌, ◌⊎◌, Axis, Change, Columns, Does, Duplicates, Each, EachListed, Entity, Grid, IsEven-map_grid, JoinsAt, List, Merges, Names, Panels, Position, Rearranges, Rows, Select, Some, SpanMap, State, Step, Write, after, after_all, ap, ap₂, arith, cases_Bool, cases_lt, cell_at, cells_along, cond, corner_of, dup_writes, duplicate, fold, has_room, inl, inr, joined_tables, joined_text, le-ltb, lt-ltb, map, map_grid, merge, named_by, nat_lt, on_each, place, put_panel, rearrange, refl, reversed, rounds, selected, source_texts, state_of, unwrap_or, with_line_at, with_writes, ℕ}
use Rattle.tabled_grid.proofs.Mapped.{map_grid-with_column, map_grid-with_row}
use Rattle.tabled_grid.specs.declared.config.entity.Entity.TheVariants.{Global}
use Rattle.tabled_steps.proofs.MergedRuns.{is_merged}
use Rattle.tabled_steps.specs.Kinds.{Act, ChangeEach, CutLines, DoBoth, Duplicate, EntityChange, JoinTable, Merge, MergeAll, PutPanel, Rearrange, ReverseLines, Rewrite, RewriteIf, Span, act_of}
use Rattle.tabled_steps.specs.Rearrangements.{Rearrangement}
use Rattle.tabled_steps.specs.States.{after_act, after_change}
use Rattle.tabled_steps.specs.Steps.{ActDoes, ChangeDoes}
use Rattle.tabled_steps.proofs.TextReads.{is_table_of, read_through, text_from, some_text, text_known}

abbrev state : Grid (List ℕ) → SpanMap → State
state texts spans = record { texts = texts; spans = spans }

same_state : (g h : Grid (List ℕ)) (c d : SpanMap) → g ≡ h → c ≡ d → state g c ≡ state h d
same_state g h c d = ap₂ state

module _ {A : Type 0} (text_of : A → List ℕ) where
  -- a change for each entity, where one is what a formula says
  each_is : (does : Entity → Change A SpanMap) (change : State → Entity → State)
      → ((e : Entity) (old : Grid A) (cfg : SpanMap) (new : Grid A) (new_cfg : SpanMap) → does e old cfg new new_cfg → state_of text_of new new_cfg ≡ change (state_of text_of old cfg) e)
      → (es : List Entity) (old : Grid A) (cfg : SpanMap) (new : Grid A) (new_cfg : SpanMap) → Each does es old cfg new new_cfg → state_of text_of new new_cfg ≡ fold change (state_of text_of old cfg) es
  each_is does change one [] old cfg new new_cfg same = same_state _ _ _ _ (ap (map_grid text_of) same.0) same.1
  each_is does change one (e ∷ es) old cfg new new_cfg (between, between_cfg, first, rest) = each_is does change one es between between_cfg new new_cfg rest ∙ ap (λ (s : State). fold change s es) (one e old cfg between between_cfg first)

  listed_is : (select : Select) (does : Entity → Change A SpanMap) (change : State → Entity → State)
      → ((e : Entity) (old : Grid A) (cfg : SpanMap) (new : Grid A) (new_cfg : SpanMap) → does e old cfg new new_cfg → state_of text_of new new_cfg ≡ change (state_of text_of old cfg) e)
      → (old : Grid A) (cfg : SpanMap) (new : Grid A) (new_cfg : SpanMap) → EachListed (Names text_of select) does old cfg new new_cfg → state_of text_of new new_cfg ≡ on_each change (named_by select) (state_of text_of old cfg)
  listed_is select does change one old cfg new new_cfg (es, are, each) = each_is does change one es old cfg new new_cfg each ∙ ap (fold change (state_of text_of old cfg)) are

  module _ (old : Grid A) (cfg : SpanMap) (new : Grid A) (new_cfg : SpanMap) where
    duplicated : (destination source : Select) → Duplicates text_of (Names text_of destination) (Names text_of source) old cfg new new_cfg → state_of text_of new new_cfg ≡ duplicate (named_by destination) (named_by source) (state_of text_of old cfg)
    duplicated destination source (sources, targets, named, aimed, does) =
        let texts : Grid (List ℕ) = map_grid text_of old in
        same_state _ _ _ _ (does.0 ∙ ap (λ (ws : List Write). with_writes ws texts) (ap (rounds (source_texts texts sources) old.rows old.columns) aimed ∙ ap (λ (es : List Entity). dup_writes es (selected texts destination) texts) named)) does.1

    rearranged : (how : Rearrangement) → Rearranges (how.places (map_grid text_of old)) old cfg new new_cfg → state_of text_of new new_cfg ≡ rearrange how (state_of text_of old cfg)
    rearranged how (reads, same) = same_state _ _ _ _ (read_through text_of old new (how.places (map_grid text_of old)) (how.each (map_grid text_of old)) reads) same

    room : (axis : Axis) (line : ℕ) → has_room axis line (map_grid text_of old) cfg ≡ has_room axis line old cfg
    room Rows line = refl
    room Columns line = refl

    along : (axis : Axis) → cells_along axis (map_grid text_of old) ≡ cells_along axis old
    along Rows = refl
    along Columns = refl

    put_in : (axis : Axis) (line : ℕ) (cells : List A) → map_grid text_of (with_line_at axis line cells old) ≡ with_line_at axis line (map text_of cells) (map_grid text_of old)
    put_in Rows line cells = map_grid-with_row text_of old line cells
    put_in Columns line cells = map_grid-with_column text_of old line cells

    panelled : (is_blank : A → Type 0) (axis : Axis) (line : ℕ) (text : List ℕ) → Panels is_blank text_of axis line text old cfg new new_cfg → state_of text_of new new_cfg ≡ put_panel axis line text (state_of text_of old cfg)
    panelled is_blank axis line text panel = elim (cases_Bool (has_room axis line old cfg)) [
      | inl fits ↦
          let puts = panel.puts fits in
          let spans = panel.merges fits in
          rw (room axis line, fits, along axis)
          (same_state _ _ _ _ (ap (map_grid text_of) puts.is ∙ put_in axis line puts.cells ∙ ap (λ texts. with_line_at axis line texts (map_grid text_of old)) puts.texts) spans)
      | inr crossed ↦
          let same = panel.leaves crossed in
          rw (room axis line, crossed) (same_state _ _ _ _ (ap (map_grid text_of) same.0) same.1)
    ]

    merged : (axis : Axis) (e : Entity) → Merges text_of axis e old cfg new new_cfg → state_of text_of new new_cfg ≡ merge axis (state_of text_of old cfg) e
    merged axis e (cells, runs) = same_state _ _ _ _ (ap (map_grid text_of) cells) (is_merged axis e (map_grid text_of old) cfg new_cfg runs)

    joined_at : (is_blank : A → Type 0) (axis : Axis) (second : Grid (List ℕ)) (default : List ℕ) → JoinsAt is_blank text_of (corner_of axis old.rows old.columns) second default old new → map_grid text_of new ≡ joined_tables axis second default (map_grid text_of old)
    joined_at is_blank axis second default joins = is_table_of text_of new _ _ (λ (p : Position). text p.row p.col) joins.first.even joins.first.rows joins.first.columns (λ a b k l. at a b (omega (arith, joins.first.rows, k)) (omega (arith, joins.first.columns, l)) (cases_lt a old.rows) (cases_lt b old.columns))
      where
        corner : Position
        corner = corner_of axis old.rows old.columns

        text : ℕ → ℕ → List ℕ
        text a b = cond (nat_lt a old.rows && nat_lt b old.columns) (unwrap_or (cell_at (map_grid text_of old) (place a b)) []) (joined_text corner second default a b)

        at : (a b : ℕ) → a < new.rows → b < new.columns → (a < old.rows) ⊎ (old.rows ≤ a) → (b < old.columns) ⊎ (old.columns ≤ b) → cell_at (map_grid text_of new) (place a b) ≡ Some (text a b)
        at a b k l (inl high) (inl left) =
            let moved = rw (lt-ltb a old.rows high, lt-ltb b old.columns left) at (joins.first.moved (place a b) (record { row = k; col = l })) in
            let same = text_from text_of old new (place a b) (place a b) moved in
            let some = some_text (map_grid text_of new) a b (IsEven-map_grid text_of new joins.first.even) k l in
            rw (lt-ltb a old.rows high, lt-ltb b old.columns left, ← same) (text_known _ some.0 some.1)
        at a b k l (inr low) m = rw (le-ltb a old.rows low) (joins.others a b k l (inl low))
        at a b k l (inl high) (inr right) = rw (lt-ltb a old.rows high, le-ltb b old.columns right) (joins.others a b k l (inr right))

  -- what a change does on an entity is what its formula says
  changed : (change : EntityChange) (e : Entity) (old : Grid A) (cfg : SpanMap) (new : Grid A) (new_cfg : SpanMap) → ChangeDoes text_of change e old cfg new new_cfg → state_of text_of new new_cfg ≡ after_change change (state_of text_of old cfg) e
  changed (Rewrite f) e old cfg new new_cfg does = same_state _ _ _ _ does.0 does.1
  changed (RewriteIf some f) e old cfg new new_cfg does = same_state _ _ _ _ does.0 does.1
  changed (Span axis size) e old cfg new new_cfg does = same_state _ _ _ _ does.texts does.spans
  changed (Merge axis) e old cfg new new_cfg does = merged old cfg new new_cfg axis e does

  -- and so of an act
  acted : (is_blank : A → Type 0) (act : Act) (old : Grid A) (cfg : SpanMap) (new : Grid A) (new_cfg : SpanMap) → ActDoes is_blank text_of act old cfg new new_cfg → state_of text_of new new_cfg ≡ after_act act (state_of text_of old cfg)
  acted is_blank (ChangeEach change select) old cfg new new_cfg does = listed_is select (ChangeDoes text_of change) (after_change change) (changed change) old cfg new new_cfg does
  acted is_blank (Duplicate destination source) old cfg new new_cfg does = duplicated old cfg new new_cfg destination source does
  acted is_blank (PutPanel axis line text) old cfg new new_cfg does = panelled old cfg new new_cfg is_blank axis (line (map_grid text_of old)) text does
  acted is_blank (MergeAll axis) old cfg new new_cfg does = merged old cfg new new_cfg axis Global does
  acted is_blank (Rearrange _ how _) old cfg new new_cfg does = rearranged old cfg new new_cfg how does
  acted is_blank (ReverseLines how) old cfg new new_cfg does = same_state _ _ _ _ (read_through text_of old new (reversed how.axis how.start how.limit old.rows old.columns) (λ p. (_, refl)) does.0) does.1
  acted is_blank (CutLines how) old cfg new new_cfg does = same_state _ _ _ _ does.0.texts does.1
  acted is_blank (JoinTable axis second default) old cfg new new_cfg does = same_state _ _ _ _ (joined_at old cfg new new_cfg is_blank axis second default does.0) does.1
  acted is_blank (DoBoth first second) old cfg new new_cfg (between, between_cfg, one, other) = acted is_blank second between between_cfg new new_cfg other ∙ ap (after_act second) (acted is_blank first old cfg between between_cfg one)

  -- what a step does is what its formula says
  pub after_step : (is_blank : A → Type 0) (s : Step) (old : Grid A) (cfg : SpanMap) (new : Grid A) (new_cfg : SpanMap) → Does is_blank text_of s old cfg new new_cfg → state_of text_of new new_cfg ≡ after s (state_of text_of old cfg)
  after_step is_blank s = acted is_blank (act_of s)

  -- what steps do, one after another
  pub after_each : (is_blank : A → Type 0) (steps : List Step) (old : Grid A) (cfg : SpanMap) (new : Grid A) (new_cfg : SpanMap) → Each (Does is_blank text_of) steps old cfg new new_cfg → state_of text_of new new_cfg ≡ after_all steps (state_of text_of old cfg)
  after_each is_blank [] old cfg new new_cfg same = same_state _ _ _ _ (ap (map_grid text_of) same.0) same.1
  after_each is_blank (s ∷ steps) old cfg new new_cfg (between, between_cfg, first, rest) = after_each is_blank steps between between_cfg new new_cfg rest ∙ ap (after_all steps) (after_step is_blank s old cfg between between_cfg first)
