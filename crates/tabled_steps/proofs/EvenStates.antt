-- Steps leave as many texts in each row as there are columns.
use Rattle.tabled_steps.proofs.Common.{[], ◌&&◌, ◌++◌, ◌+◌, ◌-◌, ◌<◌, ◌∙◌, ◌∷◌, ◌≡◌, ◌⊎◌, Axis, Columns, Entity, Grid, IsEven, IsEven-with_cell, IsUndoneMidway, List, Places, Position, Rows, Select, State, Step, Write, after, after_all, and_parts, ap, arith, cases_Bool, cell_at, cond, corner_of, cut_rows, dup_writes, false, flattened, fold, has_pieces, has_room, inl, inr, joined_tables, joined_text, leb-true, length, length-replicate, ltb-true, max, named_by, nat_lt, on_each, option_and_then, oriented, parts, put_panel, read, refl, replicate, reversed, selected, span_writes, split, text_at, true, unwrap_or, with_cell, with_writes, ℕ}
use Rattle.tabled_grid.proofs.Resized.{IsEven-with_column, IsEven-with_row}
use Rattle.tabled_settings.specs.declared.split.Split.{Split}
use Rattle.tabled_settings.proofs.Glued.{split_glued}
use Rattle.tabled_settings.proofs.PieceReads.{cut_even, turned_even}
use Rattle.tabled_steps.specs.Kinds.{Act, ChangeEach, CutLines, DoBoth, Duplicate, EntityChange, JoinTable, Merge, MergeAll, PutPanel, Rearrange, ReverseLines, Rewrite, RewriteIf, Span, act_of, rewritten, rewritten_if}
use Rattle.tabled_steps.specs.States.{after_act, after_change}
use Rattle.tabled_steps.specs.declared.step.Step.TheVariants as step
use Rattle.tabled_steps.proofs.TextReads.{IsEven-table_of}

even_writes : (writes : List Write) (g : Grid (List ℕ)) → IsEven g → IsEven (with_writes writes g)
even_writes [] g even = even
even_writes (w ∷ writes) g even = even_writes writes (with_cell g w.place w.text) (IsEven-with_cell g w.place w.text even)

-- a change of a state keeps its rows even
abbrev Keeps : (State → State) → Type 0
Keeps change = (s : State) → IsEven s.texts → IsEven (change s).texts

even_each : (change : State → Entity → State) → ((e : Entity) → Keeps (λ s. change s e)) → (es : List Entity) → Keeps (λ s. fold change s es)
even_each change keeps [] s even = even
even_each change keeps (e ∷ es) s even = even_each change keeps es (change s e) (keeps e s even)

even_on_each : (change : State → Entity → State) (select : Select) → ((e : Entity) → Keeps (λ s. change s e)) → Keeps (on_each change (named_by select))
even_on_each change select keeps s = even_each change keeps (selected s.texts select) s

even_panel : (axis : Axis) (line : ℕ) (text : List ℕ) → Keeps (put_panel axis line text)
even_panel axis line text s even = if_room axis (cases_Bool (has_room axis line s.texts s.spans))
  where
    long : (n : ℕ) → 0 < n → length (text ∷ replicate (n - 1) []) ≡ n
    long n some = let none : List ℕ = [] in omega (arith, length-replicate (n - 1) none, some)

    if_room : (axis : Axis) → (has_room axis line s.texts s.spans ≡ true) ⊎ (has_room axis line s.texts s.spans ≡ false) → IsEven (put_panel axis line text s).texts
    if_room axis (inr crossed) = rw crossed even
    if_room Rows (inl fits) =
        let parts = and_parts _ _ fits in
        let some = ltb-true 0 s.texts.columns (and_parts _ _ parts.1).0 in
        rw fits (IsEven-with_row s.texts even line (text ∷ replicate (s.texts.columns - 1) []) (leb-true line s.texts.rows parts.0) (long s.texts.columns some))
    if_room Columns (inl fits) =
        let parts = and_parts _ _ fits in
        let some = ltb-true 0 s.texts.rows (and_parts _ _ parts.1).0 in
        rw fits (IsEven-with_column s.texts line (text ∷ replicate (s.texts.rows - 1) []) (leb-true line s.texts.columns parts.0) (long s.texts.rows some) even)

even_split : (how : Split) (g : Grid (List ℕ)) → IsEven g → IsEven (split how g)
even_split how g even = elim (cases_Bool (has_pieces how g.rows g.columns)) [
  | inl some ↦ rw some (turned_cut how.lines (ltb-true 0 how.index (and_parts _ _ (and_parts _ _ some).1).0))
  | inr none ↦ rw none even
]
  where
    turned_cut : (axis : Axis) → 0 < how.index → IsEven (oriented axis (cut_rows how (oriented how.lines g)))
    turned_cut Rows index = cut_even how (oriented how.lines g)
    turned_cut Columns index = turned_even Columns (cut_rows how (oriented how.lines g)) (cut_even how (oriented how.lines g)) index

even_read : (from : Places) (s : State) → IsEven (read from s.texts)
even_read from s = IsEven-table_of from.size.height from.size.width (λ (p : Position). unwrap_or (option_and_then (cell_at s.texts) (from.old_place p)) [])

even_joined : (axis : Axis) (second : Grid (List ℕ)) (default : List ℕ) (g : Grid (List ℕ)) → IsEven (joined_tables axis second default g)
even_joined axis second default g = let corner = corner_of axis g.rows g.columns in IsEven-table_of (max g.rows (corner.row + second.rows)) (max g.columns (corner.col + second.columns)) (λ (p : Position). cond (nat_lt p.row g.rows && nat_lt p.col g.columns) (text_at g p) (joined_text corner second default p.row p.col))

even_changed : (change : EntityChange) (e : Entity) → Keeps (λ s. after_change change s e)
even_changed (Rewrite f) e s = even_writes (rewritten f e s.texts) s.texts
even_changed (RewriteIf some f) e s = even_writes (rewritten_if some f e s.texts) s.texts
even_changed (Span axis size) e s = even_writes (span_writes axis size e s.texts) s.texts
even_changed (Merge axis) e s = λ even. even

even_acted : (act : Act) → Keeps (after_act act)
even_acted (ChangeEach change select) = even_on_each (after_change change) select (even_changed change)
even_acted (Duplicate destination source) = λ s. even_writes (dup_writes (selected s.texts source) (selected s.texts destination) s.texts) s.texts
even_acted (PutPanel axis line text) = λ s. even_panel axis (line s.texts) text s
even_acted (MergeAll axis) = λ s even. even
even_acted (Rearrange _ how _) = λ s even. even_read (how.places s.texts) s
even_acted (ReverseLines how) = λ s even. even_read (reversed how.axis how.start how.limit s.texts.rows s.texts.columns) s
even_acted (CutLines how) = λ s. even_split how s.texts
even_acted (JoinTable axis second default) = λ s even. even_joined axis second default s.texts
even_acted (DoBoth first second) = λ s even. even_acted second (after_act first s) (even_acted first s even)

pub even_after : (x : Step) → Keeps (after x)
even_after x = even_acted (act_of x)

pub even_after_all : (xs : List Step) → Keeps (after_all xs)
even_after_all [] s even = even
even_after_all (x ∷ xs) s even = even_after_all xs (after x s) (even_after x s even)

after_both : (xs ys : List Step) (s : State) → after_all (xs ++ ys) s ≡ after_all ys (after_all xs s)
after_both [] ys s = refl
after_both (x ∷ xs) ys s = after_both xs ys (after x s)

after_parts : (x : Step) (s : State) → after_all (parts x) s ≡ after x s
after_parts (step.Both' _ first _ second) s = after_both (parts first) (parts second) s ∙ after_parts second (after_all (parts first) s) ∙ ap (after second) (after_parts first s)
after_parts _ s = refl

-- steps taken apart lead to what they lead to
pub after_flattened : (xs : List Step) (s : State) → after_all (flattened xs) s ≡ after_all xs s
after_flattened [] s = refl
after_flattened (x ∷ xs) s = after_both (parts x) (flattened xs) s ∙ after_flattened xs (after_all (parts x) s) ∙ ap (after_all xs) (after_parts x s)

-- the pieces that a split makes are glued together, whatever steps come before it and after it
pub undone_midway : (xs first rest : List Step) (how : Split) (old new : State) → IsEven old.texts → xs ≡ first ++ step.Split how ∷ rest → new ≡ after_all xs old → IsUndoneMidway how (after_all first old) rest new
undone_midway xs first rest how old new even are is = record {
  split = after (step.Split how) (after_all first old);
  is = refl;
  undone = record {
    glued = λ retained index rows columns. split_glued how (after_all first old).texts (after (step.Split how) (after_all first old)).texts (even_after_all first old even) retained rows columns index refl;
  };
  leads = is ∙ ap (λ ys. after_all ys old) are ∙ after_both first (step.Split how ∷ rest) old;
}
