-- A draft tells of its lines what a fault asks.
use Rattle.tabled_language.proofs.Common.{[], ◌&&◌, ◌++◌, ◌+◌, ◌∙◌, ◌∷◌, ◌≡◌, AllByRecursion, Bool, EmptyLine, Err, Fault, FaultyLine, Grid, Line, List, None, Ok, Option, OutOfPlace, RecordLine, Rectangle, Result, ShapeLine, Some, SpanLine, StepLine, anchor_in, and_right, ap, cond, draft_of, eqb, false, fault_behind, fault_of, filter_map, first_fault, is_in_place, is_nil, is_none, length, length-append, list_all-append, may_follow, record_in, refl, shape_among, shape_fault, shape_misfit, step_in, sym, takes, true, words_fault, ℕ}
use Rattle.tabled_language.proofs.LooseLines.{loose_place}

-- a line has no fault in its words
abbrev pub IsSound : Line → Type 0
IsSound (ShapeLine (Err fault)) = ⊥
IsSound (SpanLine (Err fault)) = ⊥
IsSound (FaultyLine fault) = ⊥
IsSound line = Unit {0}

shape_place : (read : Result (ℕ × ℕ) Fault) (n : ℕ) (lines : List Line) → AllByRecursion IsSound lines → is_in_place lines (ShapeLine read) ≡ (is_none (shape_among n lines) && (is_nil (filter_map record_in lines) && (is_nil (filter_map anchor_in lines) && is_nil (filter_map step_in lines))))
shape_place read n [] sound = refl
shape_place read n (EmptyLine ∷ lines) sound = shape_place read (n + 1) lines sound.1
shape_place read n (ShapeLine (Ok shape) ∷ lines) sound = refl
shape_place read n (ShapeLine (Err fault) ∷ lines) sound = absurd sound.0
shape_place read n (RecordLine texts ∷ lines) sound = sym (and_right (is_none (shape_among (n + 1) lines)) false refl)
shape_place read n (SpanLine (Ok e) ∷ lines) sound = sym (and_right (is_none (shape_among (n + 1) lines)) _ (and_right (is_nil (filter_map record_in lines)) false refl))
shape_place read n (SpanLine (Err fault) ∷ lines) sound = absurd sound.0
shape_place read n (StepLine step ∷ lines) sound = sym (and_right (is_none (shape_among (n + 1) lines)) _ (and_right (is_nil (filter_map record_in lines)) _ (and_right (is_nil (filter_map anchor_in lines)) false refl)))
shape_place read n (FaultyLine fault ∷ lines) sound = absurd sound.0

record_place : (texts : List (List ℕ)) (lines : List Line) → AllByRecursion IsSound lines → is_in_place lines (RecordLine texts) ≡ (is_nil (filter_map anchor_in lines) && is_nil (filter_map step_in lines))
record_place texts [] sound = refl
record_place texts (EmptyLine ∷ lines) sound = record_place texts lines sound.1
record_place texts (ShapeLine (Ok shape) ∷ lines) sound = record_place texts lines sound.1
record_place texts (ShapeLine (Err fault) ∷ lines) sound = absurd sound.0
record_place texts (RecordLine others ∷ lines) sound = record_place texts lines sound.1
record_place texts (SpanLine (Ok e) ∷ lines) sound = refl
record_place texts (SpanLine (Err fault) ∷ lines) sound = absurd sound.0
record_place texts (StepLine step ∷ lines) sound = sym (and_right (is_nil (filter_map anchor_in lines)) false refl)
record_place texts (FaultyLine fault ∷ lines) sound = absurd sound.0

span_place : (read : Result Rectangle Fault) (lines : List Line) → AllByRecursion IsSound lines → is_in_place lines (SpanLine read) ≡ is_nil (filter_map step_in lines)
span_place read [] sound = refl
span_place read (EmptyLine ∷ lines) sound = span_place read lines sound.1
span_place read (ShapeLine (Ok shape) ∷ lines) sound = span_place read lines sound.1
span_place read (ShapeLine (Err fault) ∷ lines) sound = absurd sound.0
span_place read (RecordLine others ∷ lines) sound = span_place read lines sound.1
span_place read (SpanLine (Ok e) ∷ lines) sound = span_place read lines sound.1
span_place read (SpanLine (Err fault) ∷ lines) sound = absurd sound.0
span_place read (StepLine step ∷ lines) sound = refl
span_place read (FaultyLine fault ∷ lines) sound = absurd sound.0

-- a line stands in its place just where the draft of the lines before takes it
pub place_told : (lines : List Line) (line : Line) → AllByRecursion IsSound lines → is_in_place lines line ≡ takes (draft_of lines) line
place_told lines (ShapeLine read) sound = shape_place read 0 lines sound
place_told lines (RecordLine texts) sound = record_place texts lines sound
place_told lines (SpanLine read) sound = span_place read lines sound
place_told lines EmptyLine sound = loose_place EmptyLine lines tt
place_told lines (StepLine step) sound = loose_place (StepLine step) lines tt
place_told lines (FaultyLine fault) sound = loose_place (FaultyLine fault) lines tt

-- so the draft tells a line's fault
pub fault_told : (lines : List Line) (line : Line) → AllByRecursion IsSound lines → fault_of lines line ≡ fault_behind (draft_of lines) line
fault_told lines line sound = ap (λ b. cond b (words_fault line) (Some OutOfPlace)) (place_told lines line sound)

refused : {P : Type 0} (fault : Fault) (b : Bool) → cond b (Some fault) (Some OutOfPlace) ≡ None → P
refused fault true e = cc
refused fault false e = cc

-- a line without a fault is sound
pub sound_line : (lines : List Line) (line : Line) → fault_of lines line ≡ None → IsSound line
sound_line lines line fine = sound_words line (is_in_place lines line) fine
  where
    sound_words : (line : Line) (b : Bool) → cond b (words_fault line) (Some OutOfPlace) ≡ None → IsSound line
    sound_words EmptyLine b e = tt
    sound_words (ShapeLine (Ok shape)) b e = tt
    sound_words (ShapeLine (Err fault)) b e = refused fault b e
    sound_words (RecordLine texts) b e = tt
    sound_words (SpanLine (Ok anchor)) b e = tt
    sound_words (SpanLine (Err fault)) b e = refused fault b e
    sound_words (StepLine step) b e = tt
    sound_words (FaultyLine fault) b e = refused fault b e

-- what no fault of several lines says of the first one and of the others
pub parts_none : (fault_at : List Line → Line → Option Fault) (earlier : List Line) (line : Line) (lines : List Line) → first_fault fault_at earlier (line ∷ lines) ≡ None → (fault_at earlier line ≡ None) × (first_fault fault_at (earlier ++ line ∷ []) lines ≡ None)
parts_none fault_at earlier line lines none = none_here (fault_at earlier line) refl
  where
    none_here : (o : Option Fault) → fault_at earlier line ≡ o → (fault_at earlier line ≡ None) × (first_fault fault_at (earlier ++ line ∷ []) lines ≡ None)
    none_here None e = (e, rw e at none)
    none_here (Some fault) e = let has = rw e at none in cc

-- no shape may stand after these lines
Blocked : List Line → Type 0
Blocked earlier = (read : Result (ℕ × ℕ) Fault) → is_in_place earlier (ShapeLine read) ≡ false

blocked-push : (earlier : List Line) (line : Line) → Blocked earlier → Blocked (earlier ++ line ∷ [])
unfolding Blocked
blocked-push earlier line blocked read = list_all-append (may_follow (ShapeLine read)) earlier (line ∷ []) ∙ rw (blocked read) refl

blocked_by : (earlier : List Line) (shape : ℕ × ℕ) → Blocked (earlier ++ ShapeLine (Ok shape) ∷ [])
unfolding Blocked
blocked_by earlier shape read = list_all-append (may_follow (ShapeLine read)) earlier (ShapeLine (Ok shape) ∷ []) ∙ and_right (is_in_place earlier (ShapeLine read)) false refl

none_behind : (g : Grid (List ℕ)) (lines earlier : List Line) → Blocked earlier → first_fault fault_of earlier lines ≡ None → first_fault (shape_fault g) earlier lines ≡ None
unfolding Blocked
none_behind g [] earlier blocked fine = refl
none_behind g (line ∷ lines) earlier blocked fine =
    let parts = parts_none fault_of earlier line lines fine in
    line_passed line parts.0 (none_behind g lines (earlier ++ line ∷ []) (blocked-push earlier line blocked) parts.1)
  where
    line_passed : (l : Line) → fault_of earlier l ≡ None → first_fault (shape_fault g) (earlier ++ l ∷ []) lines ≡ None → first_fault (shape_fault g) earlier (l ∷ lines) ≡ None
    line_passed EmptyLine e later = later
    line_passed (ShapeLine read) e later = let out : Some OutOfPlace ≡ None = sym (ap (λ b. cond b (words_fault (ShapeLine read)) (Some OutOfPlace)) (blocked read)) ∙ e in cc
    line_passed (RecordLine texts) e later = later
    line_passed (SpanLine read) e later = later
    line_passed (StepLine step) e later = later
    line_passed (FaultyLine fault) e later = later

shape_behind : (g : Grid (List ℕ)) (lines earlier : List Line) → first_fault fault_of earlier lines ≡ None → first_fault (shape_fault g) earlier lines ≡ shape_misfit g (shape_among (length earlier) lines)
shape_behind g [] earlier fine = refl
shape_behind g (line ∷ lines) earlier fine =
    let parts = parts_none fault_of earlier line lines fine in
    line_told line parts.0 parts.1 (shape_behind g lines (earlier ++ line ∷ []) parts.1 ∙ ap (λ n. shape_misfit g (shape_among n lines)) (length-append earlier (line ∷ [])))
  where
    line_told : (l : Line) → fault_of earlier l ≡ None → first_fault fault_of (earlier ++ l ∷ []) lines ≡ None → first_fault (shape_fault g) (earlier ++ l ∷ []) lines ≡ shape_misfit g (shape_among (length earlier + 1) lines) → first_fault (shape_fault g) earlier (l ∷ lines) ≡ shape_misfit g (shape_among (length earlier) (l ∷ lines))
    line_told EmptyLine e others later = later
    line_told (ShapeLine (Ok shape)) e others later = test ((eqb shape.0 g.rows) && (eqb shape.1 g.columns)) refl
      where
        test : (b : Bool) → ((eqb shape.0 g.rows) && (eqb shape.1 g.columns)) ≡ b → first_fault (shape_fault g) earlier (ShapeLine (Ok shape) ∷ lines) ≡ shape_misfit g (shape_among (length earlier) (ShapeLine (Ok shape) ∷ lines))
        test true t = rw t (none_behind g lines (earlier ++ ShapeLine (Ok shape) ∷ []) (blocked_by earlier shape) others)
        test false t = rw t refl
    line_told (ShapeLine (Err fault)) e others later = refused fault (is_in_place earlier (ShapeLine (Err fault))) e
    line_told (RecordLine texts) e others later = later
    line_told (SpanLine read) e others later = later
    line_told (StepLine step) e others later = later
    line_told (FaultyLine fault) e others later = later

-- so the draft tells whether the shape is that of a table
pub shape_told : (g : Grid (List ℕ)) (lines : List Line) → first_fault fault_of [] lines ≡ None → first_fault (shape_fault g) [] lines ≡ shape_misfit g (draft_of lines).shape
shape_told g lines fine = shape_behind g lines [] fine
