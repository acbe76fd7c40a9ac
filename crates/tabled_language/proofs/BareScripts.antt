-- Scripts without the words of tables mean what their records and steps say.
use Rattle.tabled_language.proofs.Common.{[], ◌++◌, ◌||◌, ◌∙◌, ◌∷◌, ◌≡◌, AllByRecursion, Bool, EmptyLine, Err, Fault, FaultyLine, Grid, Line, List, None, Ok, Option, OutOfPlace, RecordLine, Rectangle, Result, Script, ShapeLine, Some, SpanLine, SpanMap, State, StepLine, all-append, anchor_in, ap, ap₂, behind, bytes_eq, codes, cond, empty, false, fault_among, fault_of, filter_map, first_fault, from_rectangles, is_in_place, lines_of, list_any, map, meaning_of, not, option_or, or_parts, parse, record_in, refl, says, says_line, script_or_fault, shape_fault, shape_in, span_fault, step_in, step_line, steps, sym, table_from, texts_of, true, whole, words_of, ℕ}
use Rattle.tabled_language.specs.Bare.{begin_a_table, has_either_word, is_step, bare_fault, bare_line_of, bare_meaning_of, bare_parse, bare_script, says_record_or_step}
use Rattle.tabled_language.proofs.LooseLines.{loose_place}

-- a line says no shape and no span
abbrev IsBare : Line → Type 0
IsBare (ShapeLine read) = ⊥
IsBare (SpanLine read) = ⊥
IsBare line = Unit {0}

says-bare : (verb : List ℕ) (texts : List (List ℕ)) → (bytes_eq verb (codes "shape") || bytes_eq verb (codes "span")) ≡ false → says verb texts ≡ says_record_or_step verb texts
says-bare verb texts neither =
    let parts = or_parts (bytes_eq verb (codes "shape")) (bytes_eq verb (codes "span")) neither in
    rw (parts.0, parts.1) refl

meaning-bare : (texts : Option (List (List ℕ))) → begin_a_table texts ≡ false → meaning_of texts ≡ bare_meaning_of texts
meaning-bare None neither = refl
meaning-bare (Some []) neither = refl
meaning-bare (Some (verb ∷ texts)) neither = says-bare verb texts neither

line-bare : (line : List ℕ) → begin_a_table (texts_of (words_of line)) ≡ false → says_line line ≡ bare_line_of line
line-bare [] neither = refl
line-bare (b ∷ bs) neither = meaning-bare (texts_of (words_of (b ∷ bs))) neither

lines-bare : (lines : List (List ℕ)) → list_any (λ line. begin_a_table (texts_of (words_of line))) lines ≡ false → map says_line lines ≡ map bare_line_of lines
lines-bare [] none = refl
lines-bare (line ∷ lines) none =
    let parts = or_parts (begin_a_table (texts_of (words_of line))) _ none in
    ap₂ (λ (l : Line) (ls : List Line). l ∷ ls) (line-bare line parts.0) (lines-bare lines parts.1)

is_bare : (line : List ℕ) → IsBare (bare_line_of line)
is_bare [] = tt
is_bare (b ∷ bs) = meaning_bare (texts_of (words_of (b ∷ bs)))
  where
    step : (read : Result (State → State) Fault) → IsBare (step_line read)
    step (Ok made) = tt
    step (Err fault) = tt

    verb : (row : Bool) (texts : List (List ℕ)) (line : Line) → IsBare line → IsBare (cond row (RecordLine texts) line)
    verb true texts line bare = tt
    verb false texts line bare = bare

    meaning_bare : (texts : Option (List (List ℕ))) → IsBare (bare_meaning_of texts)
    meaning_bare None = tt
    meaning_bare (Some []) = tt
    meaning_bare (Some (first ∷ texts)) = verb (bytes_eq first (codes "row")) texts (step_line (whole (behind steps first) texts)) (step (whole (behind steps first) texts))

all_bare : (lines : List (List ℕ)) → AllByRecursion IsBare (map bare_line_of lines)
all_bare [] = tt
all_bare (line ∷ lines) = (is_bare line, all_bare lines)

record_place : (texts : List (List ℕ)) (earlier : List Line) → AllByRecursion IsBare earlier → is_in_place earlier (RecordLine texts) ≡ not (list_any is_step earlier)
record_place texts [] bare = refl
record_place texts (EmptyLine ∷ earlier) bare = record_place texts earlier bare.1
record_place texts (ShapeLine read ∷ earlier) bare = absurd bare.0
record_place texts (RecordLine others ∷ earlier) bare = record_place texts earlier bare.1
record_place texts (SpanLine read ∷ earlier) bare = absurd bare.0
record_place texts (StepLine step ∷ earlier) bare = refl
record_place texts (FaultyLine fault ∷ earlier) bare = record_place texts earlier bare.1

fault-bare : (earlier : List Line) (line : Line) → AllByRecursion IsBare earlier → IsBare line → fault_of earlier line ≡ bare_fault earlier line
fault-bare earlier (ShapeLine read) bare here = absurd here
fault-bare earlier (RecordLine texts) bare here = ap (λ b. cond b None (Some OutOfPlace)) (record_place texts earlier bare) ∙ turned (list_any is_step earlier)
  where
    turned : (b : Bool) → cond (not b) None (Some OutOfPlace) ≡ cond b (Some OutOfPlace) None
    turned true = refl
    turned false = refl
fault-bare earlier (SpanLine read) bare here = absurd here
fault-bare earlier EmptyLine bare here = rw (loose_place EmptyLine earlier tt) refl
fault-bare earlier (StepLine step) bare here = rw (loose_place (StepLine step) earlier tt) refl
fault-bare earlier (FaultyLine fault) bare here = rw (loose_place (FaultyLine fault) earlier tt) refl

-- two ways to find faults that agree find the same first one
faults-bare : (earlier lines : List Line) → AllByRecursion IsBare earlier → AllByRecursion IsBare lines → first_fault fault_of earlier lines ≡ first_fault bare_fault earlier lines
faults-bare earlier [] bare here = refl
faults-bare earlier (line ∷ lines) bare here = rw (fault-bare earlier line bare here.0, faults-bare (earlier ++ line ∷ []) lines (all-append IsBare earlier (line ∷ []) bare (here.0, tt)) here.1) refl

quiet : (fault_at : List Line → Line → Option Fault) → ((earlier : List Line) (line : Line) → IsBare line → fault_at earlier line ≡ None) → (earlier lines : List Line) → AllByRecursion IsBare lines → first_fault fault_at earlier lines ≡ None
quiet fault_at none earlier [] bare = refl
quiet fault_at none earlier (line ∷ lines) bare = rw (none earlier line bare.0, quiet fault_at none (earlier ++ line ∷ []) lines bare.1) refl

no_sizes : (line : Line) → IsBare line → (shape_in line ≡ None) × (anchor_in line ≡ None)
no_sizes EmptyLine bare = (refl, refl)
no_sizes (ShapeLine read) bare = absurd bare
no_sizes (RecordLine texts) bare = (refl, refl)
no_sizes (SpanLine read) bare = absurd bare
no_sizes (StepLine step) bare = (refl, refl)
no_sizes (FaultyLine fault) bare = (refl, refl)

no_shape : (g : Grid (List ℕ)) (earlier : List Line) (line : Line) → IsBare line → shape_fault g earlier line ≡ None
no_shape g earlier line bare = rw (no_sizes line bare).0 refl

no_span : (g : Grid (List ℕ)) (earlier : List Line) (line : Line) → IsBare line → span_fault g earlier line ≡ None
no_span g earlier line bare = rw (no_sizes line bare).1 refl

no_anchors : (lines : List Line) → AllByRecursion IsBare lines → filter_map anchor_in lines ≡ []
no_anchors [] bare = refl
no_anchors (line ∷ lines) bare = rw (no_sizes line bare.0).1 (no_anchors lines bare.1)

abbrev scripted : List Line → Option (ℕ × Fault) → SpanMap → Result Script (ℕ × Fault)
scripted lines None spans = Ok (record { records = filter_map record_in lines; spans = spans; steps = filter_map step_in lines })
scripted lines (Some fault) spans = Err fault

none_behind : (o : Option (ℕ × Fault)) → option_or o (option_or None None) ≡ o
none_behind None = refl
none_behind (Some fault) = refl

among-bare : (lines : List Line) → AllByRecursion IsBare lines → fault_among lines ≡ first_fault bare_fault [] lines
among-bare lines bare =
    let g = table_from (filter_map record_in lines) in
    ap₂ (λ (a b : Option (ℕ × Fault)). option_or (first_fault fault_of [] lines) (option_or a b)) (quiet (shape_fault g) (no_shape g) [] lines bare) (quiet (span_fault g) (no_span g) [] lines bare)
    ∙ none_behind (first_fault fault_of [] lines) ∙ faults-bare [] lines tt bare

either_way : (lines : List Line) (o : Option (ℕ × Fault)) → fault_among lines ≡ o → script_or_fault lines ≡ scripted lines o (from_rectangles (filter_map anchor_in lines))
either_way lines None is = rw is refl
either_way lines (Some fault) is = rw is refl

bare_way : (lines : List Line) (o : Option (ℕ × Fault)) → first_fault bare_fault [] lines ≡ o → bare_script lines ≡ scripted lines o empty
bare_way lines None is = rw is refl
bare_way lines (Some fault) is = rw is refl

script-bare : (lines : List Line) → AllByRecursion IsBare lines → script_or_fault lines ≡ bare_script lines
script-bare lines bare =
    let first = first_fault bare_fault [] lines in
    either_way lines first (among-bare lines bare)
    ∙ ap (λ (es : List Rectangle). scripted lines first (from_rectangles es)) (no_anchors lines bare)
    ∙ sym (bare_way lines first refl)

-- a script in which no line begins with `shape` or `span` means what it meant
pub parse-bare : (input : List ℕ) → has_either_word input ≡ false → parse input ≡ bare_parse input
parse-bare input none = ap script_or_fault (lines-bare (lines_of input) none) ∙ script-bare (map bare_line_of (lines_of input)) (all_bare (lines_of input))
