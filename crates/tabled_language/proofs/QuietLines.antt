-- Lines without faults: a shape, records, and spans.
use Rattle.tabled_language.proofs.Common.{[], ◌++◌, ◌∙◌, ◌∷◌, ◌≡◌, EmptyLine, Fault, Grid, Line, List, None, Ok, Option, RecordLine, Rectangle, ShapeLine, Some, SpanLine, anchor_in, ap, append-nil, ap₂, eq-eqb, fault_of, filter_map, first_fault, is_in_place, list_all-append, map, map-id, may_follow, record_in, refl, shape_fault, step_in, true, ℕ}
use Rattle.tabled_language.proofs.LooseLines.{loose_place}

-- what each of things says is picked
pub picked : {A B : Type 0} (h : Line → Option B) (make : A → Line) (f : A → B) → ((x : A) → h (make x) ≡ Some (f x)) → (xs : List A) (rest : List Line) → filter_map h (map make xs ++ rest) ≡ map f xs ++ filter_map h rest
picked h make f is [] rest = refl
picked h make f is (x ∷ xs) rest = rw (is x) (ap (λ ys. f x ∷ ys) (picked h make f is xs rest))

-- what says nothing of a kind is passed
pub passed : {A B : Type 0} (h : Line → Option B) (make : A → Line) → ((x : A) → h (make x) ≡ None) → (xs : List A) (rest : List Line) → filter_map h (map make xs ++ rest) ≡ filter_map h rest
passed h make is [] rest = refl
passed h make is (x ∷ xs) rest = rw (is x) (passed h make is xs rest)

-- one line without a fault, and none in the others
quiet-cons : (fault_at : List Line → Line → Option Fault) (earlier : List Line) (line : Line) (lines : List Line) → fault_at earlier line ≡ None → first_fault fault_at (earlier ++ line ∷ []) lines ≡ None → first_fault fault_at earlier (line ∷ lines) ≡ None
quiet-cons fault_at earlier line lines here later = rw here later

-- lines of one kind without a fault, where what stands before them stays as it is to be
pub block : {A : Type 0} (fault_at : List Line → Line → Option Fault) (make : A → Line) (Kept : List Line → Type 0) → ((earlier : List Line) (x : A) → Kept earlier → fault_at earlier (make x) ≡ None) → ((earlier : List Line) (x : A) → Kept earlier → Kept (earlier ++ make x ∷ [])) → (xs : List A) (rest earlier : List Line) → Kept earlier → ((later : List Line) → Kept later → first_fault fault_at later rest ≡ None) → first_fault fault_at earlier (map make xs ++ rest) ≡ None
block fault_at make Kept fine keeps [] rest earlier kept after = after earlier kept
block fault_at make Kept fine keeps (x ∷ xs) rest earlier kept after = quiet-cons fault_at earlier (make x) (map make xs ++ rest) (fine earlier x kept) (block fault_at make Kept fine keeps xs rest (earlier ++ make x ∷ []) (keeps earlier x kept) after)

pub all-push : (line before : Line) (earlier : List Line) → is_in_place earlier line ≡ true → may_follow line before ≡ true → is_in_place (earlier ++ before ∷ []) line ≡ true
all-push line before earlier h k = list_all-append (may_follow line) earlier (before ∷ []) ∙ rw (h, k) refl

abbrev pub records : List (List (List ℕ)) → List Line
records rows = map RecordLine rows

abbrev pub span : Rectangle → Line
span e = SpanLine (Ok e)

-- a shape, records and spans
abbrev pub table : ℕ → ℕ → List (List (List ℕ)) → List Rectangle → List Line
table r c rows es = ShapeLine (Ok (r, c)) ∷ (map RecordLine rows ++ (map span es ++ EmptyLine ∷ []))

-- records and spans may stand after these lines
record TakesRecords (earlier : List Line) : Type 0 where
  rows : (texts : List (List ℕ)) → is_in_place earlier (RecordLine texts) ≡ true
  spans : (e : Rectangle) → is_in_place earlier (span e) ≡ true

TakesSpans : List Line → Type 0
TakesSpans earlier = (e : Rectangle) → is_in_place earlier (span e) ≡ true

-- each line is in its place
pub in_place : (r c : ℕ) (rows : List (List (List ℕ))) (es : List Rectangle) → first_fault fault_of [] (table r c rows es) ≡ None
unfolding TakesSpans
in_place r c rows es = block fault_of RecordLine TakesRecords
    (λ earlier texts kept. rw (kept.rows texts) refl)
    (λ earlier texts kept. record { rows = λ others. all-push (RecordLine others) (RecordLine texts) earlier (kept.rows others) refl; spans = λ e. all-push (span e) (RecordLine texts) earlier (kept.spans e) refl })
    rows (map span es ++ EmptyLine ∷ []) (ShapeLine (Ok (r, c)) ∷ []) (record { rows = λ texts. refl; spans = λ e. refl })
    (λ later kept. block fault_of span TakesSpans
    (λ earlier e takes. rw (takes e) refl)
    (λ earlier e takes f. all-push (span f) (span e) earlier (takes f) refl)
    es (EmptyLine ∷ []) later kept.spans
    (λ last takes. rw (loose_place EmptyLine last tt) refl))

-- the shape is that of the table
pub shape_fine : (g : Grid (List ℕ)) (rows : List (List (List ℕ))) (es : List Rectangle) → first_fault (shape_fault g) [] (table g.rows g.columns rows es) ≡ None
shape_fine g rows es = quiet-cons (shape_fault g) [] (ShapeLine (Ok (g.rows, g.columns))) (map RecordLine rows ++ (map span es ++ EmptyLine ∷ [])) (rw (eq-eqb g.rows g.rows refl, eq-eqb g.columns g.columns refl) refl)
    (block (shape_fault g) RecordLine (λ earlier. Unit {0}) (λ earlier x kept. refl) (λ earlier x kept. tt) rows (map span es ++ EmptyLine ∷ []) (ShapeLine (Ok (g.rows, g.columns)) ∷ []) tt
    (λ later kept. block (shape_fault g) span (λ earlier. Unit {0}) (λ earlier x kept. refl) (λ earlier x kept. tt) es (EmptyLine ∷ []) later tt (λ last kept. refl)))

pub records_are : (r c : ℕ) (rows : List (List (List ℕ))) (es : List Rectangle) → filter_map record_in (table r c rows es) ≡ rows
records_are r c rows es = picked record_in RecordLine (λ texts. texts) (λ texts. refl) rows (map span es ++ EmptyLine ∷ []) ∙ ap₂ (λ (xs ys : List (List (List ℕ))). xs ++ ys) (map-id rows) (passed record_in span (λ e. refl) es (EmptyLine ∷ [])) ∙ append-nil rows

pub anchors_are : (r c : ℕ) (rows : List (List (List ℕ))) (es : List Rectangle) → filter_map anchor_in (table r c rows es) ≡ es
anchors_are r c rows es = passed anchor_in RecordLine (λ texts. refl) rows (map span es ++ EmptyLine ∷ []) ∙ picked anchor_in span (λ e. e) (λ e. refl) es (EmptyLine ∷ []) ∙ append-nil (map (λ (e : Rectangle). e) es) ∙ map-id es

pub steps_are : (r c : ℕ) (rows : List (List (List ℕ))) (es : List Rectangle) → filter_map step_in (table r c rows es) ≡ []
steps_are r c rows es = passed step_in RecordLine (λ texts. refl) rows (map span es ++ EmptyLine ∷ []) ∙ passed step_in span (λ e. refl) es (EmptyLine ∷ [])
