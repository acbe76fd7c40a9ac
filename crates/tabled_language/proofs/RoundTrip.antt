-- What is written of a table is read as that table.
use Rattle.tabled_language.proofs.Common.{[], ◌++◌, ◌<◌, ◌^◌, ◌∙◌, ◌∷◌, ◌≡◌, AllByRecursion, Grid, IsUtf8, Line, List, None, Ok, RecordLine, Rectangle, Script, SpanMap, State, ap, append-nil, append_assoc, ap₂, arith, codes, fault_among, filter_map, first_fault, flat_map, all_fit, line, lines_of, map, parse, print, record_in, refl, says_line, script_of, script_or_fault, shape_fault, span_fault, span_line, sym, tab_separated, table_from, true, ℕ, rectangles, from_rectangles}
use Rattle.tabled_language.specs.RoundTrip.{IsTable, ReadsBack}
use Rattle.tabled_language.proofs.BackToAnchors.{IsSpanIn, rectangles_fit, spans_in, from_rectangles-rectangles}
use Rattle.tabled_language.proofs.BackToLines.{IsSmall, all_back, row_back, shape_back, shape_words, span_back, span_words}
use Rattle.tabled_language.proofs.BackToRecords.{table_from-even}
use Rattle.tabled_language.proofs.BackToTexts.{lines_of-line, lines_of-lines}
use Rattle.tabled_language.proofs.Misfits.{no_misfit}
use Rattle.tabled_language.proofs.QuietLines.{anchors_are, in_place, records_are, shape_fine, span, steps_are, table}

abbrev shape_bytes : Grid (List ℕ) → List ℕ
shape_bytes g = line (codes "shape" ∷ shape_words g.rows g.columns)

abbrev row_bytes : List (List (List ℕ)) → List ℕ
row_bytes cells = flat_map (λ row. line (codes "row" ∷ row)) cells

-- the lines of what is printed
lines-print : (s : State) → lines_of (print s) ≡ tab_separated (codes "shape" ∷ shape_words s.texts.rows s.texts.columns) ∷ (map (λ (row : List (List ℕ)). tab_separated (codes "row" ∷ row)) s.texts.cells ++ (map (λ e. tab_separated (codes "span" ∷ span_words e)) (rectangles s.spans) ++ [] ∷ []))
lines-print s =
    let spans = flat_map span_line (rectangles s.spans) in
    ap lines_of (append_assoc (shape_bytes s.texts) (row_bytes s.texts.cells) spans)
    ∙ lines_of-line (codes "shape" ∷ shape_words s.texts.rows s.texts.columns) (row_bytes s.texts.cells ++ spans)
    ∙ ap (λ lines. tab_separated (codes "shape" ∷ shape_words s.texts.rows s.texts.columns) ∷ lines)
    (lines_of-lines (λ (row : List (List ℕ)). codes "row" ∷ row) s.texts.cells spans
    ∙ ap (λ lines. map (λ (row : List (List ℕ)). tab_separated (codes "row" ∷ row)) s.texts.cells ++ lines)
    (ap lines_of (sym (append-nil spans)) ∙ lines_of-lines (λ (e : Rectangle). codes "span" ∷ span_words e) (rectangles s.spans) []))

small : (rows columns : ℕ) (e : Rectangle) → rows < 2 ^ 64 → columns < 2 ^ 64 → IsSpanIn rows columns e → IsSmall e
small rows columns e r c h = record { row = omega (arith, r, h.bottom); col = omega (arith, c, h.right); height = omega (arith, r, h.bottom); width = omega (arith, c, h.right) }

-- what they say
says-print : (s : State) → IsTable s → map says_line (lines_of (print s)) ≡ table s.texts.rows s.texts.columns s.texts.cells (rectangles s.spans)
says-print s h =
    let r : s.texts.rows < 2 ^ 64 = omega (arith, h.rows) in
    let c : s.texts.columns < 2 ^ 64 = omega (arith, h.columns) in
    let spans = all_back (λ (e : Rectangle). codes "span" ∷ span_words e) span (IsSpanIn s.texts.rows s.texts.columns) (λ e inside. span_back e (small s.texts.rows s.texts.columns e r c inside) inside.size) (rectangles s.spans) ([] ∷ []) (spans_in s.spans s.texts.rows s.texts.columns h.fits) in
    let rows = all_back (λ (row : List (List ℕ)). codes "row" ∷ row) RecordLine (AllByRecursion IsUtf8) row_back s.texts.cells (map (λ e. tab_separated (codes "span" ∷ span_words e)) (rectangles s.spans) ++ [] ∷ []) h.texts in
    ap (map says_line) (lines-print s)
    ∙ ap₂ (λ (first : Line) (others : List Line). first ∷ others) (shape_back s.texts.rows s.texts.columns r c)
    (rows ∙ ap (λ lines. map RecordLine s.texts.cells ++ lines) spans)

no_fault : (g : Grid (List ℕ)) (es : List Rectangle) → table_from g.cells ≡ g → all_fit g.rows g.columns es ≡ true → fault_among (table g.rows g.columns g.cells es) ≡ None
no_fault g es even well =
    let is : table_from (filter_map record_in (table g.rows g.columns g.cells es)) ≡ g = ap table_from (records_are g.rows g.columns g.cells es) ∙ even in
    let shape : first_fault (shape_fault (table_from (filter_map record_in (table g.rows g.columns g.cells es)))) [] (table g.rows g.columns g.cells es) ≡ None = ap (λ h. first_fault (shape_fault h) [] (table g.rows g.columns g.cells es)) is ∙ shape_fine g g.cells es in
    let spans : first_fault (span_fault (table_from (filter_map record_in (table g.rows g.columns g.cells es)))) [] (table g.rows g.columns g.cells es) ≡ None = ap (λ h. first_fault (span_fault h) [] (table g.rows g.columns g.cells es)) is ∙ no_misfit g (table g.rows g.columns g.cells es) (ap (all_fit g.rows g.columns) (anchors_are g.rows g.columns g.cells es) ∙ well) in
    rw (in_place g.rows g.columns g.cells es, shape, spans) refl

abbrev scripted : List (List (List ℕ)) → SpanMap → List (State → State) → Script
scripted records spans steps = record { records = records; spans = spans; steps = steps }

script_is : (g : Grid (List ℕ)) (m : SpanMap) → script_of (table g.rows g.columns g.cells (rectangles m)) ≡ scripted g.cells m []
script_is g m = same (records_are g.rows g.columns g.cells (rectangles m)) (ap from_rectangles (anchors_are g.rows g.columns g.cells (rectangles m)) ∙ from_rectangles-rectangles m) (steps_are g.rows g.columns g.cells (rectangles m))
  where
    same : {xs ys : List (List (List ℕ))} {k n : SpanMap} {fs gs : List (State → State)} → xs ≡ ys → k ≡ n → fs ≡ gs → scripted xs k fs ≡ scripted ys n gs
    same a b c = rw (a, b, c) refl

-- what is printed is read as a script of the same rows and merged cells
pub parse-print : (s : State) → IsTable s → parse (print s) ≡ Ok (record { records = s.texts.cells; spans = s.spans; steps = [] })
parse-print s h =
    let well = rectangles_fit s.spans s.texts.rows s.texts.columns h.fits in
    ap script_or_fault (says-print s h)
    ∙ rw (no_fault s.texts (rectangles s.spans) (table_from-even s.texts h.even h.empty) well) (ap Ok (script_is s.texts s.spans))

-- the law
pub reads_back : (s : State) → IsTable s → ReadsBack s
reads_back s h = record { script = scripted s.texts.cells s.spans []; read = parse-print s h; starts = ap (λ (g : Grid (List ℕ)). let t : State = record { texts = g; spans = s.spans } in t) (table_from-even s.texts h.even h.empty); steps = refl }
