-- Records that are written as lines are read as these records.
use Rattle.tabled_language.proofs.Common.{[], ◌++◌, ◌∙◌, ◌∷◌, ◌≡◌, AllByRecursion, EmptyLine, Grid, IsUtf8, Line, List, None, Ok, RecordLine, Script, ap, append-nil, anchor_in, codes, empty, fault_among, fault_of, filter_map, first_fault, is_in_place, lines_of, map, map-id, parse, record_in, refl, says_line, script_of, script_or_fault, shape_fault, span_fault, step_in, sym, true, ℕ}
use Rattle.tabled_language.specs.Output.{row_lines}
use Rattle.tabled_language.specs.RoundTrip.{ReadsRows}
use Rattle.tabled_language.proofs.BackToLines.{all_back, row_back}
use Rattle.tabled_language.proofs.BackToTexts.{lines_of-lines}
use Rattle.tabled_language.proofs.LooseLines.{loose_place}
use Rattle.tabled_language.proofs.QuietLines.{all-push, block, passed, picked}

-- records, and nothing behind the last newline
abbrev record_lines : List (List (List ℕ)) → List Line
record_lines rows = map RecordLine rows ++ EmptyLine ∷ []

says-row_lines : (rows : List (List (List ℕ))) → AllByRecursion (AllByRecursion IsUtf8) rows → map says_line (lines_of (row_lines rows)) ≡ record_lines rows
says-row_lines rows utf8 =
    ap (λ bytes. map says_line (lines_of bytes)) (sym (append-nil (row_lines rows)))
    ∙ ap (map says_line) (lines_of-lines (λ (row : List (List ℕ)). codes "row" ∷ row) rows [])
    ∙ all_back (λ (row : List (List ℕ)). codes "row" ∷ row) RecordLine (AllByRecursion IsUtf8) row_back rows ([] ∷ []) utf8

-- a record may stand behind these lines
TakesRecords : List Line → Type 0
TakesRecords earlier = (texts : List (List ℕ)) → is_in_place earlier (RecordLine texts) ≡ true

in_place : (rows : List (List (List ℕ))) → first_fault fault_of [] (record_lines rows) ≡ None
unfolding TakesRecords
in_place rows = block fault_of RecordLine TakesRecords
    (λ earlier texts takes. rw (takes texts) refl)
    (λ earlier texts takes others. all-push (RecordLine others) (RecordLine texts) earlier (takes others) refl)
    rows (EmptyLine ∷ []) [] (λ texts. refl)
    (λ later takes. rw (loose_place EmptyLine later tt) refl)

no_shape_differs : (g : Grid (List ℕ)) (rows : List (List (List ℕ))) → first_fault (shape_fault g) [] (record_lines rows) ≡ None
no_shape_differs g rows = block (shape_fault g) RecordLine (λ earlier. Unit {0}) (λ earlier texts kept. refl) (λ earlier texts kept. tt) rows (EmptyLine ∷ []) [] tt (λ later kept. refl)

no_span_misfits : (g : Grid (List ℕ)) (rows : List (List (List ℕ))) → first_fault (span_fault g) [] (record_lines rows) ≡ None
no_span_misfits g rows = block (span_fault g) RecordLine (λ earlier. Unit {0}) (λ earlier texts kept. refl) (λ earlier texts kept. tt) rows (EmptyLine ∷ []) [] tt (λ later kept. refl)

no_fault : (rows : List (List (List ℕ))) → fault_among (record_lines rows) ≡ None
no_fault rows = rw (in_place rows, no_shape_differs _ rows, no_span_misfits _ rows) refl

-- the records alone
abbrev scripted : List (List (List ℕ)) → Script
scripted rows = record { records = rows; spans = empty; steps = [] }

records_are : (rows : List (List (List ℕ))) → filter_map record_in (record_lines rows) ≡ rows
records_are rows = picked record_in RecordLine (λ texts. texts) (λ texts. refl) rows (EmptyLine ∷ []) ∙ append-nil (map (λ (texts : List (List ℕ)). texts) rows) ∙ map-id rows

script_is : (rows : List (List (List ℕ))) → script_of (record_lines rows) ≡ scripted rows
script_is rows = rw (records_are rows, passed anchor_in RecordLine (λ texts. refl) rows (EmptyLine ∷ []), passed step_in RecordLine (λ texts. refl) rows (EmptyLine ∷ [])) refl

parse-row_lines : (rows : List (List (List ℕ))) → AllByRecursion (AllByRecursion IsUtf8) rows → parse (row_lines rows) ≡ Ok (scripted rows)
parse-row_lines rows utf8 = ap script_or_fault (says-row_lines rows utf8) ∙ rw (no_fault rows) (ap Ok (script_is rows))

-- the law
pub reads_rows : (rows : List (List (List ℕ))) → AllByRecursion (AllByRecursion IsUtf8) rows → ReadsRows rows
reads_rows rows utf8 = record { script = scripted rows; read = parse-row_lines rows utf8; starts = refl; steps = refl }
