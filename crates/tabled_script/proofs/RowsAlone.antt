-- Rows without lines behind them are the script of these rows.
use Rattle.tabled_grid.specs.Spans.{empty}
use Rattle.tabled_language.proofs.BackToRecords.{table_from-even}
use Rattle.tabled_language.proofs.Common.{Grid, IsEven, Line, RecordLine, anchor_in, append-nil, fault_among, fault_of, filter_map, first_fault, is_in_place, record_in, script_of, shape_fault, span_fault, step_in}
use Rattle.tabled_language.proofs.QuietLines.{all-push, block, passed, picked}
use Rattle.tabled_language.specs.Line.{table_from}
use Rattle.tabled_language.specs.Script.{parse_between}
use Rattle.tabled_script.proofs.Common.{[], ◌++◌, ◌∙◌, ◌∷◌, ◌≡◌, IsEven-map_grid, List, None, Ok, Script, Vec, ap, arith, ended, grid_of, length, map, map-id, map_grid, map_items, refl, sym, true, width_of, ℕ}
use Rattle.tabled_script.specs.InMemory.{state_by}
use Rattle.tabled_settings.proofs.Common.{map-map}

abbrev record_lines : List (List (List ℕ)) → List Line
record_lines rows = map RecordLine rows ++ []

-- a record may stand behind these lines
TakesRecords : List Line → Type 0
TakesRecords earlier = (texts : List (List ℕ)) → is_in_place earlier (RecordLine texts) ≡ true

in_place : (rows : List (List (List ℕ))) → first_fault fault_of [] (record_lines rows) ≡ None
unfolding TakesRecords
in_place rows = block fault_of RecordLine TakesRecords
    (λ earlier texts takes. rw (takes texts) refl)
    (λ earlier texts takes others. all-push (RecordLine others) (RecordLine texts) earlier (takes others) refl)
    rows [] [] (λ texts. refl)
    (λ later takes. refl)

no_shape_differs : (g : Grid (List ℕ)) (rows : List (List (List ℕ))) → first_fault (shape_fault g) [] (record_lines rows) ≡ None
no_shape_differs g rows = block (shape_fault g) RecordLine (λ earlier. Unit {0}) (λ earlier texts kept. refl) (λ earlier texts kept. tt) rows [] [] tt (λ later kept. refl)

no_span_misfits : (g : Grid (List ℕ)) (rows : List (List (List ℕ))) → first_fault (span_fault g) [] (record_lines rows) ≡ None
no_span_misfits g rows = block (span_fault g) RecordLine (λ earlier. Unit {0}) (λ earlier texts kept. refl) (λ earlier texts kept. tt) rows [] [] tt (λ later kept. refl)

no_fault : (rows : List (List (List ℕ))) → fault_among (record_lines rows) ≡ None
no_fault rows = rw (in_place rows, no_shape_differs _ rows, no_span_misfits _ rows) refl

-- the rows alone
abbrev pub rows_alone : List (List (List ℕ)) → Script
rows_alone rows = record { records = rows; spans = empty; steps = [] }

records_are : (rows : List (List (List ℕ))) → filter_map record_in (record_lines rows) ≡ rows
records_are rows = picked record_in RecordLine (λ texts. texts) (λ texts. refl) rows [] ∙ append-nil (map (λ (texts : List (List ℕ)). texts) rows) ∙ map-id rows

script_is : (rows : List (List (List ℕ))) → script_of (record_lines rows) ≡ rows_alone rows
script_is rows = rw (records_are rows, passed anchor_in RecordLine (λ texts. refl) rows [], passed step_in RecordLine (λ texts. refl) rows []) refl

pub parse_between-rows : (rows : List (List (List ℕ))) → parse_between rows [] [] ≡ Ok (rows_alone rows)
parse_between-rows rows = rw (no_fault rows) (ap Ok (script_is rows))

-- without rows there are no columns
pub rowless : {A : Type 0} (rows : List (List A)) → length rows ≡ 0 → width_of rows ≡ 0
rowless [] none = refl
rowless (row ∷ rows) none = absurd (omega (arith, none))

-- equally long rows are the table that this script ends with
pub ended-alone : {A : Type 0} (text : A → List ℕ) (rows : List (Vec A)) → IsEven (grid_of (map_items rows)) → ended (rows_alone (map (λ (row : Vec A). map text row.items) rows)) ≡ state_by text rows empty
ended-alone {A} text rows even =
    let cells = map_items rows in
    let same = map-map (map text) (λ (row : Vec A). row.items) rows in
    let table : table_from (map (λ (row : Vec A). map text row.items) rows) ≡ map_grid text (grid_of cells) = ap table_from (sym same) ∙ table_from-even (map_grid text (grid_of cells)) (IsEven-map_grid text (grid_of cells) even) (λ none. rowless cells none) in
    ap (λ (texts : Grid (List ℕ)). record { texts = texts; spans = empty }) table
