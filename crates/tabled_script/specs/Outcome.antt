-- What comes of a script: its table written, or why it isn't.
use Rattle.std.specs.Prelude.{◌≡◌, ◌⊎◌, ℕ, Bool, if◌then◌else◌, List, Option, None, Result, Ok, Err}
use Rattle.std.specs.Io.KnownBytes.{Appends}
use Rattle.tabled_draw.specs.Width.{picture_width}
use Rattle.tabled_draw.specs.declared.style.Style.{Style}
use Rattle.tabled_grid.specs.Grid.{Grid}
use Rattle.tabled_grid.specs.Spans.{SpanMap}
use Rattle.tabled_language.specs.Parsing.{cell_texts}
use Rattle.tabled_language.specs.Script.{Script, parse, parse_between}
use Rattle.tabled_language.specs.declared.fault.Fault.{Fault}
use Rattle.tabled_script.specs.Answer.{IsUnwritable, ShowsState, ended, fault_line, memory_line}
use Rattle.tabled_script.specs.Inputs.{HasFaulty, HasTable, HeadsDiffer}
use Rattle.tabled_script.specs.Narrow.{at_widest_pieces, narrowed}
use Rattle.tabled_script.specs.Status.{done, failed, faulty, noted, out_of_memory}
use Rattle.tabled_script.specs.declared.form.Form.{Form}
use Rattle.tabled_script.specs.declared.inputs.JoinError.TheVariants as join_error
use Rattle.tabled_script.specs.declared.inputs.RowsError.TheVariants as rows_error
use Rattle.tabled_script.specs.declared.inputs.SourcesError.{SourcesError}
use Rattle.tabled_script.specs.declared.inputs.SourcesError.TheVariants.{Unread, Unjoined}
use Rattle.tabled_script.specs.declared.json_form.EqualKeys.{EqualKeys as Keys}
use Rattle.tabled_script.specs.declared.outcome.Unwritten.{Unwritten}
use Rattle.tabled_script.specs.declared.outcome.Unwritten.TheVariants.{Faulty, TooNarrow, EqualKeys, OutOfMemory, Failed}
use Rattle.tabled_script.specs.declared.picture.TooNarrow.{TooNarrow as Narrow}
use Rattle.tabled_script.specs.declared.request.Request.{Request}
use Rattle.tabled_steps.specs.States.{State}

-- why a table wasn't written, with what is known where no picture is as narrow as is asked for, and where two keys are equal
abbrev pub Fails : (Narrow → Type 0) → (Keys → Type 0) → Option (List ℕ) → Option (List ℕ) → Unwritten → Type 0
Fails of_narrow of_keys old new (Faulty line fault) = ⊥
Fails of_narrow of_keys old new (TooNarrow narrow) = of_narrow narrow × (new ≡ old)
Fails of_narrow of_keys old new (EqualKeys keys) = of_keys keys × (new ≡ old)
Fails of_narrow of_keys old new OutOfMemory = new ≡ old
Fails of_narrow of_keys old new Failed = Unit {0}

-- the same where any table can be written so
abbrev pub OnlyFails : Option (List ℕ) → Option (List ℕ) → Unwritten → Type 0
OnlyFails = Fails (λ _. ⊥) (λ _. ⊥)

-- no picture of a table is as narrow as is asked for: it takes so many columns
abbrev pub IsTooNarrow : ℕ → Style → SpanMap → Grid (List ℕ) → Narrow → Type 0
IsTooNarrow n style m g narrow = (narrowed n style m g ≡ None) × (narrow.takes ≡ picture_width style (at_widest_pieces g) m)

-- the status of why a table wasn't written
abbrev pub status_of : Unwritten → ℕ
status_of (Faulty line fault) = faulty
status_of (TooNarrow narrow) = faulty
status_of (EqualKeys keys) = faulty
status_of OutOfMemory = out_of_memory
status_of Failed = failed

-- the status of the outcome of an answer, by whether something was told of what was checked
abbrev pub status_with_notes : {U : Type 0} → Result U Unwritten → Bool → ℕ
status_with_notes (Ok u) has_notes = if has_notes then noted else done
status_with_notes (Err why) has_notes = status_of why

-- the status of why files have no table
abbrev pub status_of_error : SourcesError → ℕ
status_of_error (Unread index (rows_error.Faulty line fault)) = faulty
status_of_error (Unread index rows_error.OutOfMemory) = out_of_memory
status_of_error (Unjoined index (join_error.Differs head first file)) = faulty
status_of_error (Unjoined index join_error.OutOfMemory) = out_of_memory

-- what an outcome says of a state and what a writer had and has
abbrev pub ComesOfState : {U : Type 0} → Form → State → Option (List ℕ) → Option (List ℕ) → Result U Unwritten → Type 0
ComesOfState how s old new (Ok u) = ShowsState how s old new
ComesOfState how s old new (Err why) = Fails (λ _. IsUnwritable how s) (λ _. IsUnwritable how s) old new why

-- what an outcome says of what was read and what a writer had and has
abbrev pub Comes : {U : Type 0} → Form → Result Script (ℕ × Fault) → Option (List ℕ) → Option (List ℕ) → Result U Unwritten → Type 0
Comes how read old new (Ok u) = (script : Script) × (read ≡ Ok script) × ShowsState how (ended script) old new
Comes how read old new (Err (Faulty line fault)) = (read ≡ Err (line, fault)) × (new ≡ old)
Comes how read old new (Err (TooNarrow narrow)) = (script : Script) × (read ≡ Ok script) × IsUnwritable how (ended script) × (new ≡ old)
Comes how read old new (Err (EqualKeys keys)) = (script : Script) × (read ≡ Ok script) × IsUnwritable how (ended script) × (new ≡ old)
Comes how read old new (Err OutOfMemory) = new ≡ old
Comes how read old new (Err Failed) = Unit {0}

-- what was read gives no table: a line is faulty, or the one that it makes can't be written so
abbrev pub GivesNoTable : Form → Result Script (ℕ × Fault) → Type 0
GivesNoTable how read = ((fault : ℕ × Fault) × (read ≡ Err fault)) ⊎ ((script : Script) × (read ≡ Ok script) × IsUnwritable how (ended script))

-- a request gets no table: a file has no rows, or first rows differ, or what is read gives none
abbrev pub FindsNoTable : Request → List ℕ → Type 0
FindsNoTable request script =
    HasFaulty request.sources.items ⊎ (HeadsDiffer request.sources.items
    ⊎ ((rows : List (List (List ℕ))) × HasTable request.sources.items rows × GivesNoTable request.form (parse_between rows script (cell_texts request.steps.items))))

-- the table of a script was written, and what is known of it then
abbrev pub ShowsTable : Form → List ℕ → Option (List ℕ) → Option (List ℕ) → Type 0
ShowsTable how input old new = (script : Script) × (parse input ≡ Ok script) × ShowsState how (ended script) old new

-- the line of a script's fault was written, or its table can't be written so
abbrev pub ShowsNoTable : Form → List ℕ → Option (List ℕ) → Option (List ℕ) → Type 0
ShowsNoTable how input old new =
    ((fault : ℕ × Fault) × (parse input ≡ Err fault) × Appends old new (fault_line fault))
    ⊎ ((script : Script) × (parse input ≡ Ok script) × IsUnwritable how (ended script))

-- a run ends with bytes and a status, unless writing failed
abbrev pub EndsBy : List ℕ → ℕ → ℕ → Option (List ℕ) → Option (List ℕ) → Type 0
EndsBy bytes own status old new = (status ≡ failed) ⊎ ((status ≡ own) × Appends old new bytes)

-- how a run ends by its outcome: with the line of its fault, or that memory ran out, or with no more bytes
abbrev pub Ends : {U : Type 0} → Result U Unwritten → ℕ → Option (List ℕ) → Option (List ℕ) → Type 0
Ends (Ok u) status old new = (status ≡ done) × (new ≡ old)
Ends (Err (Faulty line fault)) status old new = EndsBy (fault_line (line, fault)) faulty status old new ⊎ EndsBy memory_line out_of_memory status old new
Ends (Err (TooNarrow narrow)) status old new = (status ≡ faulty) × (new ≡ old)
Ends (Err (EqualKeys keys)) status old new = (status ≡ faulty) × (new ≡ old)
Ends (Err OutOfMemory) status old new = EndsBy memory_line out_of_memory status old new
Ends (Err Failed) status old new = status ≡ failed
