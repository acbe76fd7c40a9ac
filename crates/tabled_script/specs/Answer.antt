-- What the program writes for a script.
use Rattle.std.specs.Prelude.{◌≡◌, ℕ, List, [], ◌∷◌, ◌++◌, codes, None, Option}
use Rattle.std.specs.Fmt.{decimal}
use Rattle.std.specs.Io.KnownBytes.{Appends}
use Rattle.std.specs.List.{fold}
use Rattle.tabled_csv.specs.Writing.{csv_of}
use Rattle.tabled_draw.specs.Markdown.{markdown}
use Rattle.tabled_draw.specs.Picture.{drawn, drawn_with}
use Rattle.tabled_grid.specs.Fitting.{Fits}
use Rattle.tabled_html.specs.Elements.{html}
use Rattle.tabled_json.specs.Writes.{AreKeyed}
use Rattle.tabled_json.specs.Writing.{json_of}
use Rattle.tabled_language.specs.Faults.{fault_number}
use Rattle.tabled_language.specs.Script.{Script, start}
use Rattle.tabled_language.specs.declared.fault.Fault.{Fault}
use Rattle.tabled_language.specs.Output.{print}
use Rattle.tabled_language.specs.RoundTrip.{IsTable}
use Rattle.tabled_script.specs.Aligners.{aligner}
use Rattle.tabled_script.specs.Narrow.{IsNarrowPicture, narrowed}
use Rattle.tabled_script.specs.Html.{ShowsGrid, look_of}
use Rattle.tabled_script.specs.Keys.{HasEqualKeys}
use Rattle.tabled_script.specs.declared.form.Form.{Form}
use Rattle.tabled_script.specs.declared.form.Form.TheVariants as form
use Rattle.tabled_steps.specs.States.{State}

-- a state after changes, one after another
abbrev pub changed : List (State → State) → State → State
changed changes s = fold (λ t change. change t) s changes

-- the state that a script ends with: its records, padded, and its merged cells, after its steps
abbrev pub ended : Script → State
ended script = changed script.steps (start script)

-- the output of a script: the state that it ends with
abbrev pub output_of : Script → List ℕ
output_of script = print (ended script)

-- the picture of a script: of the state that it ends with
abbrev pub picture_of : Script → List ℕ
picture_of script = drawn (ended script).texts (ended script).spans

-- a state is written as these bytes
abbrev pub IsWrittenAs : Form → State → List ℕ → Type 0
IsWrittenAs form.Script s bytes = bytes ≡ print s
IsWrittenAs (form.Picture style alignments) s bytes = bytes ≡ drawn_with style (aligner alignments s.texts) s.texts s.spans
IsWrittenAs (form.NarrowPicture width style alignments) s bytes = IsNarrowPicture width style (aligner alignments s.texts) s.texts s.spans bytes
IsWrittenAs (form.Markdown alignments) s bytes = bytes ≡ markdown (aligner alignments s.texts) s.texts s.spans
IsWrittenAs (form.Csv separator) s bytes = bytes ≡ csv_of separator s.texts.cells
IsWrittenAs (form.Json layout values) s bytes = bytes ≡ json_of layout values s.texts.cells
IsWrittenAs (form.Html page) s bytes = bytes ≡ html s.texts s.spans (look_of page s.texts)

-- a state can't be written so: no picture of it is as narrow as is asked for, or two keys are equal
abbrev pub IsUnwritable : Form → State → Type 0
IsUnwritable form.Script s = ⊥
IsUnwritable (form.Picture style alignments) s = ⊥
IsUnwritable (form.NarrowPicture width style alignments) s = narrowed width style s.spans s.texts ≡ None
IsUnwritable (form.Markdown alignments) s = ⊥
IsUnwritable (form.Csv separator) s = ⊥
IsUnwritable (form.Json layout values) s = HasEqualKeys s.texts.cells
IsUnwritable (form.Html page) s = ⊥

-- `line N: fault K`
abbrev pub fault_line : ℕ × Fault → List ℕ
fault_line fault = codes "line " ++ (decimal fault.0 ++ (codes ": fault " ++ (decimal (fault_number fault.1) ++ 10 ∷ [])))

-- `out of memory`
abbrev pub memory_line : List ℕ
memory_line = codes "out of memory" ++ 10 ∷ []

-- a state is a table that is read back, if its merged cells fit
abbrev pub IsTableIfFitting : State → Type 0
IsTableIfFitting s = Fits s.spans s.texts.rows s.texts.columns → IsTable s

-- what is known of a state that was written
abbrev pub known_as : Form → State → Type 0
known_as form.Script s = IsTableIfFitting s
known_as (form.Picture style alignments) s = Unit {0}
known_as (form.NarrowPicture width style alignments) s = Unit {0}
known_as (form.Markdown alignments) s = Unit {0}
known_as (form.Csv separator) s = Unit {0}
known_as (form.Json layout values) s = AreKeyed s.texts.cells
known_as (form.Html page) s = ShowsGrid page s.texts s.spans

-- a state was written in a form, and what is known of it then
abbrev pub ShowsState : Form → State → Option (List ℕ) → Option (List ℕ) → Type 0
ShowsState how s old new = (bytes : List ℕ) × IsWrittenAs how s bytes × Appends old new bytes × known_as how s
