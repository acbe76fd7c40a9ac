-- What is built of the parts of a table.
use Rattle.std.specs.Prelude.{◌≡◌, ◌++◌, ◌∷◌, if◌then◌else◌, ℕ, Bool, List, MatchOption, MatchResult, [], Option, Result, Some, false}
use Rattle.tabled_html_reading.specs.Building.{Built, Mode, built_after}
use Rattle.tabled_html_reading.specs.Building.Mode.{Behind, InRow, InTable, InTableBody}
use Rattle.tabled_html_reading.specs.Elements.{Attribute, Element, Table}
use Rattle.tabled_html_reading.specs.Tokenizing.{Tag}
use Rattle.tabled_html_reading.specs.Tokenizing.Token.{Marked}
use Rattle.tabled_html_elements.specs.Reading.{AreNone, IsBetween, built_from, in_cell, opened, with_group}
use Rattle.tabled_html_elements.specs.declared.fault.ReadError.{ReadError}

-- what is built in a mode outside of row groups
abbrev pub outside_groups : Mode → Table → Built
outside_groups mode table = opened mode table false [] []

-- the table of bytes behind what is built in a mode outside of row groups
abbrev pub built_outside : Mode → List ℕ → Table → Option Table
built_outside mode bytes table = built_from (Some (outside_groups mode table)) bytes

-- the table of bytes behind a row group, which the table's end tag may have ended
abbrev pub built_behind_group : Bool → List ℕ → Table → Option Table
built_behind_group is_last bytes table = built_outside (if is_last then Behind else InTable) bytes table

-- the table of a tag in a table and of the bytes behind it
abbrev pub built_behind_tag : Tag → List ℕ → Table → Option Table
built_behind_tag start bytes table = built_from (built_after (Some (outside_groups InTable table)) (Marked start)) bytes

-- this holds of all that is built in a mode between texts
abbrev pub EachBetween : (Built → Type 0) → Type 0
EachBetween P = (b : Built) → IsBetween b.mode → P b

-- behind all that is built in a mode between texts, the table of bytes is that of an end, or the one that a value leaves to be
-- built; where bytes are no table, there is none
abbrev pub ContinuesBetween : {T : Type 0} → Result (Option T) ReadError → List ℕ
    → (Built → Option Table) → (T → Built → Option Table) → Type 0
ContinuesBetween result bytes end rest = MatchResult result
    (λ next. MatchOption next (EachBetween (λ b. built_from (Some b) bytes ≡ end b)) (λ r. EachBetween (λ b. built_from (Some b) bytes ≡ rest r b)))
    (λ e. EachBetween (λ b. AreNone b bytes e))

-- in a cell of each row, bytes are the rest of that cell, which the row then has, and other bytes behind it
abbrev pub AddsCell : Bool → List Attribute → List ℕ → Element → List ℕ → Type 0
AddsCell is_header attributes bytes cell after = (table : Table) (is_head : Bool) (rows : List (List Element)) (cells : List Element)
    → built_from (Some (in_cell table is_head rows cells is_header attributes)) bytes
    ≡ built_from (Some (opened InRow table is_head rows (cells ++ (cell ∷ [])))) after

-- in a cell of each row, bytes are no table, if they were faulty
abbrev pub AddsNoCell : Bool → List Attribute → List ℕ → ReadError → Type 0
AddsNoCell is_header attributes bytes e = (table : Table) (is_head : Bool) (rows : List (List Element)) (cells : List Element)
    → AreNone (in_cell table is_head rows cells is_header attributes) bytes e

-- in a row of each row group, bytes are the rest of that row, which the group then has, and other bytes behind it
abbrev pub AddsRow : List ℕ → List Element → List ℕ → Type 0
AddsRow bytes row after = (table : Table) (is_head : Bool) (rows : List (List Element))
    → built_from (Some (opened InRow table is_head rows [])) bytes
    ≡ built_from (Some (opened InTableBody table is_head (rows ++ (row ∷ [])) [])) after

-- in a row of each row group, bytes are no table, if they were faulty
abbrev pub AddsNoRow : List ℕ → ReadError → Type 0
AddsNoRow bytes e = (table : Table) (is_head : Bool) (rows : List (List Element)) → AreNone (opened InRow table is_head rows []) bytes e

-- behind the old rows of a row group of each table, bytes are the rest of that group, which then has the new rows, and other
-- bytes behind it
abbrev pub AddsRows : Bool → List (List Element) → List ℕ → Bool → List (List Element) → List ℕ → Type 0
AddsRows is_head old bytes is_last new after = (table : Table)
    → built_from (Some (opened InTableBody table is_head old [])) bytes
    ≡ built_behind_group is_last after (with_group table is_head new)

-- behind these rows of a row group of each table, bytes are no table, if they were faulty
abbrev pub AddsNoRows : Bool → List (List Element) → List ℕ → ReadError → Type 0
AddsNoRows is_head old bytes e = (table : Table) → AreNone (opened InTableBody table is_head old []) bytes e
