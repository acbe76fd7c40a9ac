-- What the laws of JSON records say.
use Rattle.std.specs.List.{AllByRecursion}
use Rattle.std.specs.Prelude.{◌≡◌, ◌++◌, ℕ, List, [], ◌∷◌, length}
use Rattle.tabled_json.specs.Faults.{IsFault, IsTableFault}
use Rattle.tabled_json.specs.Grammar.{ValueAt}
use Rattle.tabled_json.specs.Meanings.{MeansNoTable, MeansTable}
use Rattle.tabled_json.specs.Records.{MeansNoRecords, MeansRecords}
use Rattle.tabled_json.specs.Strings.{StringAt}
use Rattle.tabled_json.specs.Tables.{AreDistinct, table_of}
use Rattle.tabled_json.specs.Writing.{json_of, records_of, records_text, string_of}
use Rattle.tabled_json.specs.declared.fault.Fault.{Fault}
use Rattle.tabled_json.specs.declared.form.Layout.{Layout}
use Rattle.tabled_json.specs.declared.form.Values.{Values}

-- bytes mean one list of records at most
abbrev pub MeansOneList : List ℕ → Type 0
MeansOneList bytes = (objects others : List (List (List ℕ × List ℕ))) → MeansRecords bytes objects → MeansRecords bytes others → objects ≡ others

-- bytes mean one table at most
abbrev pub MeansOneTable : List ℕ → Type 0
MeansOneTable bytes = (rows others : List (List (List ℕ))) → MeansTable bytes rows → MeansTable bytes others → rows ≡ others

-- one fault at most shows, in one place
abbrev pub HasOneFault : (ℕ → ℕ → Fault → Type 0) → Type 0
HasOneFault Shows =
    (line other_line column other_column : ℕ) (fault other : Fault) → Shows line column fault → Shows other_line other_column other
    → (line ≡ other_line) × (column ≡ other_column) × (fault ≡ other)

-- bytes that have a fault mean no records, and those that have one as a table no table
pub record FaultyMeansNone (bytes : List ℕ) : Type 0 where
  pub records : (line column : ℕ) (fault : Fault) → IsFault bytes line column fault → MeansNoRecords bytes
  pub table : (line column : ℕ) (fault : Fault) → IsTableFault bytes line column fault → MeansNoTable bytes

-- one thing at most is behind a value
abbrev pub EndsOnce : List ℕ → Type 0
EndsOnce bytes = (after other : List ℕ) → ValueAt bytes after → ValueAt bytes other → after ≡ other

-- a written text is this text, whatever is behind it, and no other
pub record IsReadBack (text after : List ℕ) : Type 0 where
  pub means : StringAt (string_of text ++ after) text after
  pub only : (other behind : List ℕ) → StringAt (string_of text ++ after) other behind → (other ≡ text) × (behind ≡ after)

-- what is written of records, in any form, means these records, and no others
pub record AreReadBack (objects : List (List (List ℕ × List ℕ))) : Type 0 where
  pub means : (layout : Layout) (values : Values) → MeansRecords (records_text layout values objects) objects
  pub only : (layout : Layout) (values : Values) (others : List (List (List ℕ × List ℕ))) → MeansRecords (records_text layout values objects) others → others ≡ objects

-- rows have keys that differ, and under them a row at least, and each row a text for each key
abbrev pub IsTable : List (List (List ℕ)) → Type 0
IsTable [] = ⊥
IsTable (keys ∷ []) = ⊥
IsTable (keys ∷ row ∷ rows) = AreDistinct keys × AllByRecursion (λ texts. length texts ≡ length keys) (row ∷ rows)

-- what is written of rows, in any form, means records, and their table is these rows
abbrev pub RowsAreReadBack : List (List (List ℕ)) → Type 0
RowsAreReadBack rows =
    (layout : Layout) (values : Values) → MeansRecords (json_of layout values rows) (records_of rows) × (table_of (records_of rows) ≡ rows)
