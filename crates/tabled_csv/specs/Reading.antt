-- What is read from the front of bytes.
use Rattle.std.specs.Prelude.{◌≡◌, ◌⊎◌, ℕ, List, [], ◌∷◌, ◌++◌}
use Rattle.tabled_csv.specs.Grammar.{Dialect, IsCsv, IsLines}
use Rattle.tabled_csv.specs.Faults.{AreParted, FaultAt, FaultIn}
use Rattle.tabled_csv.specs.Fields.{FieldAt}
use Rattle.tabled_csv.specs.declared.fault.Fault.{Fault}
use Rattle.tabled_csv.specs.declared.fault.ReadError.{ReadError}
use Rattle.tabled_csv.specs.declared.fault.ReadError.TheVariants as error
use Rattle.tabled_csv.specs.declared.stop.Stop.TheVariants.{Separator, Line, End}

-- where memory was not refused, there is a fault in a line
abbrev pub AtFault : (ℕ → Fault → Type 0) → ReadError → Type 0
AtFault P (error.Faulty line fault) = P line fault
AtFault P error.OutOfMemory = Unit {0}

-- bytes begin with a record and the end of its line
abbrev pub RecordAt : Dialect → List ℕ → List (List ℕ) → List ℕ → Type 0
RecordAt dialect bytes [] after = ⊥
RecordAt dialect bytes (text ∷ []) after = FieldAt dialect bytes text Line after ⊎ FieldAt dialect bytes text End after
RecordAt dialect bytes (text ∷ next ∷ texts) after = (rest : List ℕ) × FieldAt dialect bytes text Separator rest × RecordAt dialect rest (next ∷ texts) after

-- bytes begin with no record
abbrev pub NoRecordAt : Dialect → List ℕ → Type 0
NoRecordAt dialect bytes = (row : List (List ℕ)) (after : List ℕ) → RecordAt dialect bytes row after → ⊥

-- bytes begin with no record, and why
pub record RecordFault (dialect : Dialect) (bytes : List ℕ) (fault : Fault) (left : ℕ) : Type 0 where
  pub none : NoRecordAt dialect bytes
  pub front : List ℕ
  pub rest : List ℕ
  pub parts : bytes ≡ front ++ rest
  pub fields : AreParted dialect front
  pub is : FaultAt dialect rest fault left

-- bytes are no lines of records
abbrev pub NoLines : Dialect → List ℕ → Type 0
NoLines dialect bytes = (rows : List (List (List ℕ))) → IsLines dialect bytes rows → ⊥

-- bytes are no lines, and why
pub record LinesFault (dialect : Dialect) (bytes : List ℕ) (fault : Fault) (left : ℕ) : Type 0 where
  pub none : NoLines dialect bytes
  pub is : FaultIn dialect bytes fault left

-- bytes mean no rows
abbrev pub NoRows : Dialect → List ℕ → Type 0
NoRows dialect bytes = (rows : List (List (List ℕ))) → IsCsv dialect bytes rows → ⊥
