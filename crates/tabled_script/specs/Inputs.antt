-- The rows of files, and the table of all of them, one behind another.
use Rattle.std.specs.Prelude.{◌≡◌, ◌<◌, ℕ, if◌then◌else◌, List, [], ◌∷◌, ◌++◌, get_or, length, take, Option, None, Some, bytes_eq}
use Rattle.std.specs.Cmp.Lexicographic.{pointwise}
use Rattle.std.specs.List.{AllZip, fold}
use Rattle.std.specs.Option.{option_and_then}
use Rattle.tabled_csv.specs.Faults.{IsFault}
use Rattle.tabled_csv.specs.Grammar.{IsCsv}
use Rattle.tabled_csv.specs.Reading.{NoRows}
use Rattle.tabled_json.specs.Faults.{IsTableFault}
use Rattle.tabled_json.specs.Meanings.{MeansNoTable, MeansTable}
use Rattle.tabled_script.specs.declared.inputs.JoinError.{JoinError}
use Rattle.tabled_script.specs.declared.inputs.JoinError.TheVariants as join_error
use Rattle.tabled_script.specs.declared.inputs.RowsError.{RowsError}
use Rattle.tabled_script.specs.declared.inputs.RowsError.TheVariants as rows_error
use Rattle.tabled_script.specs.declared.inputs.SourceFault.{SourceFault}
use Rattle.tabled_script.specs.declared.inputs.SourceFault.TheVariants as source_fault
use Rattle.tabled_script.specs.declared.inputs.SourcesError.{SourcesError}
use Rattle.tabled_script.specs.declared.inputs.SourcesError.TheVariants.{Unread, Unjoined}
use Rattle.tabled_script.specs.declared.request.Format.{Format}
use Rattle.tabled_script.specs.declared.request.Format.TheVariants as format
use Rattle.tabled_script.specs.declared.request.Source.{Source}

-- bytes have these rows in a format
abbrev pub HasRowsIn : Format → List ℕ → List (List (List ℕ)) → Type 0
HasRowsIn (format.Csv dialect) bytes rows = IsCsv dialect bytes rows
HasRowsIn format.Json bytes rows = MeansTable bytes rows

-- bytes have no rows in a format, as shows in a line
abbrev pub IsFaultyIn : Format → List ℕ → ℕ → SourceFault → Type 0
IsFaultyIn (format.Csv dialect) bytes line (source_fault.Csv fault) = NoRows dialect bytes × IsFault dialect bytes line fault
IsFaultyIn (format.Csv dialect) bytes line (source_fault.Json column fault) = ⊥
IsFaultyIn format.Json bytes line (source_fault.Csv fault) = ⊥
IsFaultyIn format.Json bytes line (source_fault.Json column fault) = MeansNoTable bytes × IsTableFault bytes line column fault

-- a file has these rows
abbrev pub HasRows : Source → List (List (List ℕ)) → Type 0
HasRows source rows = HasRowsIn source.format source.bytes.items rows

-- rows behind others: a first row that is that of the others stands once, and another can't stand there
abbrev pub behind : List (List (List ℕ)) → List (List (List ℕ)) → Option (List (List (List ℕ)))
behind [] rows = Some rows
behind (head ∷ rows) [] = Some (head ∷ rows)
behind (head ∷ rows) (first ∷ others) = if pointwise bytes_eq head first then Some (head ∷ (rows ++ others)) else None

-- tables, one behind another
abbrev pub joined : List (List (List (List ℕ))) → Option (List (List (List ℕ)))
joined tables = fold (λ before rows. option_and_then (λ whole. behind whole rows) before) (Some []) tables

-- the table of files: the rows of each, one behind another
abbrev pub HasTable : List Source → List (List (List ℕ)) → Type 0
HasTable sources rows = (tables : List (List (List (List ℕ)))) × AllZip HasRows sources tables × (joined tables ≡ Some rows)

-- a file among others has no rows, as shows in a line
pub record HasFaulty (sources : List Source) : Type 0 where
  pub index : ℕ
  pub within : index < length sources
  pub source : Source
  pub is : source ≡ get_or sources index source
  pub line : ℕ
  pub fault : SourceFault
  pub faulty : IsFaultyIn source.format source.bytes.items line fault

-- one of so many first files begins with another row than those before it
pub record HeadsDiffer (sources : List Source) : Type 0 where
  pub many : ℕ
  pub tables : List (List (List (List ℕ)))
  pub rows : AllZip HasRows (take many sources) tables
  pub differ : joined tables ≡ None

-- why bytes have no rows, if not for want of memory
abbrev pub NoRowsIn : Format → List ℕ → RowsError → Type 0
NoRowsIn how bytes (rows_error.Faulty line fault) = IsFaultyIn how bytes line fault
NoRowsIn how bytes rows_error.OutOfMemory = Unit {0}

-- rows don't stand behind others, if not for want of memory
abbrev pub NotBehind : List (List (List ℕ)) → List (List (List ℕ)) → JoinError → Type 0
NotBehind rows others (join_error.Differs head first file) = behind rows others ≡ None
NotBehind rows others join_error.OutOfMemory = Unit {0}

-- why files have no table, if not for want of memory
abbrev pub NoTable : List Source → SourcesError → Type 0
NoTable sources (Unread index (rows_error.Faulty line fault)) = HasFaulty sources
NoTable sources (Unread index rows_error.OutOfMemory) = Unit {0}
NoTable sources (Unjoined index (join_error.Differs head first file)) = HeadsDiffer sources
NoTable sources (Unjoined index join_error.OutOfMemory) = Unit {0}
