-- How writing ends.
use Rattle.std.specs.IoError.{error_kind}
use Rattle.std.specs.Prelude.{◌≡◌, ◌<◌, ◌≤◌, ℕ, List, [], Err, Ok, Result, length, slice_index_or}
use Rattle.std.specs.declared.io.Error.{Error}
use Rattle.std.specs.declared.io.ErrorKind.TheVariants as ErrorKind
use Rattle.tabled_json.specs.Tables.{AreDistinct}
use Rattle.tabled_texts.specs.Texts.{row_at}
use Rattle.tabled_json.specs.declared.fault.WriteError.{WriteError}
use Rattle.tabled_json.specs.declared.fault.WriteError.TheVariants.{EqualKeys, Failed, LongRow, OutOfMemory}

-- no row has more texts than the first, which has the keys
abbrev pub AreNarrow : List (List (List ℕ)) → Type 0
AreNarrow rows = (i : ℕ) → i < length rows → length (row_at rows i) ≤ length (row_at rows 0)

-- rows are records: their keys differ, and each of their texts has a key
pub record AreKeyed (rows : List (List (List ℕ))) : Type 0 where
  pub distinct : AreDistinct (row_at rows 0)
  pub narrow : AreNarrow rows

-- rows are no records: two keys are equal, or a row has more texts than there are keys
abbrev pub IsWhy : List (List (List ℕ)) → WriteError → Type 0
IsWhy rows (EqualKeys first second) = (first < second) × (second < length (row_at rows 0)) × (slice_index_or (row_at rows 0) first [] ≡ slice_index_or (row_at rows 0) second [])
IsWhy rows (LongRow row) = (row < length rows) × (length (row_at rows 0) < length (row_at rows row))
IsWhy rows OutOfMemory = Unit {0}
IsWhy rows (Failed error) = Unit {0}

-- it was not the writer that failed
abbrev pub IsRefused : WriteError → Type 0
IsRefused (Failed error) = ⊥
IsRefused OutOfMemory = Unit {0}
IsRefused (EqualKeys first second) = Unit {0}
IsRefused (LongRow row) = Unit {0}

-- it is not that a row is too long
abbrev pub IsNoLongRow : WriteError → Type 0
IsNoLongRow (LongRow row) = ⊥
IsNoLongRow OutOfMemory = Unit {0}
IsNoLongRow (EqualKeys first second) = Unit {0}
IsNoLongRow (Failed error) = Unit {0}

-- where the writer failed
abbrev pub OnFailed : Result (Unit {0}) WriteError → Type 0 → Type 0
OnFailed (Err (Failed error)) P = P
OnFailed (Err OutOfMemory) P = Unit {0}
OnFailed (Err (EqualKeys first second)) P = Unit {0}
OnFailed (Err (LongRow row)) P = Unit {0}
OnFailed (Ok _) P = Unit {0}

-- where nothing was written, and it was not the writer that failed
abbrev pub OnRefused : Result (Unit {0}) WriteError → Type 0 → Type 0
OnRefused (Err OutOfMemory) P = P
OnRefused (Err (EqualKeys first second)) P = P
OnRefused (Err (LongRow row)) P = P
OnRefused (Err (Failed error)) P = Unit {0}
OnRefused (Ok _) P = Unit {0}

-- an error of a program tells why rows were not written: that memory was refused, that they are no records, or the writer's own
abbrev pub IsToldBy : WriteError → Error → Type 0
IsToldBy OutOfMemory told = error_kind told ≡ ErrorKind.OutOfMemory
IsToldBy (EqualKeys first second) told = error_kind told ≡ ErrorKind.InvalidInput
IsToldBy (LongRow row) told = error_kind told ≡ ErrorKind.InvalidInput
IsToldBy (Failed error) told = told ≡ error
