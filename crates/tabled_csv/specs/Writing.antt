-- How rows are written.
use Rattle.std.specs.Prelude.{◌≡◌, IsUtf8, ℕ, Bool, true, false, ◌&&◌, ◌||◌, ◌==◌, List, [], ◌∷◌, ◌++◌, if◌then◌else◌, Err, Ok, Result}
use Rattle.std.specs.List.{AllByRecursion, list_any}
use Rattle.std.specs.IoError.{error_kind}
use Rattle.std.specs.declared.io.Error.{Error}
use Rattle.std.specs.declared.io.ErrorKind.TheVariants as ErrorKind
use Rattle.tabled_csv.specs.Grammar.{IsCsv, quoted, with_quotes}
use Rattle.tabled_csv.specs.declared.fault.WriteError.{WriteError}
use Rattle.tabled_csv.specs.declared.fault.WriteError.TheVariants.{Failed, OutOfMemory}
use Rattle.tabled_texts.specs.Marks.{begins_with_mark}

-- a byte that asks for quotes
abbrev pub is_special : ℕ → ℕ → Bool
is_special separator b = (b == separator) || ((b == 34) || ((b == 13) || (b == 10)))

-- a text with such a byte
abbrev pub holds_special : ℕ → List ℕ → Bool
holds_special separator text = list_any (is_special separator) text

-- nothing is listed
abbrev pub is_none : {A : Type 0} → List A → Bool
is_none [] = true
is_none (x ∷ xs) = false

-- a field, between quotes or not
abbrev pub field_of : Bool → List ℕ → List ℕ
field_of is_quoted text = if is_quoted then quoted text else text

-- the fields behind the first one of a record, with the separators before them
abbrev pub others_of : ℕ → List (List ℕ) → List ℕ
others_of separator [] = []
others_of separator (text ∷ texts) = separator ∷ (field_of (holds_special separator text) text ++ others_of separator texts)

-- the first field of a record stands between quotes also where it is empty and alone, and where it would read as a byte order mark
abbrev pub first_is_quoted : ℕ → Bool → List ℕ → List (List ℕ) → Bool
first_is_quoted separator is_first text texts =
    holds_special separator text || ((is_none texts && is_none text) || (is_first && begins_with_mark text))

-- a record with the end of its line
abbrev pub record_of : ℕ → Bool → List (List ℕ) → List ℕ
record_of separator is_first [] = 10 ∷ []
record_of separator is_first (text ∷ texts) =
    (field_of (first_is_quoted separator is_first text texts) text ++ others_of separator texts) ++ (10 ∷ [])

-- records one after another, of which the first may be that of the table
abbrev pub lines_of : ℕ → Bool → List (List (List ℕ)) → List ℕ
lines_of separator is_first [] = []
lines_of separator is_first (row ∷ rows) = record_of separator is_first row ++ lines_of separator false rows

-- rows as they are written
abbrev pub csv_of : ℕ → List (List (List ℕ)) → List ℕ
csv_of separator rows = lines_of separator true rows

-- what is written of rows means these rows
abbrev pub WrittenMeans : ℕ → List (List (List ℕ)) → Type 0
WrittenMeans separator rows = IsCsv (with_quotes separator) (csv_of separator rows) rows

-- each is UTF-8
abbrev pub AreTexts : List (List ℕ) → Type 0
AreTexts row = AllByRecursion IsUtf8 row

-- each row has a field
abbrev pub HaveFields : List (List (List ℕ)) → Type 0
HaveFields rows = AllByRecursion (λ row. is_none row ≡ false) rows

-- each row has a field, and the fields are texts
abbrev pub AreRows : List (List (List ℕ)) → Type 0
AreRows rows = HaveFields rows × AllByRecursion AreTexts rows

-- what is written of rows means these rows, and no others
pub record IsReadBack (separator : ℕ) (rows : List (List (List ℕ))) : Type 0 where
  pub means : WrittenMeans separator rows
  pub only : (others : List (List (List ℕ))) → IsCsv (with_quotes separator) (csv_of separator rows) others → others ≡ rows

-- where the writer failed
abbrev pub OnFailed : Result (Unit {0}) WriteError → Type 0 → Type 0
OnFailed (Ok _) P = Unit {0}
OnFailed (Err OutOfMemory) P = Unit {0}
OnFailed (Err (Failed error)) P = P

-- an error of a program tells why rows were not written: that memory was refused, or the writer's own
abbrev pub IsToldBy : WriteError → Error → Type 0
IsToldBy OutOfMemory told = error_kind told ≡ ErrorKind.OutOfMemory
IsToldBy (Failed error) told = told ≡ error
