-- What CSV means: bytes that are rows of texts.
use Rattle.std.specs.Prelude.{true, ◌≡◌, ◌≢◌, ◌<◌, ◌⊎◌, ◌==◌, ◌&&◌, ◌||◌, ℕ, Bool, false, List, [], ◌∷◌, ◌++◌, if◌then◌else◌, IsUtf8}
use Rattle.std.specs.List.{list_any}
use Rattle.tabled_texts.specs.Marks.{behind_mark}

-- what may part fields: a byte of ASCII that is no quote and has no part in the end of a line
pub record IsSeparator (separator : ℕ) : Type 0 where
  pub ascii : separator < 128
  pub no_quote : separator ≢ 34
  pub no_line_feed : separator ≢ 10
  pub no_carriage_return : separator ≢ 13

-- how records stand in bytes: what parts their fields, and whether a field may stand between quotes
pub record Dialect : Type 0 where
  pub separator : ℕ
  pub quoting : Bool

-- the dialect of a separator, in which fields may stand between quotes
abbrev pub with_quotes : ℕ → Dialect
with_quotes separator = record { separator = separator; quoting = true }

-- bytes begin with a byte
abbrev pub begins_with : ℕ → List ℕ → Bool
begins_with b [] = false
begins_with b (c ∷ bytes) = c == b

-- bytes end with a byte
abbrev pub ends_with : ℕ → List ℕ → Bool
ends_with b [] = false
ends_with b (c ∷ []) = c == b
ends_with b (c ∷ d ∷ bytes) = ends_with b (d ∷ bytes)

-- a byte that doesn't stand in a plain field
abbrev pub is_outside : ℕ → ℕ → Bool
is_outside separator b = (b == separator) || (b == 10)

-- bytes begin with a quote that opens a field
abbrev pub opens : Dialect → List ℕ → Bool
opens dialect bytes = begins_with 34 bytes && dialect.quoting

-- bytes that stand for themselves: they hold no separator and no line feed, and begin with no quote that opens a field
pub record IsPlain (dialect : Dialect) (bytes : List ℕ) : Type 0 where
  pub within : list_any (is_outside dialect.separator) bytes ≡ false
  pub unquoted : opens dialect bytes ≡ false

-- bytes in which each quote is doubled
abbrev pub doubled : List ℕ → List ℕ
doubled [] = []
doubled (b ∷ bytes) = if b == 34 then 34 ∷ 34 ∷ doubled bytes else b ∷ doubled bytes

-- a text between quotes
abbrev pub quoted : List ℕ → List ℕ
quoted text = 34 ∷ (doubled text ++ (34 ∷ []))

-- a field: a text that stands for itself or, in a dialect that quotes, one between quotes
abbrev pub IsForm : Dialect → List ℕ → List ℕ → Type 0
IsForm dialect bytes text = (IsPlain dialect bytes × (bytes ≡ text)) ⊎ ((bytes ≡ quoted text) × (dialect.quoting ≡ true))

-- a field of a text: UTF-8, and one of its forms
pub record IsField (dialect : Dialect) (bytes text : List ℕ) : Type 0 where
  pub utf8 : IsUtf8 text
  pub form : IsForm dialect bytes text

-- the fields of a record, parted by separators
abbrev pub IsRecord : Dialect → List ℕ → List (List ℕ) → Type 0
IsRecord dialect bytes [] = ⊥
IsRecord dialect bytes (text ∷ []) = IsField dialect bytes text
IsRecord dialect bytes (text ∷ next ∷ texts) =
    (field : List ℕ) × (rest : List ℕ) × (bytes ≡ field ++ (dialect.separator ∷ rest)) × IsField dialect field text × IsRecord dialect rest (next ∷ texts)

-- the rows of a line: none where it is blank, and else its record
abbrev pub IsLine : Dialect → List ℕ → List (List (List ℕ)) → Type 0
IsLine dialect [] rows = rows ≡ []
IsLine dialect (b ∷ bytes) rows = (row : List (List ℕ)) × (rows ≡ row ∷ []) × IsRecord dialect (b ∷ bytes) row

-- the end of a line: a carriage return and a line feed, or a line feed that is behind no carriage return
abbrev pub IsLineEnd : List ℕ → List ℕ → Type 0
IsLineEnd line end = (end ≡ 13 ∷ 10 ∷ []) ⊎ ((end ≡ 10 ∷ []) × (ends_with 13 line ≡ false))

-- lines with their ends, of which the last may have none, and their rows
pub data IsLines : Dialect → List ℕ → List (List (List ℕ)) → Type 0 where
  last : {dialect : Dialect} {bytes : List ℕ} {rows : List (List (List ℕ))} → IsLine dialect bytes rows → IsLines dialect bytes rows
  line : {dialect : Dialect} {bytes : List ℕ} {rows : List (List (List ℕ))} (line end rest : List ℕ) (here more : List (List (List ℕ)))
      → bytes ≡ line ++ (end ++ rest) → rows ≡ here ++ more
      → IsLine dialect line here → IsLineEnd line end → IsLines dialect rest more → IsLines dialect bytes rows

-- bytes are rows of texts
abbrev pub IsCsv : Dialect → List ℕ → List (List (List ℕ)) → Type 0
IsCsv dialect bytes rows = IsLines dialect (behind_mark bytes) rows
