-- A field at the front of bytes, and what is behind it.
use Rattle.std.specs.Prelude.{true, ◌≡◌, ◌<◌, ◌+◌, ℕ, List, [], ◌∷◌, ◌++◌, ◌⊎◌, length, take, drop, IsUtf8, false, slice_index}
use Rattle.std.specs.List.{list_any}
use Rattle.tabled_csv.specs.Grammar.{Dialect, IsForm, IsPlain, IsLineEnd, begins_with, doubled, ends_with, is_outside}
use Rattle.tabled_csv.specs.declared.quoted.Closing.{Closing}
use Rattle.tabled_csv.specs.declared.stop.Stop.{Stop}
use Rattle.tabled_csv.specs.declared.stop.Stop.TheVariants.{Separator, Line, End}

-- what is behind a field: a separator, the end of a line or that of the bytes
abbrev pub Stops : ℕ → List ℕ → List ℕ → Stop → List ℕ → Type 0
Stops separator field tail Separator after = tail ≡ separator ∷ after
Stops separator field tail Line after = (end : List ℕ) × IsLineEnd field end × (tail ≡ end ++ after)
Stops separator field tail End after = (tail ≡ []) × (after ≡ [])

-- bytes begin with a field that stands for a text, be it UTF-8 or not
pub record FormAt (dialect : Dialect) (bytes text : List ℕ) (stop : Stop) (after : List ℕ) : Type 0 where
  pub field : List ℕ
  pub tail : List ℕ
  pub parts : bytes ≡ field ++ tail
  pub form : IsForm dialect field text
  pub stops : Stops dialect.separator field tail stop after

-- bytes begin with a field
pub record FieldAt (dialect : Dialect) (bytes text : List ℕ) (stop : Stop) (after : List ℕ) : Type 0 where
  pub utf8 : IsUtf8 text
  pub at : FormAt dialect bytes text stop after

-- bytes begin with no field
abbrev pub NoFieldAt : Dialect → List ℕ → Type 0
NoFieldAt dialect bytes = (text : List ℕ) (stop : Stop) (after : List ℕ) → FieldAt dialect bytes text stop after → ⊥

-- bytes begin with the end of a line
abbrev pub BlankAt : List ℕ → List ℕ → Type 0
BlankAt bytes after = (bytes ≡ 10 ∷ after) ⊎ (bytes ≡ 13 ∷ 10 ∷ after)

-- bytes before a line feed, and those of them that are before the end of the line
abbrev pub EndsLine : List ℕ → List ℕ → Type 0
EndsLine bytes line = (bytes ≡ line ++ (13 ∷ [])) ⊎ ((line ≡ bytes) × (ends_with 13 bytes ≡ false))

-- at a place stands the first byte that doesn't stand in a plain field
pub record IsFirstOutside (separator : ℕ) (bytes : List ℕ) (place : ℕ) : Type 0 where
  pub inside : place < length bytes
  pub within : list_any (is_outside separator) (take place bytes) ≡ false
  pub outside : is_outside separator (slice_index bytes place) ≡ true

-- bytes begin with a plain field
pub record PlainAt (dialect : Dialect) (bytes text : List ℕ) (stop : Stop) (after : List ℕ) : Type 0 where
  pub tail : List ℕ
  pub parts : bytes ≡ text ++ tail
  pub plain : IsPlain dialect text
  pub stops : Stops dialect.separator text tail stop after

-- what is behind a closing quote
abbrev pub StopsQuoted : ℕ → List ℕ → Stop → List ℕ → Type 0
StopsQuoted separator tail stop after = Stops separator [] tail stop after

-- nothing that may stand behind a closing quote is there
abbrev pub NoStop : ℕ → List ℕ → Type 0
NoStop separator tail = (stop : Stop) (after : List ℕ) → StopsQuoted separator tail stop after → ⊥

-- bytes behind a quote begin with the rest of a field between quotes
pub record ClosesAt (bytes text after : List ℕ) : Type 0 where
  pub parts : bytes ≡ doubled text ++ (34 ∷ after)
  pub single : begins_with 34 after ≡ false

-- no quote closes the field
abbrev pub NeverCloses : List ℕ → Type 0
NeverCloses bytes = (text after : List ℕ) → ClosesAt bytes text after → ⊥

-- a quote closes a field: the text before it, which is the bytes themselves where none is doubled
pub record ClosedBy (bytes : List ℕ) (closing : Closing) : Type 0 where
  pub inside : closing.place < length bytes
  pub text : List ℕ
  pub inner : take closing.place bytes ≡ doubled text
  pub closes : ClosesAt bytes text (drop (closing.place + 1) bytes)
  pub same : closing.has_doubled ≡ false → take closing.place bytes ≡ text
