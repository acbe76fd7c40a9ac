-- Texts that are lent, or their own.
use Rattle.std.specs.Prelude.{ℕ, List, map, Option, None, Some}
use Rattle.std.specs.Global.{Vec}
use Rattle.std.specs.String.{string_bytes}
use Rattle.tabled_grid.specs.Grid.{map_items}
use Rattle.tabled_language.specs.declared.lent.LentText.{LentText}
use Rattle.tabled_language.specs.declared.lent.LentText.TheVariants.{Lent, Str, Short, Own}

-- the text, as its bytes
abbrev pub bytes_of : LentText → List ℕ
bytes_of (Lent text) = text
bytes_of (Str text) = text.now
bytes_of (Short text) = text
bytes_of (Own text) = string_bytes text.value

-- the word that stands for a text, where the bytes of a script lend it
abbrev pub lent_word : LentText → Option (List ℕ)
lent_word (Lent text) = Some text
lent_word (Str text) = None
lent_word (Short text) = None
lent_word (Own text) = None

-- the texts of a row
abbrev pub texts_in_row : Vec LentText → List (List ℕ)
texts_in_row row = map bytes_of row.items

-- the texts of records
abbrev pub texts_in_records : List (Vec LentText) → List (List (List ℕ))
texts_in_records records = map (map bytes_of) (map_items records)
