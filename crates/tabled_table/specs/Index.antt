-- A table with an index: a header above its body, and a text beside each row of the body.
use Rattle.std.specs.Prelude.{◌≡◌, ◌+◌, ℕ, Bool, true, false, not, ◌&&◌, if◌then◌else◌, List, [], ◌∷◌, length, map, Option, None, Some, String, option_map, slice_get, nat_lt}
use Rattle.std.specs.Global.{Global, Vec}
use Rattle.std.specs.List.{range_with_len, remove}
use Rattle.std.specs.Fmt.{decimal}
use Rattle.std.specs.String.{string_bytes}
use Rattle.tabled_grid.specs.Bulk.{transposed_rows}
use Rattle.tabled_grid.specs.Evenness.{AreWide}
use Rattle.tabled_grid.specs.Grid.{width_of}
use Rattle.tabled_table.specs.Builder.{Builder, column_of, padded_to, row_texts, with_items}

-- the header, the index, the body, the index's name, and whether the index is shown and the table transposed
pub record Indexed : Type 0 where
  pub header : List (List ℕ)
  pub index : List (List ℕ)
  pub body : List (List (List ℕ))
  pub name : Option (List ℕ)
  pub shown : Bool
  pub is_transposed : Bool

-- these parts of texts that vectors hold
abbrev pub parts_of : List (String Global) → List (String Global) → List (Vec (String Global)) → Option (String Global) → Bool → Bool → Indexed
parts_of header index body name shown is_transposed = record { header = map string_bytes header; index = map string_bytes index; body = row_texts body; name = option_map string_bytes name; shown = shown; is_transposed = is_transposed }

-- the body has a row for each text of the index, and in it a text for each one of the header
pub record IsIndexed (x : Indexed) : Type 0 where
  pub tall : length x.body ≡ length x.index
  pub wide : AreWide (length x.header) x.body

-- the numbers from 0 on as texts
abbrev pub numbers : ℕ → List (List ℕ)
numbers n = map decimal (range_with_len 0 n)

-- a header above a body, and the numbers below one as the index
abbrev pub numbered : ℕ → List (List ℕ) → List (List (List ℕ)) → Indexed
numbered count header body = record { header = header; index = numbers count; body = body; name = None; shown = true; is_transposed = false }

-- the first row as the header, the others as the body, and their numbers as the index
abbrev pub indexed_rows : List (List (List ℕ)) → Option Indexed
indexed_rows [] = None
indexed_rows (header ∷ body) = Some (numbered (length body) header body)

-- column c as the index, and its header as the name
abbrev pub with_column_as_index : ℕ → Indexed → Indexed
with_column_as_index c x = record x { header = remove x.header c; index = column_of x.body c; body = map (λ (row : List (List ℕ)). remove row c) x.body; name = slice_get x.header c }

-- the same where there is such a column, and nothing changed where there is none
abbrev pub with_column_as_index_if_there : ℕ → Indexed → Indexed
with_column_as_index_if_there c x = if nat_lt c (length x.header) then with_column_as_index c x else x

-- header and index swapped, and the body transposed with them
abbrev pub transposed_index : Indexed → Indexed
transposed_index x = record x { header = x.index; index = x.header; body = transposed_rows (length x.header) x.body; is_transposed = not x.is_transposed }

-- the header and the body, where the index is shown with its texts first in their rows
abbrev pub with_index : Indexed → List (List (List ℕ))
with_index x = if x.shown then with_items 0 (x.header ∷ x.body) ([] ∷ x.index) else x.header ∷ x.body

-- rows with a name in the first cell, or first in a row of its own below the header; without cells it is left out
abbrev pub with_index_name : Bool → List ℕ → List (List (List ℕ)) → List (List (List ℕ))
with_index_name in_header name [] = []
with_index_name in_header name ([] ∷ rows) = [] ∷ rows
with_index_name true name ((first ∷ header) ∷ rows) = (name ∷ header) ∷ rows
with_index_name false name ((first ∷ header) ∷ rows) = (first ∷ header) ∷ padded_to (length header + 1) [] (name ∷ []) ∷ rows

-- rows with a name, if there is one
abbrev pub with_name_if : Bool → Option (List ℕ) → List (List (List ℕ)) → List (List (List ℕ))
with_name_if in_header None rows = rows
with_name_if in_header (Some name) rows = with_index_name in_header name rows

-- the rows of the table that is built: a transposed one has the name in its header, if its index is shown
abbrev pub built_rows : Indexed → List (List (List ℕ))
built_rows x = with_name_if (x.shown && x.is_transposed) x.name (with_index x)

-- no header, no index and no name
abbrev pub is_bare : Indexed → Bool
is_bare x = is_nothing x.header x.index x.name
  where
    is_nothing : List (List ℕ) → List (List ℕ) → Option (List ℕ) → Bool
    is_nothing [] [] None = true
    is_nothing header index name = false

-- a builder of rows, and of none where there is nothing to build
abbrev pub builder_of : Option Indexed → Builder
builder_of None = record { columns = 0; rows = []; empty = [] }
builder_of (Some x) = of_rows (if is_bare x then [] else built_rows x)
  where
    of_rows : List (List (List ℕ)) → Builder
    of_rows rows = record { columns = width_of rows; rows = rows; empty = [] }
