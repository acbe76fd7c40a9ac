-- What a builder holds, and what its calls make of it.
use Rattle.std.specs.Prelude.{◌≡◌, ℕ, ◌+◌, ◌-◌, ◌<◌, Bool, true, ◌==◌, not, List, [], ◌∷◌, ◌++◌, length, map, max, replicate, take, slice_index_or, String}
use Rattle.std.specs.Global.{Global, Vec}
use Rattle.std.specs.List.{AllByRecursion, filter, insert, list_all, range_with_len, remove, zip}
use Rattle.std.specs.String.{string_bytes}
use Rattle.tabled_grid.specs.Grid.{Grid}

-- the declared columns, the records, each of that length, and the text that pads
pub record Builder : Type 0 where
  pub columns : ℕ
  pub rows : List (List (List ℕ))
  pub empty : List ℕ

-- the texts of rows that vectors hold
abbrev pub row_texts : List (Vec (String Global)) → List (List (List ℕ))
row_texts rows = map (λ (row : Vec (String Global)). map string_bytes row.items) rows

-- a list with one thing after it again and again, up to a length
abbrev pub padded_to : {A : Type 0} → ℕ → A → List A → List A
padded_to n filler xs = xs ++ replicate (n - length xs) filler

-- the length of the longest row
abbrev pub longest : {A : Type 0} → List (List A) → ℕ
longest [] = 0
longest (row ∷ rows) = max (length row) (longest rows)

-- a builder of rows of any lengths, padded with empty texts to the longest
abbrev pub from_uneven : List (List (List ℕ)) → Builder
from_uneven rows = record { columns = longest rows; rows = map (padded_to (longest rows) []) rows; empty = [] }

-- a row inserted before row i of others, which are padded to a length
abbrev pub with_row_at : {A : Type 0} → ℕ → A → List (List A) → ℕ → List A → List (List A)
with_row_at n filler rows i row = insert (map (padded_to n filler) rows) i row

-- a record inserted before record i, where all are padded to the longest
abbrev pub with_record : Builder → ℕ → List (List ℕ) → Builder
with_record b i texts =
    let columns = max b.columns (length texts) in
    record b { columns = columns; rows = with_row_at columns b.empty b.rows i (padded_to columns b.empty texts) }

-- the same after all records
abbrev pub with_last_record : Builder → List (List ℕ) → Builder
with_last_record b texts = with_record b (length b.rows) texts

-- each row with its item inserted at j
abbrev pub with_items : {A : Type 0} → ℕ → List (List A) → List A → List (List A)
with_items {A} j rows items = map (λ (p : List A × A). insert p.0 j p.1) (zip rows items)

-- an item pushed to each of so many rows of n members, where rows of a filler make up for those that lack
abbrev pub pushed_items : {A : Type 0} → ℕ → ℕ → A → List (List A) → List A → List (List A)
pushed_items count n filler rows items = with_items n (padded_to count (replicate n filler) rows) items

-- each row with its item, or with the empty text, inserted at j
abbrev pub with_items_at : ℕ → List ℕ → List (List (List ℕ)) → List (List ℕ) → List (List (List ℕ))
with_items_at j empty rows items = with_items j rows (padded_to (length rows) empty items)

-- a column inserted before column j, without its surplus items
abbrev pub builder_with_column : Builder → ℕ → List (List ℕ) → Builder
builder_with_column b j items = record b { columns = b.columns + 1; rows = with_items_at j b.empty b.rows (take (length b.rows) items) }

-- a column after the others, where each surplus item makes a row
abbrev pub with_last_column : Builder → List (List ℕ) → Builder
with_last_column b items =
    let rows = padded_to (length items) (replicate b.columns b.empty) b.rows in
    record b { columns = b.columns + 1; rows = with_items_at b.columns b.empty rows items }

-- the builder without record i; the declared columns stay
abbrev pub without_record : Builder → ℕ → Builder
without_record b i = record b { rows = remove b.rows i }

-- the builder without column j
abbrev pub builder_without_column : Builder → ℕ → Builder
builder_without_column b j = record b { columns = b.columns - 1; rows = map (λ (row : List (List ℕ)). remove row j) b.rows }

-- a text without bytes
abbrev pub is_empty_text : List ℕ → Bool
is_empty_text text = length text == 0

-- a row has a text at j
abbrev pub filled_at : List (List ℕ) → ℕ → Bool
filled_at row j = not (is_empty_text (slice_index_or row j []))

-- a row with a text
abbrev pub row_has_text : List (List ℕ) → Bool
row_has_text row = not (list_all is_empty_text row)

-- column j of rows
abbrev pub column_of : List (List (List ℕ)) → ℕ → List (List ℕ)
column_of rows j = map (λ row. slice_index_or row j []) rows

-- some row has a text in column j
abbrev pub has_text_in : List (List (List ℕ)) → ℕ → Bool
has_text_in rows j = row_has_text (column_of rows j)

-- the columns of n in which some row has a text
abbrev pub text_columns : ℕ → List (List (List ℕ)) → List ℕ
text_columns n rows = filter (has_text_in rows) (range_with_len 0 n)

-- rows with these of their columns alone, in this order
abbrev pub only_columns : List ℕ → List (List (List ℕ)) → List (List (List ℕ))
only_columns columns rows = map (λ (row : List (List ℕ)). map (λ j. slice_index_or row j []) columns) rows

-- the columns with a text
abbrev pub columns_with_text : Builder → List ℕ
columns_with_text b = text_columns b.columns b.rows

-- the columns without a text removed, and then the rows without one
abbrev pub cleaned : Builder → Builder
cleaned b =
    let kept = columns_with_text b in
    record b { columns = length kept; rows = filter row_has_text (only_columns kept b.rows) }

-- each row and each column has a text
pub record IsClean (b : Builder) : Type 0 where
  pub rows : AllByRecursion (λ row. row_has_text row ≡ true) b.rows
  pub columns : (j : ℕ) → j < b.columns → has_text_in b.rows j ≡ true

-- no rows and no columns
abbrev pub cleared : Builder → Builder
cleared b = record b { columns = 0; rows = [] }

-- the table of the rows; without rows it has no columns
abbrev pub table_of : Builder → Grid (List ℕ)
table_of b = record { rows = length b.rows; columns = columns_of b.rows; cells = b.rows }
  where
    columns_of : List (List (List ℕ)) → ℕ
    columns_of [] = 0
    columns_of (row ∷ rows) = b.columns
