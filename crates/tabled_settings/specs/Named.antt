-- Rows and columns by names.
use Rattle.std.specs.Prelude.{ℕ, ◌-◌, ◌==◌, ◌||◌, if◌then◌else◌, Bool, false, true, List, [], ◌∷◌, Option, Some, min, nat_eq, nat_lt, not, take}
use Rattle.std.specs.Cmp.Lexicographic.{pointwise}
use Rattle.std.specs.List.{filter, flat_map, list_any, range_with_len}
use Rattle.std.specs.String.{string_bytes}
use Rattle.std.specs.declared.cmp.Ordering.{Ordering}
use Rattle.std.specs.declared.cmp.Ordering.TheVariants.{Equal, Greater, Less}
use Rattle.tabled_decimal.specs.Numbers.{Number, decimal, number_cmp}
use Rattle.tabled_grid.specs.Entity.{place}
use Rattle.tabled_grid.specs.Grid.{Grid}
use Rattle.tabled_grid.specs.declared.config.offset.Offset.{Offset}
use Rattle.tabled_grid.specs.declared.config.offset.Offset.TheVariants.{End, Start}
use Rattle.tabled_select.specs.Locators.{columns_with, text_at}
use Rattle.tabled_settings.specs.declared.line_names.ColumnName.{ColumnName}
use Rattle.tabled_settings.specs.declared.line_names.ColumnName.TheVariants as column
use Rattle.tabled_settings.specs.declared.line_names.RowName.{RowName}
use Rattle.tabled_settings.specs.declared.line_names.RowName.TheVariants as row
use Rattle.tabled_settings.specs.declared.text_test.Comparison.{Comparison}
use Rattle.tabled_settings.specs.declared.text_test.Comparison.TheVariants as comparison
use Rattle.tabled_settings.specs.declared.text_test.TextTest.{TextTest}
use Rattle.tabled_settings.specs.declared.text_test.TextTest.TheVariants as test

-- the index that is counted from either end of n: none before the start
abbrev pub counted : Offset → ℕ → List ℕ
counted (Start i) n = i ∷ []
counted (End i) n = if (i == 0) || nat_lt n i then [] else (n - i) ∷ []

-- the index that is counted from either end of n, cut at both ends
abbrev pub cut_index : Offset → ℕ → ℕ
cut_index (Start i) n = min i n
cut_index (End i) n = n - i

-- the indexes from one up to another, of n
abbrev pub sliced : Offset → Offset → ℕ → List ℕ
sliced from to n = range_with_len (cut_index from n) (cut_index to n - cut_index from n)

-- an order is one of those that a comparison accepts
abbrev pub accepts : Comparison → Ordering → Bool
accepts comparison.Less Less = true
accepts comparison.LessOrEqual Less = true
accepts comparison.LessOrEqual Equal = true
accepts comparison.GreaterOrEqual Equal = true
accepts comparison.GreaterOrEqual Greater = true
accepts comparison.Greater Greater = true
accepts _ _ = false

-- two numbers are in such an order
abbrev pub are_in_order : Comparison → Option Number → Option Number → Bool
are_in_order how (Some a) (Some b) = accepts how (number_cmp a b)
are_in_order how _ _ = false

-- a text passes a test: it is another one, or it isn't, or both are numbers, in an order
abbrev pub text_passes : TextTest → List ℕ → Bool
text_passes (test.Is wanted) text = pointwise nat_eq text (string_bytes wanted)
text_passes (test.IsNot other) text = not (pointwise nat_eq text (string_bytes other))
text_passes (test.Compares how number) text = are_in_order how (decimal text) (decimal (string_bytes number))

-- in one of some columns a row has a text that passes a test
abbrev pub row_passes : (List ℕ → Bool) → List ℕ → Grid (List ℕ) → ℕ → Bool
row_passes passes columns g i = list_any (λ (j : ℕ). passes (text_at g (place i j))) columns

-- the rows below the first that have a text that passes a test, in one of some columns
abbrev pub rows_passing : (List ℕ → Bool) → List ℕ → Grid (List ℕ) → List ℕ
rows_passing passes columns g = filter (row_passes passes columns g) (range_with_len 1 (g.rows - 1))

-- the columns that a name names, in a table of texts
abbrev pub columns_named : Grid (List ℕ) → ColumnName → List ℕ
columns_named g (column.At index) = counted index g.columns
columns_named g (column.Between from to) = sliced from to g.columns
columns_named g (column.Text name) = columns_with (string_bytes name) g

-- the first column with a text in the first row, if there is one
abbrev pub first_with : List ℕ → Grid (List ℕ) → List ℕ
first_with name g = take 1 (columns_with name g)

-- such rows, by the first column of a name
abbrev pub rows_where : List ℕ → (List ℕ → Bool) → Grid (List ℕ) → List ℕ
rows_where name passes g = rows_passing passes (first_with name g) g

-- the rows that a name names
abbrev pub rows_named : Grid (List ℕ) → RowName → List ℕ
rows_named g (row.At index) = counted index g.rows
rows_named g (row.Between from to) = sliced from to g.rows
rows_named g (row.Where name test) = rows_where (string_bytes name) (text_passes test) g

-- the columns of names, of one behind another
abbrev pub all_columns_named : List ColumnName → Grid (List ℕ) → List ℕ
all_columns_named names g = flat_map (columns_named g) names

-- the rows of names, of one behind another
abbrev pub all_rows_named : List RowName → Grid (List ℕ) → List ℕ
all_rows_named names g = flat_map (rows_named g) names
