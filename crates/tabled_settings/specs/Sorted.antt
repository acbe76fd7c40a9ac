-- Rows in the order of their texts in a column.
use Rattle.std.specs.Prelude.{◌≡◌, ℕ, Bool, if◌then◌else◌, List, None, Option, Some, map}
use Rattle.std.proofs.Common.{subst, sym}
use Rattle.std.specs.Borrow.{Bor}
use Rattle.std.specs.Cmp.Lexicographic.{slice_cmp}
use Rattle.std.specs.List.{position_or_len, range_with_len}
use Rattle.std.specs.Ordering.{nat_cmp}
use Rattle.std.specs.String.{string_bytes}
use Rattle.std.specs.declared.cmp.Ordering.{Ordering}
use Rattle.std.specs.declared.cmp.Ordering.TheVariants.{Equal, Greater, Less}
use Rattle.tabled_decimal.specs.Numbers.{Number, decimal, number_cmp}
use Rattle.tabled_grid.specs.Entity.{place}
use Rattle.tabled_grid.specs.Grid.{Grid, map_grid}
use Rattle.tabled_grid.specs.Places.{Places}
use Rattle.tabled_grid.specs.Spans.{SpanMap}
use Rattle.tabled_grid.specs.declared.records.axis.Axis.TheVariants.{Rows}
use Rattle.tabled_options.specs.Does.{Change, Same, TableActsLike}
use Rattle.tabled_select.specs.Locators.{text_at, text_is}
use Rattle.tabled_settings.specs.InOrder.{sorted_from}
use Rattle.tabled_settings.specs.Keys.{lent_text}
use Rattle.tabled_settings.specs.Rearranged.{Rearranges, kept_lines}
use Rattle.tabled_settings.specs.declared.sort.Sort.{Sort}
use Rattle.tabled_settings.specs.declared.sort.SortColumn.{SortColumn}
use Rattle.tabled_settings.specs.declared.sort.SortColumn.TheVariants as column
use Rattle.tabled_settings.specs.declared.sort.SortKeys.{SortKeys}
use Rattle.tabled_settings.specs.declared.sort.SortKeys.TheVariants as keys

-- an order, or the opposite one
abbrev pub directed : {A : Type 0} → Bool → (A → A → Ordering) → A → A → Ordering
directed descending cmp a b = if descending then cmp b a else cmp a b

-- numbers in an order, and behind them what is none, all alike
abbrev pub numbers_first : (Number → Number → Ordering) → Option Number → Option Number → Ordering
numbers_first cmp (Some a) (Some b) = cmp a b
numbers_first cmp (Some a) None = Less
numbers_first cmp None (Some b) = Greater
numbers_first cmp None None = Equal

-- the order of texts: as bytes, or as the numbers that they write
abbrev pub text_order : SortKeys → Bool → List ℕ → List ℕ → Ordering
text_order keys.Texts descending a b = directed descending (slice_cmp nat_cmp) a b
text_order keys.Numbers descending a b = numbers_first (directed descending number_cmp) (decimal a) (decimal b)

-- the order of texts at two indexes
abbrev pub order_at : SortKeys → Bool → List (Bor (List ℕ)) → ℕ → ℕ → Ordering
order_at keys descending texts i j = text_order keys descending (lent_text texts i) (lent_text texts j)

-- the first column with a text in the first row; where none has it, the index past the columns, at which there is no text
abbrev pub first_named : List ℕ → Grid (List ℕ) → ℕ
first_named name g = position_or_len (λ (j : ℕ). text_is name g (place 0 j)) (range_with_len 0 g.columns)

-- the column that is told
abbrev pub sort_column : SortColumn → Grid (List ℕ) → ℕ
sort_column (column.Index j) g = j
sort_column (column.Name name) g = first_named (string_bytes name) g

-- the texts of a column, row by row
abbrev pub column_texts : Grid (List ℕ) → ℕ → List (List ℕ)
column_texts g j = map (λ (i : ℕ). text_at g (place i j)) (range_with_len 0 g.rows)

-- the order of rows by their texts in a column, of which a row or a column that isn't there has an empty one
abbrev pub row_order : (List ℕ → List ℕ → Ordering) → Grid (List ℕ) → ℕ → ℕ → ℕ → Ordering
row_order order g j a b = order (text_at g (place a j)) (text_at g (place b j))

-- the rows of a table from one on in the order of a column
abbrev pub sorted_rows : ℕ → (List ℕ → List ℕ → Ordering) → ℕ → Grid (List ℕ) → List ℕ
sorted_rows from order j g = sorted_from from (row_order order g j) g.rows

-- where the cells of a table come from whose rows are sorted
abbrev pub sorted : ℕ → (List ℕ → List ℕ → Ordering) → ℕ → Grid (List ℕ) → Places
sorted from order j g = kept_lines Rows (sorted_rows from order j g) g.rows g.columns

-- the same, as is told
abbrev pub sorted_as : Sort → Grid (List ℕ) → Places
sorted_as sort g = sorted sort.from (text_order sort.keys sort.descending) (sort_column sort.column g) g

-- the rows of a table are sorted, and the merged cells are carried along
abbrev pub SortsTable : {A : Type 0} → (A → List ℕ) → Sort → Change A SpanMap
SortsTable text_of sort old = Rearranges (sorted_as sort (map_grid text_of old)) old

-- what is sorted alike is the same
pub sorts_alike : {A : Type 0} (text_of : A → List ℕ) (first second : Sort) → second ≡ first → TableActsLike (Unit {0}) (Unit {0}) (SortsTable text_of first) (SortsTable text_of second) Same Same
sorts_alike text_of first second e = subst (λ (s : Sort). TableActsLike (Unit {0}) (Unit {0}) (SortsTable text_of first) (SortsTable text_of s) Same Same) (sym e)
    (record { can_be_used = λ c. c; does_alike = λ x old cfg new new_cfg does. does; leaves_alike = λ x old cfg new new_cfg left. left })
