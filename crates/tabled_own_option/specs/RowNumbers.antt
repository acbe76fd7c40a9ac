-- A first column of row numbers.
use Rattle.std.specs.Fmt.{decimal}
use Rattle.std.specs.List.{range_with_len}
use Rattle.std.specs.Prelude.{◌≡◌, ℕ, List, map}
use Rattle.tabled_grid.specs.Grid.{Grid}
use Rattle.tabled_grid.specs.Spans.{SpanMap}
use Rattle.tabled_carry.specs.PutIn.{PutsInColumn}

-- the numbers 1, 2, .. of n rows, as texts
abbrev pub row_numbers : ℕ → List (List ℕ)
row_numbers n = map decimal (range_with_len 1 n)

-- a first column of row numbers is put in, and merged cells go one column to the right
pub record NumbersRows {A : Type 0} (text_of : A → List ℕ) (g : Grid A) (m : SpanMap) (h : Grid A) (n : SpanMap) : Type 0 where
  pub column : List A
  pub texts : map text_of column ≡ row_numbers g.rows
  pub put_in : PutsInColumn 0 column g m h n
