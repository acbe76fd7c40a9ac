-- A grid whose cells lie in a list for each column.
use Rattle.std.proofs.Common.{◌≡◌, ℕ, List, length}
use Rattle.std.proofs.lemmas.List.Elements.{recursion_from_All}
use Rattle.std.specs.List.{All}
use Rattle.tabled_grid.proofs.Transposed.{length-transposed, wide-transposed}
use Rattle.tabled_grid.specs.Bulk.{transposed_rows}
use Rattle.tabled_grid.specs.Evenness.{EvenGrid, wide-equation}
use Rattle.tabled_grid.specs.Grid.{Grid}

-- columns of r cells each, and without rows no columns
pub record AreColumns {A : Type 0} (rows : ℕ) (columns : List (List A)) : Type 0 where
  pub long : All (λ (column : List A). length column ≡ rows) columns
  pub rowless : rows ≡ 0 → length columns ≡ 0

-- the grid of columns of r cells each
abbrev pub column_grid : {A : Type 0} → ℕ → List (List A) → Grid A
column_grid rows columns = record { rows = rows; columns = length columns; cells = transposed_rows rows columns }

-- the same, with what is true of it
abbrev pub even_columns : {A : Type 0} → (rows : ℕ) (columns : List (List A)) → AreColumns rows columns → EvenGrid A
even_columns rows columns h = record {
  grid = column_grid rows columns;
  tall = length-transposed rows columns (recursion_from_All _ _ h.long);
  wide = wide-equation rows (length columns) (transposed_rows rows columns) (length-transposed rows columns (recursion_from_All _ _ h.long)) (wide-transposed rows columns);
  rowless = h.rowless;
}
