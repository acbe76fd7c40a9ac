-- Rearrangements of a table of texts: where the cells of the new one come from.
use Rattle.std.specs.Prelude.{◌≡◌, ℕ, List, Some, refl}
use Rattle.std.specs.declared.cmp.Ordering.{Ordering}
use Rattle.tabled_grid.specs.Along.{count_along}
use Rattle.tabled_grid.specs.Bounds.{indexes}
use Rattle.tabled_grid.specs.Grid.{Grid}
use Rattle.tabled_grid.specs.Places.{Places}
use Rattle.tabled_grid.specs.declared.config.position.Position.{Position}
use Rattle.tabled_grid.specs.declared.records.axis.Axis.{Axis}
use Rattle.tabled_grid.specs.declared.records.axis.Axis.TheVariants.{Columns}
use Rattle.tabled_select.specs.Locators.{columns_with}
use Rattle.tabled_settings.specs.Kept.{kept}
use Rattle.tabled_settings.specs.Rearranged.{extracted, removed, rotated}
use Rattle.tabled_settings.specs.Sorted.{sorted}
use Rattle.tabled_settings.specs.declared.rotate.Rotate.{Rotate}
use Rattle.tabled_settings.specs.declared.rotate.Rotate.TheVariants.{Left}
use Rattle.tabled_steps.specs.Selected.{half_open}

-- each place of the new tables has an old one
abbrev pub HaveOldPlaces : (Grid (List ℕ) → Places) → Type 0
HaveOldPlaces places = (g : Grid (List ℕ)) (p : Position) → (q : Position) × ((places g).old_place p ≡ Some q)

-- where the cells come from, by the table: each from one of its places
pub record Rearrangement : Type 0 where
  pub places : Grid (List ℕ) → Places
  pub each : HaveOldPlaces places

-- the places of a table that is turned
abbrev pub turned : Rotate → Grid (List ℕ) → Places
turned rotate g = rotated rotate g.rows g.columns

-- each has an old one
abbrev pub turned_places : (rotate : Rotate) → HaveOldPlaces (turned rotate)
turned_places Left g p = (_, refl)
turned_places _ g p = (_, refl)

-- a quarter turn, or upside down
abbrev pub turn : Rotate → Rearrangement
turn rotate = record { places = turned rotate; each = turned_places rotate }

-- a range of rows and one of columns alone
abbrev pub extract : ℕ → ℕ → ℕ → ℕ → Rearrangement
extract a b c d = record { places = λ g. extracted (half_open a b) (half_open c d) g.rows g.columns; each = λ g p. (_, refl) }

-- all but the rows, or the columns, of a range
abbrev pub remove_range : Axis → ℕ → ℕ → Rearrangement
remove_range axis a b = record { places = λ g. removed axis (indexes (half_open a b) (count_along axis g)) g.rows g.columns; each = λ g p. (_, refl) }

-- all but the columns with a text in the first row
abbrev pub remove_named : List ℕ → Rearrangement
remove_named name = record { places = λ g. removed Columns (columns_with name g) g.rows g.columns; each = λ g p. (_, refl) }

-- the rows, or the columns, that the table tells, in that order, each once
abbrev pub keep : Axis → (Grid (List ℕ) → List ℕ) → Rearrangement
keep axis found = record { places = λ g. kept axis (found g) g.rows g.columns; each = λ g p. (_, refl) }

-- rows from one on in an order of their texts in the column that the table tells
abbrev pub sort_rows : ℕ → (List ℕ → List ℕ → Ordering) → (Grid (List ℕ) → ℕ) → Rearrangement
sort_rows from order column = record { places = λ g. sorted from order (column g) g; each = λ g p. (_, refl) }
