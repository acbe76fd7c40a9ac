-- Panels: a line, which is a row or a column, with one text is put in before a line of a table.
use Rattle.std.specs.Prelude.{◌≡◌, ◌-◌, ◌&&◌, ℕ, Bool, true, false, List, [], ◌∷◌, drop, map, nat_le, nat_lt, not, replicate}
use Rattle.std.specs.List.{AllByRecursion}
use Rattle.tabled_grid.specs.Along.{count_along}
use Rattle.tabled_grid.specs.Axis.{across, place_in, resized}
use Rattle.tabled_grid.specs.Grid.{Grid}
use Rattle.tabled_grid.specs.Resized.{with_column, with_row}
use Rattle.tabled_grid.specs.Shifts.{is_crossed, shifted}
use Rattle.tabled_grid.specs.Spans.{SpanMap, sized, with_size}
use Rattle.tabled_grid.specs.declared.records.axis.Axis.{Axis}
use Rattle.tabled_grid.specs.declared.records.axis.Axis.TheVariants.{Rows, Columns}
use Rattle.tabled_options.specs.Does.{Same}

-- how many cells a line has
abbrev pub cells_along : {A : Type 0} → Axis → Grid A → ℕ
cells_along axis g = count_along (across axis) g

-- the grid with a line put in before another
abbrev pub with_line_at : {A : Type 0} → Axis → ℕ → List A → Grid A → Grid A
with_line_at Rows i cells g = with_row g i cells
with_line_at Columns j cells g = with_column g j cells

-- a line is put in before another: a cell with a text, and then blanks, which have none
pub record PutsIn {A : Type 0} (is_blank : A → Type 0) (text_of : A → List ℕ) (axis : Axis) (line : ℕ) (text : List ℕ) (old new : Grid A) : Type 0 where
  pub cells : List A
  pub texts : map text_of cells ≡ text ∷ replicate (cells_along axis old - 1) []
  pub blanks : AllByRecursion is_blank (drop 1 cells)
  pub is : new ≡ with_line_at axis line cells old

-- the map: anchors from the line on go one further, and the line is one rectangle
abbrev pub with_panel : Axis → ℕ → ℕ → SpanMap → SpanMap
with_panel axis line many m = with_size (shifted axis line m) (place_in axis line 0) (resized (across axis) (sized 1 1) many)

-- a panel may stand before a line: it isn't past the last one, lines have cells, and no rectangle begins before it and holds a cell of it
abbrev pub has_room : {A : Type 0} → Axis → ℕ → Grid A → SpanMap → Bool
has_room axis line g m = nat_le line (count_along axis g) && (nat_lt 0 (cells_along axis g) && not (is_crossed axis line m))

-- a panel before a line, where it may stand, and else nothing
pub record Panels {A : Type 0} (is_blank : A → Type 0) (text_of : A → List ℕ) (axis : Axis) (line : ℕ) (text : List ℕ) (old : Grid A) (cfg : SpanMap) (new : Grid A) (new_cfg : SpanMap) : Type 0 where
  pub puts : has_room axis line old cfg ≡ true → PutsIn is_blank text_of axis line text old new
  pub merges : has_room axis line old cfg ≡ true → new_cfg ≡ with_panel axis line (cells_along axis old) cfg
  pub leaves : has_room axis line old cfg ≡ false → Same old cfg new new_cfg
