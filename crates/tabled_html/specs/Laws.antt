-- What holds of tables as HTML.
use Rattle.std.specs.Prelude.{◌≡◌, ◌<◌, ◌==◌, ◌&&◌, ◌||◌, ℕ, Bool, List, [], ◌∷◌, Some, false, not, Err, Ok, Result}
use Rattle.tabled_grid.specs.Entity.{place}
use Rattle.tabled_grid.specs.Grid.{Grid, IsEmptyWithoutRows, map_grid}
use Rattle.tabled_grid.specs.Spans.{SpanMap, rectangles, sized}
use Rattle.tabled_grid.specs.declared.config.rectangle.Rectangle.{Rectangle}
use Rattle.tabled_html_reading.specs.Areas.{Area, IsOutside}
use Rattle.tabled_html_reading.specs.Building.{parsed}
use Rattle.tabled_html.specs.Elements.{element_at, fragment, groups_of, table}
use Rattle.tabled_html.specs.Limits.{keep_written}
use Rattle.tabled_html.specs.Looks.{Look}
use Rattle.tabled_html.specs.Written.{written_as}
use Rattle.std.specs.Option.{option_map}
use Rattle.tabled_html_reading.specs.Elements.{Element}
use Rattle.tabled_html_reading.specs.Escaping.{shown}
use Rattle.tabled_html_reading.specs.Forming.{Cell, Forming, any_below, cells_at, forming_a_table, lacks_anchors}
use Rattle.tabled_grid.specs.Owners.{owner_in}
use Rattle.tabled_html.specs.declared.fault.WriteError.{WriteError}
use Rattle.tabled_html.specs.declared.fault.WriteError.TheVariants.{Failed, OutOfMemory}

-- the slots of an owner, whose columns are counted by x and its rows by y
abbrev pub area_of : Rectangle → Area
area_of o = record { x = o.first.col; y = o.first.row; width = o.size.width; height = o.size.height }

-- the slots of the owner of a slot
abbrev pub own_area : SpanMap → ℕ → ℕ → Area
own_area m x y = area_of (owner_in (rectangles m) (place y x))

-- the element of slots that are one cell
abbrev pub element_of : Grid (List ℕ) → Look → Area → Element
element_of g look a = element_at g look (place a.y a.x) (sized a.height a.width)

-- the cell of an owner, anchored at its first place
abbrev pub cell_of : Grid (List ℕ) → Look → Rectangle → Cell
cell_of g look o = record { x = o.first.col; y = o.first.row; element = element_at g look o.first o.size }

-- an owner begins at its own place
abbrev pub begins_at : SpanMap → ℕ → ℕ → Bool
begins_at m x y = ((owner_in (rectangles m) (place y x)).first.col == x) && ((owner_in (rectangles m) (place y x)).first.row == y)

-- in one of the rows no owner begins, or in one of the columns
abbrev pub lacks_owners : Grid (List ℕ) → SpanMap → Bool
lacks_owners g m =
    any_below g.rows (λ y. not (any_below g.columns (λ x. begins_at m x y)))
    || any_below g.columns (λ x. not (any_below g.rows (λ y. begins_at m x y)))

-- a formed table is the grid: it has as many columns and rows, no two cells share a slot, and each slot has the one cell
-- of its owner, and no other slot has one; the table model error of a row or column without anchored cells is that of one in which no owner begins
pub record IsFormed (g : Grid (List ℕ)) (m : SpanMap) (look : Look) (f : Forming) : Type 0 where
  pub columns : f.xwidth ≡ g.columns
  pub rows : f.ywidth ≡ g.rows
  pub apart : f.overlaps ≡ false
  pub slots : (x y : ℕ) → x < g.columns → y < g.rows → cells_at f.covered x y ≡ cell_of g look (owner_in (rectangles m) (place y x)) ∷ []
  pub outside : (x y : ℕ) → IsOutside g.columns g.rows x y → cells_at f.covered x y ≡ []
  pub anchors : lacks_anchors f ≡ lacks_owners g m

-- the table that is formed of the row groups is the grid
abbrev pub FormsTheGrid : Grid (List ℕ) → SpanMap → Look → Type 0
FormsTheGrid g m look = IsFormed g m look (forming_a_table (groups_of (written_as g m look)))

-- the look with its caption as it is shown
abbrev pub shown_look : Look → Look
shown_look look = record look { caption = option_map shown look.caption }

-- bytes are read as the table, of whose elements the grid is formed, with all texts as they are shown
pub record Shows (g : Grid (List ℕ)) (m : SpanMap) (look : Look) (bytes : List ℕ) : Type 0 where
  pub read : parsed bytes ≡ Some (table (written_as (map_grid shown g) m (shown_look look)))
  pub formed : IsFormed (map_grid shown g) m look (forming_a_table (groups_of (written_as (map_grid shown g) m look)))

-- if a grid without rows has no columns, the bytes of its table show it, by its cells' texts and with the merged cells that are written
abbrev pub ShowsCells : {A : Type 0} → (A → List ℕ) → Grid A → SpanMap → Look → Type 0
ShowsCells text_of g m look = IsEmptyWithoutRows g → Shows (map_grid text_of g) (keep_written g.rows g.columns m) look (fragment (map_grid text_of g) m look)

-- a writer failed, and this holds then
abbrev pub OnFailed : Result (Unit {0}) WriteError → Type 0 → Type 0
OnFailed (Ok _) P = Unit {0}
OnFailed (Err OutOfMemory) P = Unit {0}
OnFailed (Err (Failed error)) P = P
