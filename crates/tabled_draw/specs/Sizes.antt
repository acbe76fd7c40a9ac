-- The widths of columns and the heights of rows, said once for both.
use Rattle.std.specs.Prelude.{◌≡◌, ◌+◌, ◌-◌, ◌/◌, ◌%◌, ◌<◌, ◌==◌, ◌&&◌, if◌then◌else◌, ℕ, List, [], ◌∷◌, None, Some, length, max, slice_index_or, slice_set}
use Rattle.std.specs.List.{AllByRecursion, fold}
use Rattle.std.specs.Option.{unwrap_or}
use Rattle.tabled_draw.specs.Each.{by_number, each, is_in_range, largest, total}
use Rattle.tabled_draw.specs.Owners.{Owner}
use Rattle.tabled_grid.specs.Owners.{owner_in}
use Rattle.tabled_draw.specs.Borders.{border}
use Rattle.tabled_draw.specs.declared.style.Style.{Style}
use Rattle.tabled_draw.specs.Texts.{lines_shown, widest}
use Rattle.tabled_grid.specs.Along.{count_along}
use Rattle.tabled_grid.specs.Axis.{across, line_of, lines_in, place_in}
use Rattle.tabled_grid.specs.Entity.{place, same_place}
use Rattle.tabled_grid.specs.Order.{is_before}
use Rattle.tabled_grid.specs.Grid.{Grid, cell_at}
use Rattle.tabled_grid.specs.declared.config.position.Position.{Position}
use Rattle.tabled_grid.specs.declared.records.axis.Axis.{Axis}
use Rattle.tabled_grid.specs.declared.records.axis.Axis.TheVariants.{Rows, Columns}
use Rattle.tabled_grid.specs.declared.config.rectangle.Rectangle.{Rectangle}

-- what stands beside a text: a blank before it and one after it, and nothing above and below
abbrev pub pad : Axis → ℕ
pad Rows = 0
pad Columns = 2

-- the text at a place
abbrev pub text_of_cell : Grid (List ℕ) → Position → List ℕ
text_of_cell g p = unwrap_or (cell_at g p) []

-- what a text asks: of rows as many lines as it has, of columns those of its widest line
abbrev pub asks : Axis → List ℕ → ℕ
asks Rows text = length (lines_shown text)
asks Columns text = widest text

-- where the k-th of some sizes begins with the line before it, where lines have sizes, too
abbrev pub start_of : Axis → (ℕ → ℕ) → List ℕ → ℕ → ℕ
start_of axis lines sizes k = total k (λ i. lines i + slice_index_or sizes i 0 + pad axis)

-- the room in n sizes from one on, with the lines between them
abbrev pub room : Axis → (ℕ → ℕ) → List ℕ → ℕ → ℕ → ℕ
room axis lines sizes at n = start_of axis lines sizes (at + n) - start_of axis lines sizes at - lines at - pad axis

-- what the k-th size gets of what n from one on lack: they share it alike, and the first of them gets the rest
abbrev pub share : ℕ → ℕ → ℕ → ℕ → ℕ
share lack at n k = if is_in_range k at n then lack / n + (if k == at then lack % n else 0) else 0

-- the sizes, of which n from one on have grown by what they lack
abbrev pub grown_sizes : Axis → (ℕ → ℕ) → List ℕ → ℕ → ℕ → ℕ → List ℕ
grown_sizes axis lines sizes at n need =
    let lack = need - room axis lines sizes at n in
    each (length sizes) (λ k. (slice_index_or sizes k 0 + share lack at n k) ∷ [])

-- the sizes, grown by what the text of a merged cell asks
abbrev pub grown_for : Axis → Style → Grid (List ℕ) → List ℕ → Rectangle → List ℕ
grown_for axis style g sizes e = grown_sizes axis (border axis style g) sizes (line_of axis e.first) (lines_in axis e.size) (asks axis (text_of_cell g e.first))

-- what the text at a place asks of its row or column, if its owner begins there and lies in no other
abbrev pub own_of : Axis → Grid (List ℕ) → Rectangle → Position → ℕ
own_of axis g o p = if same_place o.first p && (lines_in axis o.size == 1) then asks axis (text_of_cell g p) else 0

-- what it asks of them, by the merged cells
abbrev pub own : Axis → Grid (List ℕ) → List Rectangle → Position → ℕ
own axis g es p = own_of axis g (owner_in es p) p

-- what is asked of each row or column, whatever stands there: a row has a line of its own, also where all that is seen
-- in it belongs to taller merged cells
abbrev pub least : Axis → ℕ
least Rows = 1
least Columns = 0

-- the most that is asked of each row or column by texts that are seen in no other, and by it at least
abbrev pub own_sizes : Axis → Grid (List ℕ) → List Rectangle → List ℕ
own_sizes axis g es = each (count_along axis g) (λ k. largest (least axis) (count_along (across axis) g) (λ i. own axis g es (place_in axis k i)) ∷ [])

-- merged cells that take fewer than m rows, or columns, and begin in the first n: those that take the fewest come first,
-- of these those that begin first
abbrev pub in_order_below : Axis → ℕ → ℕ → List Rectangle → List Rectangle
in_order_below axis m n es = by_number (λ e. lines_in axis e.size) m (by_number (λ e. line_of axis e.first) n es)

-- these are merged cells in that order
abbrev pub IsInOrder : Axis → List Rectangle → List Rectangle → Type 0
IsInOrder axis es order = (m n : ℕ) → AllByRecursion (λ (e : Rectangle). (lines_in axis e.size < m) × (line_of axis e.first < n)) es → order ≡ in_order_below axis m n es

-- the merged cells in the order in which rows or columns grow for them
abbrev pub in_order : Axis → Grid (List ℕ) → List Rectangle → List Rectangle
in_order axis g es = in_order_below axis (count_along axis g + 1) (count_along axis g) es

-- sizes, grown by one merged cell after another
abbrev pub grown : Axis → Style → Grid (List ℕ) → List Rectangle → List ℕ → List ℕ
grown axis style g es sizes = fold (grown_for axis style g) sizes (in_order axis g es)

-- the heights of rows or the widths of columns
unfoldable pub sizes : Axis → Style → Grid (List ℕ) → List Rectangle → List ℕ
sizes axis style g es = grown axis style g es (own_sizes axis g es)

-- ---- sizes, raised place by place

-- the most that is asked by the texts before row i's column j, and of each row or column whatever stands there
pub record Measured (axis : Axis) (g : Grid (List ℕ)) (es : List Rectangle) (i j : ℕ) (sizes : List ℕ) : Type 0 where
  pub long : length sizes ≡ count_along axis g
  pub each : (k : ℕ) → k < count_along axis g → slice_index_or sizes k 0 ≡ largest (least axis) (count_along (across axis) g) (λ x. if is_before (place_in axis k x) (place i j) then own axis g es (place_in axis k x) else 0)

-- the sizes, of which that of a place's line is at least what the text there asks
abbrev pub raised : Axis → Grid (List ℕ) → List ℕ → Owner → Position → List ℕ
raised axis g sizes None p = sizes
raised axis g sizes (Some o) p = slice_set sizes (line_of axis p) (max (slice_index_or sizes (line_of axis p) 0) (own_of axis g o p))
