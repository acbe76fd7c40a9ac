-- Tables that are laid out, and what is known where their lines are drawn.
use Rattle.std.specs.Prelude.{◌≡◌, ◌+◌, ◌<◌, ℕ, List, [], None, length, slice_index_or}
use Rattle.tabled_draw.specs.Borders.{line_size}
use Rattle.tabled_draw.specs.Lines.{AreLeft, bytes_in, plan_on}
use Rattle.tabled_draw.specs.Owners.{IsOwnerRow, count_before}
use Rattle.tabled_draw.specs.Picture.{Plan, heights, left, plan_of, top, widths}
use Rattle.tabled_held.specs.Runs.{run_of}
use Rattle.tabled_draw.specs.Sizes.{start_of}
use Rattle.tabled_draw.specs.Unmerged.{IsBetween}
use Rattle.tabled_draw.specs.declared.band.Band.{Band}
use Rattle.tabled_draw.specs.declared.drawing.Drawing.TheInside.{Inside}
use Rattle.tabled_draw.specs.declared.layout.Layout.{Layout}
use Rattle.tabled_draw.specs.declared.sheet.Sheet.{Sheet}
use Rattle.tabled_draw.specs.declared.style.Lines.{Lines}
use Rattle.tabled_grid.specs.Fitting.{Fits}
use Rattle.tabled_grid.specs.Grid.{Grid}
use Rattle.tabled_grid.specs.Spans.{SpanMap, rectangles}
use Rattle.tabled_grid.specs.declared.records.axis.Axis.TheVariants.{Columns}

-- the left edge of each column, and the last edge
pub record AreEdges (plan : Plan) (edges : List ℕ) : Type 0 where
  pub long : length edges ≡ plan.grid.columns + 1
  pub each : (k : ℕ) → k < plan.grid.columns + 1 → slice_index_or edges k 0 ≡ left plan k

-- the same by the widths of columns and the lines around them
pub record AreEdgesOf (lines : Lines) (sizes edges : List ℕ) : Type 0 where
  pub long : length edges ≡ length sizes + 1
  pub each : (k : ℕ) → k < length sizes + 1 → slice_index_or edges k 0 ≡ start_of Columns (line_size lines (length sizes)) sizes k

-- the widths and edges of a table's columns and the heights of its rows, and room for two rows of owners
pub record IsLayout (plan : Plan) (layout : Layout) : Type 0 where
  pub widths : layout.widths.items ≡ widths plan
  pub edges : AreEdges plan layout.edges.items
  pub heights : layout.heights.items ≡ heights plan
  pub above : length layout.above.items ≡ plan.grid.columns + 2
  pub here : length layout.here.items ≡ plan.grid.columns + 2

-- the layout of a table with these texts, room for a text in each column, a run of the level border, and a line between
-- two rows
pub record IsLaidOut {R C : Type 0} (g : Grid (List ℕ)) (a : Inside R C) : Type 0 where
  pub fits : Fits a.spans g.rows g.columns
  pub layout : IsLayout (plan_of a.look.style g (rectangles a.spans)) a.layout
  pub tall : length a.layout.heights.items ≡ g.rows
  pub rests : length a.rests.items ≡ g.columns
  pub level : a.level.items ≡ run_of a.look.style.horizontal
  pub between : IsBetween a.look.style g.columns a.layout.edges.items a.between.items
  pub unused : a.held.bytes ≡ []
  pub works : a.held.failure ≡ None

-- what the lines of a table's picture share
pub record IsSheet (g : Grid (List ℕ)) (m : SpanMap) (sheet : Sheet) : Type 0 where
  pub fits : Fits m g.rows g.columns
  pub rows : sheet.rows ≡ g.rows
  pub columns : sheet.columns ≡ g.columns
  pub high : sheet.heights.now ≡ heights (plan_on sheet g m)
  pub tall : length sheet.heights.now ≡ g.rows
  pub edges : AreEdges (plan_on sheet g m) sheet.edges.now

-- room for two rows of owners and for a text in each column
pub record HasRoom (columns : ℕ) (band : Band) : Type 0 where
  pub above : length band.above.items ≡ columns + 2
  pub here : length band.here.items ≡ columns + 2
  pub long : length band.rests.items ≡ columns

-- what is known at the line above row i: the owners above it, the anchors before it, and what is left of texts
pub record IsBand (plan : Plan) (i : ℕ) (band : Band) : Type 0 where
  pub above : IsOwnerRow plan.grid.rows plan.grid.columns plan.merged i band.above.items
  pub here : length band.here.items ≡ plan.grid.columns + 2
  pub next : band.next ≡ count_before i 0 plan.merged
  pub long : length band.rests.items ≡ plan.grid.columns
  pub left : AreLeft plan i (top plan i) (bytes_in band.rests.items)
