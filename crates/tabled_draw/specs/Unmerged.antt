-- Lines between rows at which no merged cell lies.
use Rattle.std.specs.Prelude.{◌≡◌, ◌≢◌, ◌+◌, ◌-◌, ◌<◌, ◌≤◌, ◌++◌, ℕ, Bool, List, [], ◌∷◌, None, Option, Some, encode_utf8_all, replicate, slice_index_or}
use Rattle.tabled_draw.specs.Borders.{arms, corner_if, is_drawn, size_if, unmerged_arms}
use Rattle.tabled_draw.specs.Each.{each}
use Rattle.tabled_draw.specs.Owners.{IsOwnerRow, Owner}
use Rattle.tabled_draw.specs.declared.style.Style.{Style}
use Rattle.tabled_grid.specs.Fitting.{Fits}
use Rattle.tabled_grid.specs.Grid.{Grid}
use Rattle.tabled_grid.specs.Spans.{SpanMap, rectangles}

-- a character, if there is one and its line is drawn
abbrev pub marked : Bool → Option ℕ → List ℕ
marked drawn None = []
marked drawn (Some c) = replicate (size_if drawn) c

-- a border between two rows, in a column at whose left edge a line is drawn or not
abbrev pub level : Style → Bool → List ℕ → ℕ → List ℕ
level style drawn edges j = replicate (slice_index_or edges (j + 1) 0 - slice_index_or edges j 0 - size_if drawn) style.horizontal

-- the corner of row i and column j
abbrev pub unmerged_corner : Style → ℕ → ℕ → ℕ → ℕ → List ℕ
unmerged_corner style rows columns i j = marked (is_drawn style.columns columns j) (corner_if style (unmerged_arms rows columns i j))

-- it, and the border behind it
abbrev pub unmerged_stretch : Style → ℕ → ℕ → ℕ → List ℕ → ℕ → List ℕ
unmerged_stretch style rows columns i edges j = unmerged_corner style rows columns i j ++ level style (is_drawn style.columns columns j) edges j

-- the line above row i
unfoldable pub unmerged_line : Style → ℕ → ℕ → ℕ → List ℕ → List ℕ
unmerged_line style rows columns i edges = (each columns (unmerged_stretch style rows columns i edges) ++ unmerged_corner style rows columns i columns) ++ (10 ∷ [])

-- the line between two rows: all such lines of a table are alike
abbrev pub line_between : Style → ℕ → List ℕ → List ℕ
line_between style columns edges = unmerged_line style 2 columns 1 edges

-- bytes, if there are any, are those of that line
pub record IsBetween (style : Style) (columns : ℕ) (edges bytes : List ℕ) : Type 0 where
  pub is : bytes ≢ [] → bytes ≡ encode_utf8_all (line_between style columns edges)

-- no merged cell lies at the line above row i, whose owners above and below these are
pub record AreUnmerged (rows columns i : ℕ) (above below : List Owner) : Type 0 where
  pub each : (j : ℕ) → j ≤ columns → arms (slice_index_or above j None) (slice_index_or above (j + 1) None) (slice_index_or below j None) (slice_index_or below (j + 1) None) ≡ unmerged_arms rows columns i j

-- so is it in each table with cells that these merged cells fit
abbrev pub AreUnmergedIn : SpanMap → ℕ → List Owner → List Owner → Type 0
AreUnmergedIn m i above below =
    (g : Grid (List ℕ)) → i < g.rows → 0 < g.columns → Fits m g.rows g.columns
    → IsOwnerRow g.rows g.columns (rectangles m) i above → IsOwnerRow g.rows g.columns (rectangles m) (i + 1) below → AreUnmerged g.rows g.columns i above below
