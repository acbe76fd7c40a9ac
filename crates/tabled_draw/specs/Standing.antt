-- What stands where in a picture: its lines, and the columns of a line, are counted from 0.
use Rattle.std.specs.Prelude.{◌≡◌, ◌+◌, ◌-◌, ◌<◌, ◌≤◌, ◌&&◌, ◌++◌, ℕ, Bool, false, List, [], ◌∷◌, length, nat_lt, not, replicate, slice_index_or}
use Rattle.std.specs.List.{AllByRecursion, list_any}
use Rattle.tabled_draw.specs.Alignments.{alignment_in, cell, indent}
use Rattle.tabled_draw.specs.Borders.{Arms, are_one, corner}
use Rattle.tabled_draw.specs.Each.{is_in_range}
use Rattle.tabled_draw.specs.Marks.{IsFine, IsFineMark}
use Rattle.tabled_grid.specs.Owners.{owner_in}
use Rattle.tabled_draw.specs.Picture.{Plan, left, line_height, line_width, picture, picture_lines, plan_of, top}
use Rattle.tabled_draw.specs.Sizes.{pad, text_of_cell}
use Rattle.tabled_draw.specs.Texts.{line_shown, lines_shown, text_width}
use Rattle.tabled_draw.specs.declared.alignment.Alignment.{Alignment}
use Rattle.tabled_draw.specs.declared.style.TheConstants.Style.{ASCII}
use Rattle.tabled_grid.specs.declared.records.axis.Axis.TheVariants.{Columns}
use Rattle.tabled_grid.specs.Anchors.{is_hidden_in}
use Rattle.tabled_grid.specs.Entity.{place}
use Rattle.tabled_grid.specs.Grid.{Grid, IsInside}
use Rattle.tabled_grid.specs.declared.config.position.Position.{Position}
use Rattle.tabled_grid.specs.declared.config.rectangle.Rectangle.{Rectangle}

-- characters stand in a line, after some columns
pub record StandsIn (line : List ℕ) (columns : ℕ) (text : List ℕ) : Type 0 where
  pub before : List ℕ
  pub after : List ℕ
  pub is : line ≡ before ++ (text ++ after)
  pub at : text_width before ≡ columns

-- characters stand in the n-th line of a picture, after some columns
pub record StandsAt (lines : List (List ℕ)) (n columns : ℕ) (text : List ℕ) : Type 0 where
  pub inside : n < length lines
  pub stands : StandsIn (slice_index_or lines n []) columns text

-- ---- texts

-- a cell of the table that no merged cell hides
pub record IsSeen (g : Grid (List ℕ)) (es : List Rectangle) (p : Position) : Type 0 where
  pub inside : IsInside g p
  pub seen : is_hidden_in es p ≡ false

-- the number of lines between a cell's upper and lower border
abbrev pub inner_height : Plan → Position → ℕ
inner_height plan p = top plan (p.row + (owner_in plan.merged p).size.height) - top plan p.row - line_height plan p.row

-- the number of columns between a cell's left and right border
abbrev pub inner_width : Plan → Position → ℕ
inner_width plan p = left plan (p.col + (owner_in plan.merged p).size.width) - left plan p.col - line_width plan p.col

-- the line below the line above a cell, or that line itself where it is not drawn
abbrev pub inner_top : Plan → Position → ℕ
inner_top plan p = top plan p.row + line_height plan p.row

-- the number of columns before those that are inside a cell's borders
abbrev pub inner_left : Plan → Position → ℕ
inner_left plan p = left plan p.col + line_width plan p.col

-- the k-th line of a cell's text, without characters where the text has fewer lines
abbrev pub text_line : Grid (List ℕ) → Position → ℕ → List ℕ
text_line g p k = line_shown (text_of_cell g p) k

-- how many columns stand between a blank after a cell's left border and a line of its text
abbrev pub indent_of : Plan → List Alignment → Position → ℕ → ℕ
indent_of plan aligns p k = indent (alignment_in aligns p.col) (inner_width plan p - pad Columns - text_width (text_line plan.grid p k))

-- what stands between a cell's borders in one of its lines: a line of its text, with blanks before and behind it
abbrev pub inner_line : Plan → List Alignment → Position → ℕ → List ℕ
inner_line plan aligns p k = cell (alignment_in aligns p.col) (inner_width plan p - pad Columns) (text_of_cell plan.grid p) k

-- characters stand in the n-th line of a picture, after some columns, with some characters of borders right before and
-- right behind them
pub record StandsFramed (lines : List (List ℕ)) (n columns before behind : ℕ) (text : List ℕ) : Type 0 where
  pub first : List ℕ
  pub last : List ℕ
  pub first_long : length first ≡ before
  pub last_long : length last ≡ behind
  pub first_marks : AllByRecursion IsFineMark first
  pub last_marks : AllByRecursion IsFineMark last
  pub stands : StandsAt lines n columns (first ++ (text ++ last))

-- Each line of the text of each cell that is seen stands whole, where its alignment puts it; between its borders stands
-- nothing but its text and blanks, also no character without width; and there is room for all lines, with a blank at
-- both sides.
pub record ShowsTexts (plan : Plan) (aligns : List Alignment) : Type 0 where
  pub whole : (p : Position) → IsSeen plan.grid plan.merged p → (k : ℕ) → k < length (lines_shown (text_of_cell plan.grid p))
      → StandsAt (picture_lines plan aligns) (inner_top plan p + k) (inner_left plan p + 1 + indent_of plan aligns p k) (text_line plan.grid p k)
  pub alone : (p : Position) → IsSeen plan.grid plan.merged p → (k : ℕ) → k < inner_height plan p
      → StandsFramed (picture_lines plan aligns) (inner_top plan p + k) (left plan p.col) (line_width plan p.col) (line_width plan (p.col + (owner_in plan.merged p).size.width)) (inner_line plan aligns p k)
  pub high : (p : Position) → IsSeen plan.grid plan.merged p → length (lines_shown (text_of_cell plan.grid p)) ≤ inner_height plan p
  pub wide : (p : Position) → IsSeen plan.grid plan.merged p → (k : ℕ) → text_width (text_line plan.grid p k) + pad Columns ≤ inner_width plan p

-- so are texts shown in a style whose characters are one column wide
abbrev pub ShowsAllTexts : Plan → List Alignment → Type 0
ShowsAllTexts plan aligns = IsFine plan.style → ShowsTexts plan aligns

-- two tables of a shape have one text wherever no merged cell hides it
pub record AreSeenAlike (g h : Grid (List ℕ)) (es : List Rectangle) : Type 0 where
  pub rows : g.rows ≡ h.rows
  pub columns : g.columns ≡ h.columns
  pub texts : (p : Position) → IsSeen g es p → text_of_cell g p ≡ text_of_cell h p

-- ---- borders

-- k is one of the n numbers from one on, but not the first
abbrev pub is_amid : ℕ → ℕ → ℕ → Bool
is_amid k at n = nat_lt at k && nat_lt k (at + n)

-- in row i, a rectangle lies at both sides of the left edge of column j
abbrev pub lies_beside : ℕ → ℕ → Rectangle → Bool
lies_beside i j e = is_in_range i e.first.row e.size.height && is_amid j e.first.col e.size.width

-- in column j, it lies above and below the upper edge of row i
abbrev pub lies_above : ℕ → ℕ → Rectangle → Bool
lies_above i j e = is_amid i e.first.row e.size.height && is_in_range j e.first.col e.size.width

-- it lies all round the upper left corner of row i and column j
abbrev pub lies_around : ℕ → ℕ → Rectangle → Bool
lies_around i j e = is_amid i e.first.row e.size.height && is_amid j e.first.col e.size.width

-- one of some merged cells lies at both sides of that edge
abbrev pub is_joined_beside : List Rectangle → ℕ → ℕ → Bool
is_joined_beside es i j = list_any (lies_beside i j) es

-- one lies above and below that edge
abbrev pub is_joined_above : List Rectangle → ℕ → ℕ → Bool
is_joined_above es i j = list_any (lies_above i j) es

-- one lies all round that corner
abbrev pub is_joined_around : List Rectangle → ℕ → ℕ → Bool
is_joined_around es i j = list_any (lies_around i j) es

-- the arms that meet at the upper left corner of row i and column j: there is one wherever a border is that ends there
abbrev pub meeting : Grid (List ℕ) → List Rectangle → ℕ → ℕ → Arms
meeting g es i j = record {
  up = nat_lt 0 i && not (is_joined_beside es (i - 1) j);
  right = nat_lt j g.columns && not (is_joined_above es i j);
  down = nat_lt i g.rows && not (is_joined_beside es i j);
  left = nat_lt 0 j && not (is_joined_above es i (j - 1));
}

-- Unless one merged cell lies at both sides, the style's upright border stands at each left edge of a column in each
-- line of a row, and its level one at each upper edge of a row, as wide as the column; and at each corner, unless one
-- lies all round it, the character whose arms are the borders that meet there. So is it where the lines are drawn.
-- The edge after the last column, and the one below the last row, are such edges, too.
pub record StandBetween (plan : Plan) (aligns : List Alignment) : Type 0 where
  pub beside : (i j n : ℕ) → i < plan.grid.rows → j ≤ plan.grid.columns → line_width plan j ≡ 1 → top plan i + line_height plan i ≤ n → n < top plan (i + 1) → is_joined_beside plan.merged i j ≡ false
      → StandsAt (picture_lines plan aligns) n (left plan j) (plan.style.vertical ∷ [])
  pub above : (i j : ℕ) → i ≤ plan.grid.rows → j < plan.grid.columns → line_height plan i ≡ 1 → is_joined_above plan.merged i j ≡ false
      → StandsAt (picture_lines plan aligns) (top plan i) (left plan j + line_width plan j) (replicate (left plan (j + 1) - left plan j - line_width plan j) plan.style.horizontal)
  pub around : (i j : ℕ) → i ≤ plan.grid.rows → j ≤ plan.grid.columns → line_height plan i ≡ 1 → line_width plan j ≡ 1 → is_joined_around plan.merged i j ≡ false
      → StandsAt (picture_lines plan aligns) (top plan i) (left plan j) (corner plan.style (meeting plan.grid plan.merged i j) ∷ [])

-- No border ends at a corner: where one arm is, there is another. An arm along a border is met by that of the next corner.
pub record AreMet (g : Grid (List ℕ)) (es : List Rectangle) : Type 0 where
  pub none_alone : (i j : ℕ) → i ≤ g.rows → j ≤ g.columns → are_one (meeting g es i j) ≡ false
  pub to_right : (i j : ℕ) → j < g.columns → (meeting g es i j).right ≡ (meeting g es i (j + 1)).left
  pub down : (i j : ℕ) → i < g.rows → (meeting g es i j).down ≡ (meeting g es (i + 1) j).up

-- so do the borders of a table with a cell
abbrev pub GoOn : Plan → List Alignment → Type 0
GoOn plan aligns = IsInside plan.grid (place 0 0) → AreMet plan.grid plan.merged

-- Where one merged cell does not lie at both sides: `|` at an edge of a row, dashes at an edge of a column, and `+` at a
-- corner, one line and one column wide.
pub record StandPlain (g : Grid (List ℕ)) (es : List Rectangle) : Type 0 where
  pub beside : (i j n : ℕ) → i < g.rows → j ≤ g.columns → top (plan_of ASCII g es) i < n → n < top (plan_of ASCII g es) (i + 1) → is_joined_beside es i j ≡ false
      → StandsAt (picture ASCII [] g es) n (left (plan_of ASCII g es) j) (124 ∷ [])
  pub above : (i j : ℕ) → i ≤ g.rows → j < g.columns → is_joined_above es i j ≡ false
      → StandsAt (picture ASCII [] g es) (top (plan_of ASCII g es) i) (left (plan_of ASCII g es) j + 1) (replicate (left (plan_of ASCII g es) (j + 1) - left (plan_of ASCII g es) j - 1) 45)
  pub around : (i j : ℕ) → i ≤ g.rows → j ≤ g.columns → is_joined_around es i j ≡ false
      → StandsAt (picture ASCII [] g es) (top (plan_of ASCII g es) i) (left (plan_of ASCII g es) j) (43 ∷ [])

-- so stand the borders of a table with a cell in the look that the original crate has by default
abbrev pub HasPlainBorders : Plan → List Alignment → Type 0
HasPlainBorders plan aligns = IsInside plan.grid (place 0 0) → StandPlain plan.grid plan.merged

-- so stand the borders of a table with a cell, in a style whose characters are one column wide
abbrev pub HasBorders : Plan → List Alignment → Type 0
HasBorders plan aligns = IsFine plan.style → IsInside plan.grid (place 0 0) → StandBetween plan aligns
