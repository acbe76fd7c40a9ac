-- What the styles that have a name are made of: which lines they draw, and by which characters.
use Rattle.std.specs.Prelude.{◌≡◌, ◌≤◌, ◌==◌, ◌&&◌, ◌||◌, if◌then◌else◌, ℕ, Bool, false, true, List, [], ◌∷◌, codes, nat_lt, not}
use Rattle.tabled_draw.specs.Borders.{Arms, are_none, are_one, corner, is_drawn}
use Rattle.tabled_draw.specs.BoxCharacters.{arms_of, horizontal, vertical}
use Rattle.tabled_draw.specs.Marks.{IsFine}
use Rattle.tabled_draw.specs.Picture.{Plan, left, line_height, line_width, picture_lines, top}
use Rattle.tabled_draw.specs.Standing.{StandsAt, is_joined_around, meeting}
use Rattle.tabled_draw.specs.declared.alignment.Alignment.{Alignment}
use Rattle.tabled_draw.specs.declared.style.Lines.{Lines}
use Rattle.tabled_draw.specs.declared.style.Style.{Style}
use Rattle.tabled_grid.specs.Entity.{place}
use Rattle.tabled_grid.specs.Grid.{IsInside}

-- ---- lines

-- of the lines around n rows, or n columns, that before the first is the 0-th, and that behind the last the n-th

-- all lines
abbrev pub all_lines : ℕ → ℕ → Bool
all_lines n k = true

-- no line
abbrev pub no_lines : ℕ → ℕ → Bool
no_lines n k = false

-- the lines between two
abbrev pub inner_lines : ℕ → ℕ → Bool
inner_lines n k = nat_lt 0 k && nat_lt k n

-- the line behind the first one, the header
abbrev pub line_of_header : ℕ → ℕ → Bool
line_of_header n k = k == 1

-- the lines before the first one and behind the last one
abbrev pub outer_lines : ℕ → ℕ → Bool
outer_lines n k = (k == 0) || (k == n)

-- these, and the line of the header
abbrev pub outer_lines_and_header : ℕ → ℕ → Bool
outer_lines_and_header n k = outer_lines n k || line_of_header n k

-- the lines that are drawn are those that a function says
abbrev pub AreDrawn : (ℕ → ℕ → Bool) → Lines → Type 0
AreDrawn which lines = (n k : ℕ) → k ≤ n → is_drawn lines n k ≡ which n k

-- these lines are drawn around rows, and those around columns
pub record HasLines (style : Style) (around_rows around_columns : ℕ → ℕ → Bool) : Type 0 where
  pub rows : AreDrawn around_rows style.rows
  pub columns : AreDrawn around_columns style.columns

-- ---- characters

-- borders are the level and the upright one of some characters, and each corner, unless it has one arm alone, is that one
-- of them that has its arms
pub record IsBox (characters : List (ℕ × Arms)) (style : Style) : Type 0 where
  pub level : arms_of characters style.horizontal ≡ horizontal
  pub upright : arms_of characters style.vertical ≡ vertical
  pub corners : (a : Arms) → are_one a ≡ false → arms_of characters (corner style a) ≡ a

-- so is each corner that has one arm alone
abbrev pub HasEnds : List (ℕ × Arms) → Style → Type 0
HasEnds characters style = (a : Arms) → are_one a ≡ true → arms_of characters (corner style a) ≡ a

-- in a line of a picture, after some columns, one of some characters stands that has these arms
pub record HasArmsAt (characters : List (ℕ × Arms)) (lines : List (List ℕ)) (n columns : ℕ) (a : Arms) : Type 0 where
  pub character : ℕ
  pub has_arms : arms_of characters character ≡ a
  pub stands : StandsAt lines n columns (character ∷ [])

-- where a table with a cell is drawn as boxes, each corner, unless a merged cell lies all round it, has just the arms of
-- the borders that end there
abbrev pub HasArmsAtCorners : Plan → List Alignment → Type 0
HasArmsAtCorners plan aligns =
    (characters : List (ℕ × Arms)) → IsBox characters plan.style → IsFine plan.style → IsInside plan.grid (place 0 0)
    → (i j : ℕ) → i ≤ plan.grid.rows → j ≤ plan.grid.columns → line_height plan i ≡ 1 → line_width plan j ≡ 1 → is_joined_around plan.merged i j ≡ false
    → HasArmsAt characters (picture_lines plan aligns) (top plan i) (left plan j) (meeting plan.grid plan.merged i j)

-- borders are these two characters, and each corner with an arm is that which its arms say
pub record IsMadeOf (level_border upright_border : List ℕ) (corner_of : Arms → List ℕ) (style : Style) : Type 0 where
  pub level : style.horizontal ∷ [] ≡ level_border
  pub upright : style.vertical ∷ [] ≡ upright_border
  pub corners : (a : Arms) → are_none a ≡ false → corner style a ∷ [] ≡ corner_of a

-- some arm is level
abbrev pub has_level_arm : Arms → Bool
has_level_arm a = a.left || a.right

-- some arm is upright
abbrev pub has_upright_arm : Arms → Bool
has_upright_arm a = a.up || a.down

-- a dash or a bar where borders go straight on, else a character
abbrev pub dash_or_bar_or : List ℕ → Arms → List ℕ
dash_or_bar_or other a =
    if not (has_upright_arm a) then codes "-"
    else if not (has_level_arm a) then codes "|"
    else other

-- in Markdown, a bar wherever one goes on
abbrev pub markdown_corner : Arms → List ℕ
markdown_corner a = if has_upright_arm a then codes "|" else codes "-"

-- in reStructuredText, a blank between two columns
abbrev pub re_structured_text_corner : Arms → List ℕ
re_structured_text_corner a = if has_upright_arm a then codes " " else codes "="

-- of dots, a colon where a border goes up
abbrev pub dots_corner : Arms → List ℕ
dots_corner a = if a.up then codes ":" else codes "."

-- of ASCII with round corners: a plus where a level border meets an upright one that goes on, a dash where an upright one
-- meets a level one that goes on, else a dot above and an apostrophe below
abbrev pub ascii_rounded_corner : Arms → List ℕ
ascii_rounded_corner a =
    dash_or_bar_or
    (if a.up && a.down then codes "+"
    else if a.left && a.right then codes "-"
    else if a.down then codes "."
    else codes "'")
    a
