-- Tables as Markdown: what a reader takes their lines for.
use Rattle.std.specs.Prelude.{◌≡◌, ◌+◌, ◌<◌, ◌==◌, ◌&&◌, ◌||◌, ◌++◌, if◌then◌else◌, ℕ, List, [], ◌∷◌, Option, None, Some, chars, codes, length, map, not, reverse, slice_index_or, suc, take, drop, zero}
use Rattle.std.specs.Char.{is_ascii_punctuation, is_control, is_whitespace}
use Rattle.std.specs.Fmt.{decimal}
use Rattle.std.specs.List.{before_first}
use Rattle.std.specs.Option.{option_and_then, option_map}
use Rattle.std.specs.Str.{bytes_eq}
use Rattle.std.specs.Str.Parse.{digits_value}
use Rattle.tabled_draw.specs.Alignments.{alignment_in}
use Rattle.tabled_draw.specs.Each.{each}
use Rattle.tabled_draw.specs.Markdown.{markdown_widths, dashes, is_markup, rows_apart}
use Rattle.tabled_draw.specs.Sizes.{text_of_cell}
use Rattle.tabled_draw.specs.declared.alignment.Alignment.{Alignment}
use Rattle.tabled_grid.specs.Anchors.{is_hidden_in}
use Rattle.tabled_grid.specs.Entity.{place}
use Rattle.tabled_grid.specs.Fitting.{fitting}
use Rattle.tabled_grid.specs.Grid.{Grid}
use Rattle.tabled_grid.specs.Spans.{SpanMap, rectangles}
use Rattle.tabled_grid.specs.declared.config.position.Position.{Position}
use Rattle.tabled_grid.specs.declared.config.rectangle.Rectangle.{Rectangle}

-- ---- cells of a line

-- the parts of characters, each up to a bar that has no backslash before it, where the first part has begun
abbrev pub parts_behind : ℕ → List ℕ → List ℕ → List (List ℕ)
parts_behind before part [] = if length part == 0 then [] else part ∷ []
parts_behind before part (c ∷ cs) = if (c == 124) && not (before == 92) then part ∷ parts_behind c [] cs else parts_behind c (part ++ (c ∷ [])) cs

-- the cells of a line: its parts behind the bar with which it begins
abbrev pub cells_of : List ℕ → List (List ℕ)
cells_of [] = []
cells_of (c ∷ cs) = if c == 124 then parts_behind c [] cs else []

-- characters without the blanks with which they begin
abbrev pub behind_blanks : List ℕ → List ℕ
behind_blanks [] = []
behind_blanks (c ∷ cs) = if is_whitespace c then behind_blanks cs else c ∷ cs

-- characters without the blanks at both ends
abbrev pub trimmed : List ℕ → List ℕ
trimmed cs = reverse (behind_blanks (reverse (behind_blanks cs)))

-- ---- the text of a cell

-- the character that `&` and some characters behind it stand for, and how many these are
unfoldable pub reference : List ℕ → Option (ℕ × ℕ)
reference cs =
    if bytes_eq (take 3 cs) (codes "lt;") then Some (60, 3)
    else if bytes_eq (take 4 cs) (codes "amp;") then Some (38, 4)
    else
    let digits = before_first (λ c. c == 59) (drop 1 cs) in
    let number = digits_value 10 digits in
    if (slice_index_or cs 0 0 == 35) && bytes_eq digits (decimal number) then Some (number, suc (suc (length digits))) else None

-- the character that one and some behind it stand for, and how many these are: a mark behind a backslash stands for
-- itself, `<br>` for a newline; there is none where the character means something else to a reader
unfoldable pub first_read : ℕ → ℕ → List ℕ → Option (ℕ × ℕ)
first_read before c cs =
    if (c == 92) && is_ascii_punctuation (slice_index_or cs 0 0) then Some (slice_index_or cs 0 0, 1)
    else if c == 60 then (if bytes_eq (take 3 cs) (codes "br>") then Some (10, 3) else None)
    else if c == 38 then reference cs
    else if is_control c || is_markup before c (slice_index_or cs 0 32) then None
    else Some (c, 0)

-- the text that characters stand for behind another one, without the first n
abbrev pub read_behind : ℕ → ℕ → List ℕ → Option (List ℕ)
read_behind before n [] = Some []
read_behind before (suc n) (c ∷ cs) = read_behind c n cs
read_behind before zero (c ∷ cs) = option_and_then (λ first. option_map (λ text. first.0 ∷ text) (read_behind c first.1 cs)) (first_read before c cs)

-- the text of a cell of a line
abbrev pub read_cell : List ℕ → Option (List ℕ)
read_cell cell = read_behind 10 0 (trimmed cell)

-- ---- the table

-- the text that is seen of a cell: none where a merged cell hides it
abbrev pub text_seen : Grid (List ℕ) → List Rectangle → Position → List ℕ
text_seen g es p = if is_hidden_in es p then [] else chars (text_of_cell g p)

-- which line a row has: the line of dashes is below the first row
abbrev pub line_of_row : ℕ → ℕ
line_of_row i = if i == 0 then 0 else i + 1

-- lines are read as a table with these merged cells: one line of dashes, which says how texts are aligned, and one for
-- each row, with the texts of its cells
pub record AreReadAs (aligns : List Alignment) (widths : List ℕ) (g : Grid (List ℕ)) (es : List Rectangle) (lines : List (List ℕ)) : Type 0 where
  pub count : length lines ≡ g.rows + 1
  pub dashes : cells_of (slice_index_or lines 1 []) ≡ each g.columns (λ j. dashes (alignment_in aligns j) (slice_index_or widths j 0) ∷ [])
  pub rows : (i : ℕ) → i < g.rows → map read_cell (cells_of (slice_index_or lines (line_of_row i) [])) ≡ each g.columns (λ j. Some (text_seen g es (place i j)) ∷ [])

-- lines are read as a table, whose merged cells that fit hide cells
abbrev pub IsReadAs : List Alignment → Grid (List ℕ) → SpanMap → List (List ℕ) → Type 0
IsReadAs aligns g m lines =
    let es = fitting g.rows g.columns (rectangles m) in
    AreReadAs aligns (markdown_widths g.columns (rows_apart g es)) g es lines
