-- Tables as Markdown: what their lines are.
use Rattle.std.specs.Prelude.{◌≡◌, ◌<◌, ◌==◌, ◌&&◌, ◌||◌, ◌++◌, if◌then◌else◌, ℕ, Bool, List, [], ◌∷◌, String, chars, codes, length, map, max, replicate, slice_index_or}
use Rattle.std.specs.Char.{is_ascii_alphanumeric, is_control, is_whitespace}
use Rattle.std.specs.Fmt.{decimal}
use Rattle.std.specs.Global.{Global, Vec}
use Rattle.std.specs.String.{string_bytes}
use Rattle.tabled_draw.specs.Alignments.{aligned, alignment_in}
use Rattle.tabled_draw.specs.Each.{each, largest}
use Rattle.tabled_draw.specs.Picture.{bytes_of_lines}
use Rattle.tabled_draw.specs.Sizes.{text_of_cell}
use Rattle.tabled_draw.specs.Texts.{text_width}
use Rattle.tabled_draw.specs.declared.alignment.Alignment.{Alignment}
use Rattle.tabled_draw.specs.declared.alignment.Alignment.TheVariants.{Left, Center, Right}
use Rattle.tabled_grid.specs.Anchors.{is_hidden_in}
use Rattle.tabled_grid.specs.Covers.{Cover, IsCoverOf}
use Rattle.tabled_grid.specs.Entity.{place}
use Rattle.tabled_grid.specs.Fitting.{fitting}
use Rattle.tabled_grid.specs.Grid.{Grid, map_items}
use Rattle.tabled_grid.specs.Spans.{SpanMap, rectangle, rectangles, sized}
use Rattle.tabled_grid.specs.declared.config.rectangle.Rectangle.{Rectangle}
use Rattle.tabled_grid.specs.declared.config.position.Position.{Position}

-- ---- texts

-- a mark of Markdown: one of \ ` * _ [ ] ~ |
unfoldable pub is_mark : ℕ → Bool
is_mark c = (c == 92) || ((c == 96) || ((c == 42) || ((c == 95) || ((c == 91) || ((c == 93) || ((c == 126) || (c == 124)))))))

-- what goes on behind the colon of a link, as `http://`, or of a picture's name, as `:+1:`
unfoldable pub goes_on : ℕ → Bool
goes_on c = is_ascii_alphanumeric c || ((c == 47) || ((c == 43) || (c == 45)))

-- a character means something between two others: it is a mark, the colon of a link or a picture's name, or the full stop
-- of `www.`
unfoldable pub is_markup : ℕ → ℕ → ℕ → Bool
is_markup before c after = is_mark c || (((c == 58) && goes_on after) || ((c == 46) && ((before == 119) || (before == 87))))

-- a character stands as its number between two others: a control character, or a blank behind a blank or at an end of a
-- line, which a reader may leave out
unfoldable pub is_numbered : ℕ → ℕ → ℕ → Bool
is_numbered before c after = is_control c || (is_whitespace c && (is_whitespace before || (after == 10)))

-- what stands for a character between two others
unfoldable pub escape : ℕ → ℕ → ℕ → List ℕ
escape before c after =
    if c == 10 then codes "<br>"
    else if c == 38 then codes "&amp;"
    else if c == 60 then codes "&lt;"
    else if is_numbered before c after then codes "&#" ++ (decimal c ++ codes ";")
    else if is_markup before c after then 92 ∷ c ∷ []
    else c ∷ []

-- what stands for characters behind another one, each between those beside it, the last one before a newline
abbrev pub escaped_behind : ℕ → List ℕ → List ℕ
escaped_behind before [] = []
escaped_behind before (c ∷ cs) = escape before c (slice_index_or cs 0 10) ++ escaped_behind c cs

-- what stands for a text
abbrev pub escaped : List ℕ → List ℕ
escaped text = escaped_behind 10 (chars text)

-- ---- cells

-- what stands for a cell in Markdown, which knows no merged cells: one that a merged cell hides is empty
abbrev pub cell_apart : Grid (List ℕ) → List Rectangle → Position → List ℕ
cell_apart g es p = if is_hidden_in es p then [] else escaped (text_of_cell g p)

-- what stands for the cells of a row
abbrev pub row_apart : Grid (List ℕ) → List Rectangle → ℕ → List (List ℕ)
row_apart g es i = each g.columns (λ j. cell_apart g es (place i j) ∷ [])

-- what stands for the cells of all rows
abbrev pub rows_apart : Grid (List ℕ) → List Rectangle → List (List (List ℕ))
rows_apart g es = each g.rows (λ i. row_apart g es i ∷ [])

-- what stands for the cells of all rows, where those of the merged cells that fit hide cells
abbrev pub texts_apart : Grid (List ℕ) → SpanMap → List (List (List ℕ))
texts_apart g m = rows_apart g (fitting g.rows g.columns (rectangles m))

-- ---- lines

-- the columns that the widest of some rows' cells takes of a column, and at least three
abbrev pub markdown_width : List (List (List ℕ)) → ℕ → ℕ
markdown_width rows j = largest 3 (length rows) (λ i. text_width (slice_index_or (slice_index_or rows i []) j []))

-- the widths of n columns
abbrev pub markdown_widths : ℕ → List (List (List ℕ)) → List ℕ
markdown_widths n rows = each n (λ j. markdown_width rows j ∷ [])

-- the line of a row: its cells, aligned in their columns, between bars
abbrev pub row_line : List Alignment → List ℕ → List (List ℕ) → List ℕ
row_line aligns widths row = each (length widths) (λ j. 124 ∷ aligned (alignment_in aligns j) (slice_index_or widths j 0) (slice_index_or row j [])) ++ (124 ∷ [])

-- what dashes begin with: a colon where texts stand in the middle
abbrev pub first_dash : Alignment → ℕ
first_dash Left = 45
first_dash Center = 58
first_dash Right = 45

-- what dashes end with: a colon where texts stand in the middle or to the right
abbrev pub last_dash : Alignment → ℕ
last_dash Left = 45
last_dash Center = 58
last_dash Right = 58

-- the dashes of a column, n and one more at each end, which says how texts are aligned
abbrev pub dashes : Alignment → ℕ → List ℕ
dashes alignment n = first_dash alignment ∷ (replicate n 45 ++ (last_dash alignment ∷ []))

-- the line of dashes: those of each column, between bars
abbrev pub dashes_line : List Alignment → List ℕ → List ℕ
dashes_line aligns widths = each (length widths) (λ j. 124 ∷ dashes (alignment_in aligns j) (slice_index_or widths j 0)) ++ (124 ∷ [])

-- the line of row i, and below that of the first row the line of dashes
abbrev pub lines_at : List Alignment → List ℕ → List (List (List ℕ)) → ℕ → List (List ℕ)
lines_at aligns widths rows i = row_line aligns widths (slice_index_or rows i []) ∷ (if i == 0 then dashes_line aligns widths ∷ [] else [])

-- the lines of rows, of which there is none without columns
abbrev pub lines_of : List Alignment → List ℕ → List (List (List ℕ)) → List (List ℕ)
lines_of aligns widths rows = if length widths == 0 then [] else each (length rows) (lines_at aligns widths rows)

-- the lines of a table as Markdown, where the merged cells that fit it hide cells
abbrev pub markdown_lines : List Alignment → Grid (List ℕ) → SpanMap → List (List ℕ)
markdown_lines aligns g m =
    lines_of aligns (markdown_widths g.columns (texts_apart g m)) (texts_apart g m)

-- the bytes of a table as Markdown
unfoldable pub markdown : List Alignment → Grid (List ℕ) → SpanMap → List ℕ
markdown aligns g m = bytes_of_lines (markdown_lines aligns g m)

-- ---- texts that are made one by one, where it is counted how often each place is hidden

-- the characters of a text
abbrev pub characters : String Global → List ℕ
characters text = chars (string_bytes text)

-- the characters of the texts of rows
abbrev pub rows_of_characters : List (Vec (String Global)) → List (List (List ℕ))
rows_of_characters rows = map (map characters) (map_items rows)

-- counts of how often places are hidden are those of all places of a table
abbrev pub IsOver : {A : Type 0} → Grid A → Cover → Type 0
IsOver g cover = cover.block ≡ rectangle (place 0 0) (sized g.rows g.columns)

-- a text is that of a place, where the table's merged cells are those that are counted
abbrev pub IsCellApart : Grid (List ℕ) → Cover → Position → String Global → Type 0
IsCellApart g cover p text = (m : SpanMap) → IsCoverOf m cover → characters text ≡ cell_apart g (rectangles m) p

-- texts are those of row i, likewise
abbrev pub IsRowApart : Grid (List ℕ) → Cover → ℕ → List (String Global) → Type 0
IsRowApart g cover i row = (m : SpanMap) → IsCoverOf m cover → map characters row ≡ row_apart g (rectangles m) i

-- texts are those of all rows, likewise
abbrev pub AreRowsApart : Grid (List ℕ) → Cover → List (Vec (String Global)) → Type 0
AreRowsApart g cover rows = (m : SpanMap) → IsCoverOf m cover → rows_of_characters rows ≡ rows_apart g (rectangles m)

-- each width is raised to that of the text in its column
abbrev pub AreRaised : List (List ℕ) → List ℕ → List ℕ → Type 0
AreRaised row old new = (j : ℕ) → j < length row → slice_index_or new j 0 ≡ max (slice_index_or old j 0) (text_width (slice_index_or row j []))
