-- How a table is written.
use Rattle.std.specs.Prelude.{◌≡◌, ℕ, List, [], ◌∷◌, ◌++◌, ◌==◌, map, codes, if◌then◌else◌}
use Rattle.std.specs.List.{flat_map, join_with_byte}
use Rattle.std.specs.Fmt.{decimal}
use Rattle.tabled_grid.specs.Grid.{Grid}
use Rattle.tabled_grid.specs.Spans.{rectangles}
use Rattle.tabled_grid.specs.declared.config.rectangle.Rectangle.{Rectangle}
use Rattle.tabled_steps.specs.States.{State}

-- a byte of a text as it stands in a word
abbrev pub escaped_byte : ℕ → List ℕ
escaped_byte b = if b == 9 then codes "\\t" else (if b == 10 then codes "\\n" else (if b == 92 then codes "\\\\" else b ∷ []))

-- the word that stands for a text
abbrev pub escaped : List ℕ → List ℕ
escaped text = flat_map escaped_byte text

-- a text is its own word: each of its bytes stands as it is
abbrev pub IsOwnWord : List ℕ → Type 0
IsOwnWord text = escaped text ≡ text

-- the words of texts, separated by tabs
abbrev pub tab_separated : List (List ℕ) → List ℕ
tab_separated texts = join_with_byte 9 (map escaped texts)

-- the line of texts: their words, and a newline
abbrev pub line : List (List ℕ) → List ℕ
line texts = tab_separated texts ++ 10 ∷ []

-- the line of a rectangle: the row and the column of its anchor, and its height and width
abbrev pub span_line : Rectangle → List ℕ
span_line e = line (codes "span" ∷ decimal e.first.row ∷ decimal e.first.col ∷ decimal e.size.height ∷ decimal e.size.width ∷ [])

-- the line of a record: `row`, and its texts
abbrev pub row_line : List (List ℕ) → List ℕ
row_line texts = line (codes "row" ∷ texts)

-- the lines of records
abbrev pub row_lines : List (List (List ℕ)) → List ℕ
row_lines rows = flat_map row_line rows

-- the lines of a table's shape, and then of its rows
abbrev pub table_lines : Grid (List ℕ) → List ℕ
table_lines g = line (codes "shape" ∷ decimal g.rows ∷ decimal g.columns ∷ []) ++ row_lines g.cells

-- a table's lines, and then those of its rectangles, row by row
abbrev pub print : State → List ℕ
print s = table_lines s.texts ++ flat_map span_line (rectangles s.spans)
