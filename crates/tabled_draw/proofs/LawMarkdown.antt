-- What holds of tables as Markdown.
use Rattle.tabled_draw.proofs.Common.{Alignment, Grid, IsInside, List, Rectangle, SpanMap, [], ap, arith, cond, each, fitting, get_or, length, map, ne_eqb, place, rectangles, refl, subst, sym, ℕ, ◌+◌, ◌<◌, ◌∙◌, ◌≡◌}
use Rattle.tabled_draw.proofs.Each.{get-singles, length-singles}
use Rattle.tabled_draw.proofs.MarkdownCells.{count-lines, dashes-read, line-at, row-read, second-line}
use Rattle.tabled_draw.specs.Markdown.{cell_apart, lines_at, lines_of, markdown, markdown_lines, markdown_width, markdown_widths, row_apart, rows_apart}
use Rattle.tabled_draw.specs.MarkdownRead.{AreReadAs, IsReadAs, cells_of, read_cell}
use Rattle.tabled_draw.specs.Picture.{bytes_of_lines}

pub bytes-of-lines : (aligns : List Alignment) (g : Grid (List ℕ)) (m : SpanMap) → markdown aligns g m ≡ bytes_of_lines (markdown_lines aligns g m)
unfolding markdown
bytes-of-lines aligns g m = refl

module _ (aligns : List Alignment) (g : Grid (List ℕ)) (es : List Rectangle) (inside : IsInside g (place 0 0)) where
  abbrev rows : List (List (List ℕ))
  rows = rows_apart g es

  abbrev widths : List ℕ
  widths = markdown_widths g.columns rows

  tall : length rows ≡ g.rows
  tall = length-singles (row_apart g es) g.rows

  wide : length widths ≡ g.columns
  wide = length-singles (markdown_width rows) g.columns

  lines-each : lines_of aligns widths rows ≡ each (length rows) (lines_at aligns widths rows)
  lines-each = ap (λ b. cond b [] (each (length rows) (lines_at aligns widths rows))) (ne_eqb (length widths) 0 (λ none. omega (arith, none, wide, inside.col)))

  cells-at : (i : ℕ) → i < g.rows → (j : ℕ) → j < g.columns → get_or (get_or rows i []) j [] ≡ cell_apart g es (place i j)
  cells-at i less j within = ap (λ row. get_or row j []) (get-singles (row_apart g es) g.rows i [] less) ∙ get-singles (λ j. cell_apart g es (place i j)) g.columns j [] within

  some : 0 < length rows
  some = subst (λ n. 0 < n) (sym tall) inside.row

  read-each : AreReadAs aligns widths g es (each (length rows) (lines_at aligns widths rows))
  read-each = record {
    count = count-lines aligns widths rows (length rows) some ∙ ap (λ n. n + 1) tall;
    dashes = ap cells_of (second-line aligns widths rows (length rows) some) ∙ dashes-read aligns widths g.columns wide;
    rows = λ i less. ap (λ line. map read_cell (cells_of line)) (line-at aligns widths rows (length rows) i (subst (λ n. i < n) (sym tall) less)) ∙ row-read aligns widths g es i (get_or rows i []) wide (cells-at i less);
  }

  read-lines : AreReadAs aligns widths g es (lines_of aligns widths rows)
  read-lines = subst (AreReadAs aligns widths g es) (sym lines-each) read-each

-- the lines of a table are read as it
pub lines-read : (aligns : List Alignment) (g : Grid (List ℕ)) (m : SpanMap) → IsInside g (place 0 0) → IsReadAs aligns g m (markdown_lines aligns g m)
lines-read aligns g m inside = read-lines aligns g (fitting g.rows g.columns (rectangles m)) inside
