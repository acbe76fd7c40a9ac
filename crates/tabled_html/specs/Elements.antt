-- The elements that stand for a table with merged cells.
use Rattle.std.specs.Prelude.{◌+◌, ◌-◌, ◌&&◌, ◌++◌, if◌then◌else◌, ℕ, Bool, List, [], ◌∷◌, None, Option, Some, codes, decimal, false, nat_le, nat_lt, not, true}
use Rattle.std.specs.List.{list_all}
use Rattle.std.specs.Option.{unwrap_or}
use Rattle.tabled_grid.specs.Entity.{place}
use Rattle.tabled_grid.specs.Grid.{Grid, cell_at, map_grid}
use Rattle.tabled_grid.specs.Hidden.{is_hidden}
use Rattle.tabled_grid.specs.Shifts.{is_crossed}
use Rattle.tabled_grid.specs.Spans.{SpanMap, size_at}
use Rattle.tabled_grid.specs.declared.config.position.Position.{Position}
use Rattle.tabled_grid.specs.declared.config.size.Size.{Size}
use Rattle.tabled_grid.specs.declared.records.axis.Axis.TheVariants.{Rows}
use Rattle.tabled_html.specs.Limits.{keep_written}
use Rattle.tabled_html.specs.Looks.{Look, alignment_in}
use Rattle.tabled_html.specs.Written.{Written, written_as}
use Rattle.tabled_html.specs.declared.alignment.Alignment.{Alignment}
use Rattle.tabled_html.specs.declared.alignment.Alignment.TheVariants.{Center, Left, Right}
use Rattle.tabled_html_reading.specs.Areas.{series}
use Rattle.tabled_html_reading.specs.Bytes.{table_bytes}
use Rattle.tabled_html_reading.specs.Characters.{is_plain}
use Rattle.tabled_html_reading.specs.Elements.{Attribute, Element, Group, Table}

-- ---- attributes

-- the attribute for a number of columns or rows, of which 1 needs none
abbrev pub span_attribute : List ℕ → ℕ → List Attribute
span_attribute name n = if nat_lt 1 n then record { name = name; value = decimal n } ∷ [] else []

-- the attribute of a header cell: it is that of its columns
abbrev pub scope_attribute : Bool → List Attribute
scope_attribute is_header = if is_header then record { name = codes "scope"; value = codes "col" } ∷ [] else []

-- the style of an alignment
abbrev pub style_of : Alignment → List ℕ
style_of Left = codes "text-align: left"
style_of Center = codes "text-align: center"
style_of Right = codes "text-align: right"

-- its attribute, if there is one
abbrev pub style_attribute : Option Alignment → List Attribute
style_attribute None = []
style_attribute (Some alignment) = record { name = codes "style"; value = style_of alignment } ∷ []

-- what is said of a cell beside its spans
abbrev pub manner : Bool → Option Alignment → List Attribute
manner is_header alignment = scope_attribute is_header ++ style_attribute alignment

-- the attributes of a cell
abbrev pub cell_attributes : Bool → Option Alignment → Size → List Attribute
cell_attributes is_header alignment size = span_attribute (codes "colspan") size.width ++ (span_attribute (codes "rowspan") size.height ++ manner is_header alignment)

-- ---- elements

-- the element of a cell
abbrev pub element : Bool → Option Alignment → Size → List ℕ → Element
element is_header alignment size text = record { is_header = is_header; attributes = cell_attributes is_header alignment size; text = text }

-- the text of a cell
abbrev pub text_of_cell : Grid (List ℕ) → Position → List ℕ
text_of_cell g p = unwrap_or (cell_at g p) []

-- the element of a cell of a size that begins at a place
abbrev pub element_at : Grid (List ℕ) → Look → Position → Size → Element
element_at g look p size = element (nat_lt p.row look.header) (alignment_in look.alignments p.col) size (text_of_cell g p)

-- the element of the cell that begins at a place: none where another's rectangle holds it
abbrev pub begun_at : Written → Position → List Element
begun_at w p = if is_hidden w.merged p then [] else element_at w.texts w.look p (size_at w.merged p) ∷ []

-- the elements of the first cells of row i
abbrev pub cells_of : Written → ℕ → ℕ → List Element
cells_of w i count = series count (λ j. begun_at w (place i j))

-- the elements of row i
abbrev pub row_of : Written → ℕ → List Element
row_of w i = cells_of w i w.texts.columns

-- the elements of some rows, from one on
abbrev pub rows_of : Written → ℕ → ℕ → List (List Element)
rows_of w first count = series count (λ k. row_of w (first + k) ∷ [])

-- ---- the table

-- the header is the head of the table: there are so many rows, and no merged cell crosses its end
abbrev pub has_head : ℕ → SpanMap → ℕ → Bool
has_head rows m header = (nat_lt 0 header && nat_le header rows) && not (is_crossed Rows header m)

-- rows as a head or a body
abbrev pub group : Bool → List (List Element) → Group
group is_head rows = record { is_head = is_head; rows = rows }

-- the row groups of a table: its head, if it has one, and its body
abbrev pub groups_of : Written → List Group
groups_of w =
    if has_head w.texts.rows w.merged w.look.header
    then group true (rows_of w 0 w.look.header) ∷ group false (rows_of w w.look.header (w.texts.rows - w.look.header)) ∷ []
    else group false (rows_of w 0 w.texts.rows) ∷ []

-- the class of a table, where it stands for itself between quotes
abbrev pub class_attribute : Option (List ℕ) → List Attribute
class_attribute None = []
class_attribute (Some class) = if list_all is_plain class then record { name = codes "class"; value = class } ∷ [] else []

-- the element of a table
abbrev pub table : Written → Table
table w = record { attributes = class_attribute w.look.class; caption = w.look.caption; groups = groups_of w }

-- its bytes, with those of its merged cells that fit it and that HTML can say
abbrev pub fragment : Grid (List ℕ) → SpanMap → Look → List ℕ
fragment g m look = table_bytes (table (written_as g (keep_written g.rows g.columns m) look))

-- what stands before the table of a whole page
abbrev pub page_start : List ℕ
page_start = codes "<!DOCTYPE html>\n<html lang=\"en\">\n<head>\n<meta charset=\"utf-8\">\n<title>Table</title>\n<style>\n:root { color-scheme: light dark }\ntable { border-collapse: collapse }\ncaption { white-space: pre-line }\nth, td { border: 1px solid; padding: 0.2em 0.5em; text-align: left; vertical-align: top; white-space: pre-line }\n</style>\n</head>\n<body>\n"

-- what stands behind it
abbrev pub page_end : List ℕ
page_end = codes "</body>\n</html>\n"

-- the bytes of a table, or of the page that it stands in
abbrev pub framed : Bool → List ℕ → List ℕ
framed is_whole bytes = if is_whole then page_start ++ (bytes ++ page_end) else bytes

-- the bytes that are written
abbrev pub html : Grid (List ℕ) → SpanMap → Look → List ℕ
html g m look = framed look.is_whole (fragment g m look)

-- the same of cells that have texts
abbrev pub html_of : {A : Type 0} → (A → List ℕ) → Grid A → SpanMap → Look → List ℕ
html_of text_of g m look = html (map_grid text_of g) m look
