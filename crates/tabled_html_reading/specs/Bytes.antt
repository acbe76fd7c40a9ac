-- The bytes of elements.
use Rattle.std.specs.Prelude.{◌++◌, if◌then◌else◌, ℕ, Bool, List, [], ◌∷◌, None, Option, Some, codes}
use Rattle.std.specs.List.{flat_map}
use Rattle.tabled_html_reading.specs.Elements.{Attribute, Element, Group, Table}
use Rattle.tabled_html_reading.specs.Escaping.{escaped}

-- a blank, and an attribute, its value between quotes
abbrev pub attribute_bytes : Attribute → List ℕ
attribute_bytes a = 32 ∷ (a.name ++ (61 ∷ 34 ∷ (a.value ++ (34 ∷ []))))

-- the attributes of a tag, and its end
abbrev pub attributes_bytes : List Attribute → List ℕ
attributes_bytes attributes = flat_map attribute_bytes attributes ++ (62 ∷ [])

-- the front of a cell's start tag
abbrev pub cell_start : Bool → List ℕ
cell_start is_header = if is_header then codes "<th" else codes "<td"

-- a cell's end tag
abbrev pub cell_end : Bool → List ℕ
cell_end is_header = if is_header then codes "</th>" else codes "</td>"

-- the bytes of a cell's element
abbrev pub cell_bytes : Element → List ℕ
cell_bytes e = cell_start e.is_header ++ (attributes_bytes e.attributes ++ (escaped e.text ++ cell_end e.is_header))

-- the bytes of a tr element
abbrev pub row_bytes : List Element → List ℕ
row_bytes cells = codes "<tr>" ++ (flat_map cell_bytes cells ++ codes "</tr>\n")

-- a row group's start tag, in a line of its own
abbrev pub group_start : Bool → List ℕ
group_start is_head = if is_head then codes "<thead>\n" else codes "<tbody>\n"

-- its end tag
abbrev pub group_end : Bool → List ℕ
group_end is_head = if is_head then codes "</thead>\n" else codes "</tbody>\n"

-- the bytes of a row group
abbrev pub group_bytes : Group → List ℕ
group_bytes g = group_start g.is_head ++ (flat_map row_bytes g.rows ++ group_end g.is_head)

-- the bytes of a caption, in a line of its own, where there is one
abbrev pub caption_bytes : Option (List ℕ) → List ℕ
caption_bytes None = []
caption_bytes (Some text) = codes "<caption>" ++ (escaped text ++ codes "</caption>\n")

-- the bytes of a table
abbrev pub table_bytes : Table → List ℕ
table_bytes t = codes "<table" ++ (attributes_bytes t.attributes ++ (10 ∷ (caption_bytes t.caption ++ (flat_map group_bytes t.groups ++ codes "</table>\n"))))
