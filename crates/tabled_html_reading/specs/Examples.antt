-- Worked examples of the algorithm for forming a table, and of reading.
use Rattle.std.specs.Prelude.{◌≡◌, ◌++◌, ℕ, List, [], ◌∷◌, None, Some, codes, encode_utf8, false, true}
use Rattle.tabled_html_reading.specs.Building.{no_table, parsed, read_text}
use Rattle.tabled_html_reading.specs.Elements.{Attribute, Element, Group}
use Rattle.tabled_html_reading.specs.Forming.{Cell, Forming, cells_at, forming_a_table, lacks_anchors}

-- an attribute that digits say
abbrev pub spans : List ℕ → List ℕ → List Attribute
spans name digits = record { name = name; value = digits } ∷ []

-- an element named by its text
abbrev pub spanned : ℕ → List Attribute → Element
spanned name attributes = record { is_header = false; attributes = attributes; text = name ∷ [] }

-- an element with a text
abbrev pub spanned_text : List ℕ → List Attribute → Element
spanned_text text attributes = record { is_header = false; attributes = attributes; text = text }

-- an element without attributes
abbrev pub plain : ℕ → Element
plain name = spanned name []

-- how many columns an element takes
abbrev pub wide : ℕ → List ℕ → Element
wide name digits = spanned name (spans (codes "colspan") digits)

-- how many rows
abbrev pub high : ℕ → List ℕ → Element
high name digits = spanned name (spans (codes "rowspan") digits)

-- rows as the body of a table
abbrev pub body : List (List Element) → List Group
body rows = record { is_head = false; rows = rows } ∷ []

-- a cell, anchored at a slot
abbrev pub cell : ℕ → ℕ → Element → Cell
cell x y element = record { x = x; y = y; element = element }

-- a cell from above and one from the left share a slot
abbrev pub overlapping : List (List Element)
overlapping = (plain 1 ∷ high 2 (codes "2") ∷ []) ∷ (wide 3 (codes "2") ∷ []) ∷ []

-- there is an error, and the slot has both cells
pub record Overlaps (f : Forming) : Type 0 where
  pub error : f.overlaps ≡ true
  pub both : cells_at f.covered 1 1 ≡ cell 1 0 (high 2 (codes "2")) ∷ cell 0 1 (wide 3 (codes "2")) ∷ []

-- a cell of three rows in a table of one
abbrev pub past : List (List Element)
past = (plain 1 ∷ high 2 (codes "3") ∷ []) ∷ []

-- the table has three rows, and cells in two columns of the first alone: in the others no cell is anchored
pub record GoesPast (f : Forming) : Type 0 where
  pub rows : f.ywidth ≡ 3
  pub none : cells_at f.covered 0 1 ≡ []
  pub error : lacks_anchors f ≡ true

-- a cell that grows downward, of rowspan 0, and one of a colspan above the limit
abbrev pub growing : List (List Element)
growing = (high 1 (codes "0") ∷ plain 2 ∷ []) ∷ (plain 3 ∷ []) ∷ (wide 4 (codes "2000") ∷ []) ∷ []

-- the cell of rowspan 0 is in each row, and the other one takes a thousand columns
pub record Grows (f : Forming) : Type 0 where
  pub rows : f.ywidth ≡ 3
  pub columns : f.xwidth ≡ 1001
  pub apart : f.overlaps ≡ false
  pub grown : cells_at f.covered 0 2 ≡ cell 0 0 (high 1 (codes "0")) ∷ []
  pub last : cells_at f.covered 1000 2 ≡ cell 1 2 (wide 4 (codes "2000")) ∷ []

-- one cell of two rows and two columns, and a row without cells
abbrev pub alone : List (List Element)
alone = (spanned 1 (spans (codes "colspan") (codes "2") ++ spans (codes "rowspan") (codes "2")) ∷ []) ∷ [] ∷ []

-- the table has its one cell, and a row and a column in which no cell is anchored
pub record IsAlone (f : Forming) : Type 0 where
  pub rows : f.ywidth ≡ 2
  pub columns : f.xwidth ≡ 2
  pub apart : f.overlaps ≡ false
  pub error : lacks_anchors f ≡ true

-- the tables that are formed of these elements
pub record AreFormed : Type 0 where
  pub overlaps : Overlaps (forming_a_table (body overlapping))
  pub past : GoesPast (forming_a_table (body past))
  pub grows : Grows (forming_a_table (body growing))
  pub alone : IsAlone (forming_a_table (body alone))

-- what some bytes are read as
pub record AreRead : Type 0 where
  pub newlines : read_text (codes "a\r\nb\rc\nd") ≡ Some (codes "a\nb\nc\nd")
  pub controls : read_text (codes "&#13;&#x80;&#159;&#0;&#xD800;&#1114112;") ≡ Some (13 ∷ (encode_utf8 8364 ++ encode_utf8 376 ++ encode_utf8 65533 ++ encode_utf8 65533 ++ encode_utf8 65533))
  pub names : read_text (codes "&lt;&gt;&amp;amp;") ≡ Some (codes "<>&amp;")
  pub bare : read_text (codes "& &; &# &#; &#x &#xg &#65 &#x41,&") ≡ Some (codes "& &; &# &#; &#x &#xg A A,&")
  pub nul : read_text (97 ∷ 0 ∷ 98 ∷ []) ≡ Some (codes "ab")
  pub tag : read_text (codes "a<b>c") ≡ None
  pub table : parsed (codes "<TABLE >\n<tr><td ROWSPAN=\"03\" >a&lt;b</td><td></td></tr> </table>") ≡ Some (record no_table { groups = body ((spanned_text (codes "a<b") (spans (codes "rowspan") (codes "03")) ∷ spanned_text [] [] ∷ []) ∷ []) })
  pub whole : parsed (codes "<table class=\"c\"><caption>t</caption><thead><tr><th>h</th></tr></thead> <tbody></tbody></table>") ≡ Some (record { attributes = spans (codes "class") (codes "c"); caption = Some (codes "t"); groups = record { is_head = true; rows = (record { is_header = true; attributes = []; text = codes "h" } ∷ []) ∷ [] } ∷ record { is_head = false; rows = [] } ∷ [] })
  pub unclosed : parsed (codes "<table><tr><td>a</td></tr>") ≡ None
