-- How an HTML parser makes the elements of a table of tokens.
-- By the HTML standard's tree construction (13.2.6), as far as tables need it that have a caption, thead, tbody, tr, th and
-- td elements with their end tags. A tbody that isn't written is implied. What isn't described here gives none.
use Rattle.std.specs.Prelude.{◌==◌, ◌&&◌, ◌||◌, ◌++◌, if◌then◌else◌, ℕ, Bool, false, true, List, [], ◌∷◌, None, Option, Some, codes}
use Rattle.std.specs.List.{fold}
use Rattle.std.specs.Option.{option_map}
use Rattle.std.specs.Str.{bytes_eq}
use Rattle.tabled_html_reading.specs.Characters.{is_blank}
use Rattle.tabled_html_reading.specs.Elements.{Attribute, Element, Group, Table, number, value_of}
use Rattle.tabled_html_reading.specs.Tokenizing.{Tag, Token, tokens}
use Rattle.tabled_html_reading.specs.Tokenizing.Token.{Character, Marked}

-- the insertion modes: before a table, in it, in its caption, in a row group, in a row, in a cell, and behind the table
pub data Mode : Type 0 where
  InBody : Mode
  InTable : Mode
  InCaption : Mode
  InTableBody : Mode
  InRow : Mode
  InCell : Mode
  Behind : Mode

-- the table so far, whether the row group is a thead, its rows, and those of the row's cells; and of the cell whether it
-- is a th, its attributes and its text, or the text of the caption
pub record Built : Type 0 where
  pub mode : Mode
  pub table : Table
  pub is_head : Bool
  pub rows : List (List Element)
  pub cells : List Element
  pub is_header : Bool
  pub attributes : List Attribute
  pub text : List ℕ

-- an attribute isn't there, or a number
abbrev pub is_number_if : Option (List ℕ) → Bool
is_number_if None = true
is_number_if (Some value) = elim (number value) [ None ↦ false | Some n ↦ true ]

-- the attributes that say spans are numbers
abbrev pub are_spans : List Attribute → Bool
are_spans attributes = is_number_if (value_of (codes "colspan") attributes) && is_number_if (value_of (codes "rowspan") attributes)

-- a name is that of a cell, or that of a row group
abbrev pub is_cell : List ℕ → Bool
is_cell name = bytes_eq name (codes "td") || bytes_eq name (codes "th")

-- the names of row groups
abbrev pub is_group : List ℕ → Bool
is_group name = bytes_eq name (codes "tbody") || bytes_eq name (codes "thead")

-- the start of a row group
abbrev pub begin_group : Built → Bool → Mode → Option Built
begin_group b is_head mode = Some (record b { mode = mode; is_head = is_head })

-- the end of a row group, which is put into the table
abbrev pub end_group : Built → Mode → Option Built
end_group b mode = Some (record b { mode = mode; table = record b.table { groups = b.table.groups ++ (record { is_head = b.is_head; rows = b.rows } ∷ []) }; is_head = false; rows = [] })

-- the end of a row, which is put into the row group
abbrev pub end_row : Built → Option Built
end_row b = Some (record b { mode = InTableBody; rows = b.rows ++ (b.cells ∷ []); cells = [] })

-- the end of a cell, whose element is put into the row
abbrev pub end_cell : Built → Option Built
end_cell b =
    if are_spans b.attributes
    then Some (record b { mode = InRow; cells = b.cells ++ (record { is_header = b.is_header; attributes = b.attributes; text = b.text } ∷ []); is_header = false; attributes = []; text = [] })
    else None

-- the end of a caption, which is put into the table
abbrev pub end_caption : Built → Option Built
end_caption b = Some (record b { mode = InTable; table = record b.table { caption = Some b.text }; text = [] })

-- a caption begins where there is none yet, nor a row group
abbrev pub begin_caption : Built → Option (List ℕ) → List Group → Option Built
begin_caption b None [] = Some (record b { mode = InCaption })
begin_caption b _ _ = None

-- a start tag in each mode
abbrev pub at_start : Built → Mode → Tag → Option Built
at_start b InBody t = if bytes_eq t.name (codes "table") then Some (record b { mode = InTable; table = record b.table { attributes = t.attributes } }) else None
at_start b InTable t =
    if bytes_eq t.name (codes "caption") then begin_caption b b.table.caption b.table.groups
    else if bytes_eq t.name (codes "tr") then begin_group b false InRow
    else if is_group t.name then begin_group b (bytes_eq t.name (codes "thead")) InTableBody else None
at_start b InTableBody t = if bytes_eq t.name (codes "tr") then Some (record b { mode = InRow }) else None
at_start b InRow t = if is_cell t.name then Some (record b { mode = InCell; is_header = bytes_eq t.name (codes "th"); attributes = t.attributes }) else None
at_start b _ t = None

-- an end tag in each mode
abbrev pub at_end_tag : Built → Mode → List ℕ → Option Built
at_end_tag b InTable name = if bytes_eq name (codes "table") then Some (record b { mode = Behind }) else None
at_end_tag b InCaption name = if bytes_eq name (codes "caption") then end_caption b else None
at_end_tag b InTableBody name =
    if bytes_eq name (codes "table") then end_group b Behind
    else if bytes_eq name (if b.is_head then codes "thead" else codes "tbody") then end_group b InTable else None
at_end_tag b InRow name = if bytes_eq name (codes "tr") then end_row b else None
at_end_tag b InCell name = if bytes_eq name (if b.is_header then codes "th" else codes "td") then end_cell b else None
at_end_tag b _ name = None

-- a character in a cell or a caption, of which a U+0000 is ignored
abbrev pub with_character : Built → ℕ → Option Built
with_character b c = if c == 0 then Some b else Some (record b { text = b.text ++ (c ∷ []) })

-- a character in each mode: outside of texts white space is let be
abbrev pub at_character : Built → Mode → ℕ → Option Built
at_character b InCell c = with_character b c
at_character b InCaption c = with_character b c
at_character b InBody c = None
at_character b _ c = if is_blank c then Some b else None

-- what a token does
abbrev pub built_after : Option Built → Token → Option Built
built_after None t = None
built_after (Some b) (Character c) = at_character b b.mode c
built_after (Some b) (Marked t) = if t.is_end then at_end_tag b b.mode t.name else at_start b b.mode t

-- a table without anything in it
abbrev pub no_table : Table
no_table = record { attributes = []; caption = None; groups = [] }

-- nothing is built yet
abbrev pub nothing_built : Built
nothing_built = record { mode = InBody; table = no_table; is_head = false; rows = []; cells = []; is_header = false; attributes = []; text = [] }

-- the table, where it is closed
abbrev pub closed : Option Built → Option Table
closed None = None
closed (Some b) = closed_in b.mode b.table
  where
    closed_in : Mode → Table → Option Table
    closed_in Behind table = Some table
    closed_in _ table = None

-- the table of tokens, where there are some
abbrev pub table_of : Option (List Token) → Option Table
table_of None = None
table_of (Some ts) = closed (fold built_after (Some nothing_built) ts)

-- the table that bytes are read as
abbrev pub parsed : List ℕ → Option Table
parsed bs = table_of (tokens bs)

-- the text of tokens in a cell, where they are characters alone
abbrev pub text_in : List Token → Option (List ℕ)
text_in [] = Some []
text_in (Marked t ∷ ts) = None
text_in (Character c ∷ ts) = option_map (λ bs. if c == 0 then bs else c ∷ bs) (text_in ts)

-- the text of tokens, where there are some
abbrev pub text_of : Option (List Token) → Option (List ℕ)
text_of None = None
text_of (Some ts) = text_in ts

-- the text that bytes are read as in a cell
abbrev pub read_text : List ℕ → Option (List ℕ)
read_text bs = text_of (tokens bs)
