-- What is read from the front of bytes.
use Rattle.std.specs.Prelude.{◌≡◌, ◌-◌, ◌==◌, ◌&&◌, ◌||◌, ◌++◌, ◌∷◌, if◌then◌else◌, ℕ, Bool, List, [], None, Option, Some, codes, encode_utf8, false, nat_lt, not, slice_index_or, true}
use Rattle.std.specs.List.{filter, fold}
use Rattle.std.specs.Str.{bytes_eq}
use Rattle.tabled_html_reading.specs.Building.{Built, Mode, built_after, closed}
use Rattle.tabled_html_reading.specs.Building.Mode.{InBody, InCaption, InCell}
use Rattle.tabled_html_reading.specs.Elements.{Attribute, Element, Group, Table}
use Rattle.tabled_html_reading.specs.Characters.{is_within}
use Rattle.tabled_html_reading.specs.Tokenizing.{State, Tag, Token, characters, emit, replacements, tokens_from}
use Rattle.tabled_html_reading.specs.Tokenizing.State.{Data}
use Rattle.tabled_html_elements.specs.declared.fault.ReadError.{ReadError}
use Rattle.tabled_html_elements.specs.declared.fault.ReadError.TheVariants.{NoTable}

-- where bytes are no table, this holds
abbrev pub IfFaulty : ReadError → Type 0 → Type 0
IfFaulty NoTable P = P
IfFaulty _ P = Unit {0}

-- bytes from a state on have no tokens, if they were faulty
abbrev pub HaveNone : List ℕ → State → ReadError → Type 0
HaveNone bytes s e = IfFaulty e (tokens_from bytes s ≡ None)

-- bytes from a state on have the characters that a text got, and behind them the tokens of the bytes behind
abbrev pub ReadsOn : List ℕ → State → List ℕ → List ℕ → List ℕ → Type 0
ReadsOn bytes s old new after = emit (characters old) (tokens_from bytes s) ≡ emit (characters new) (tokens_from after Data)

-- the bytes of the character that a reference to a number stands for
abbrev pub spelled : ℕ → List ℕ
spelled code =
    if (code == 0) || (nat_lt 1114111 code || is_within 55296 57343 code) then encode_utf8 65533
    else if is_within 128 159 code then encode_utf8 (slice_index_or replacements (code - 128) 0)
    else encode_utf8 code

-- ---- elements

-- the table of tokens, behind what is built
abbrev pub table_behind : Option Built → Option (List Token) → Option Table
table_behind b None = None
table_behind b (Some ts) = closed (fold built_after b ts)

-- the table of bytes, behind what is built
abbrev pub built_from : Option Built → List ℕ → Option Table
built_from b bytes = table_behind b (tokens_from bytes Data)

-- behind what is built, bytes are no table, if they were faulty
abbrev pub AreNone : Built → List ℕ → ReadError → Type 0
AreNone b bytes e = IfFaulty e (built_from (Some b) bytes ≡ None)

-- what is built in a mode, with a row group's rows and a row's cells, where no cell is open
abbrev pub opened : Mode → Table → Bool → List (List Element) → List Element → Built
opened mode table is_head rows cells = record { mode = mode; table = table; is_head = is_head; rows = rows; cells = cells; is_header = false; attributes = []; text = [] }

-- what is built with a cell open
abbrev pub in_cell : Table → Bool → List (List Element) → List Element → Bool → List Attribute → Built
in_cell table is_head rows cells is_header attributes = record (opened InCell table is_head rows cells) { is_header = is_header; attributes = attributes }

-- a tag ends a cell
abbrev pub ends_cell : Tag → Bool → Bool
ends_cell t is_header = t.is_end && bytes_eq t.name (if is_header then codes "th" else codes "td")

-- a tag ends a caption
abbrev pub ends_caption : Tag → Bool
ends_caption t = t.is_end && bytes_eq t.name (codes "caption")

-- a mode between texts
abbrev pub IsBetween : Mode → Type 0
IsBetween InBody = ⊥
IsBetween InCaption = ⊥
IsBetween InCell = ⊥
IsBetween _ = Unit {0}

-- a text without U+0000
abbrev pub kept : List ℕ → List ℕ
kept text = filter (λ b. not (b == 0)) text

-- the table with a row group more
abbrev pub with_group : Table → Bool → List (List Element) → Table
with_group table is_head rows = record table { groups = table.groups ++ (record { is_head = is_head; rows = rows } ∷ []) }

-- the table with a caption
abbrev pub with_caption : Table → List ℕ → Table
with_caption table text = record table { caption = Some text }

-- a table of such parts
abbrev pub as_table : List Attribute → Option (List ℕ) → List Group → Table
as_table attributes caption groups = record { attributes = attributes; caption = caption; groups = groups }

-- a tag behind a text begins a table
abbrev pub begins_table : List ℕ → Tag → Bool
begins_table [] t = not t.is_end && bytes_eq t.name (codes "table")
begins_table (c ∷ text) t = false

-- a table that has these parts may have a caption
abbrev pub has_room : Option (List ℕ) → List Group → Bool
has_room None [] = true
has_room None (g ∷ groups) = false
has_room (Some text) groups = false

-- the table may have one
abbrev pub may_have_caption : Table → Bool
may_have_caption table = has_room table.caption table.groups

-- the table with one more row group
abbrev pub with_more : Table → Group → Table
with_more table group = record table { groups = table.groups ++ (group ∷ []) }
