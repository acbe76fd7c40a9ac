-- Elements as they are shown, and which of them are written so that they are read again.
use Rattle.std.specs.Prelude.{◌≡◌, ◌&&◌, ◌++◌, ℕ, Bool, List, [], ◌∷◌, map, not, true}
use Rattle.std.specs.List.{AllByRecursion, list_all}
use Rattle.std.specs.Option.{is_some, option_map}
use Rattle.tabled_html_reading.specs.Building.{are_spans}
use Rattle.tabled_html_reading.specs.Characters.{is_plain, is_small}
use Rattle.tabled_html_reading.specs.Elements.{Attribute, Element, Group, Table, value_of}
use Rattle.tabled_html_reading.specs.Escaping.{shown}

-- the element with its text as it is shown
abbrev pub shown_element : Element → Element
shown_element e = record e { text = shown e.text }

-- the row group with the texts of its cells as they are shown
abbrev pub shown_group : Group → Group
shown_group g = record g { rows = map (map shown_element) g.rows }

-- the table with all texts as they are shown
abbrev pub shown_table : Table → Table
shown_table t = record t { caption = option_map shown t.caption; groups = map shown_group t.groups }

-- an attribute has a name of small letters, and a value that stands for itself between quotes
pub record IsPlain (a : Attribute) : Type 0 where
  pub first : ℕ
  pub others : List ℕ
  pub name : a.name ≡ first ∷ others
  pub letters : list_all is_small a.name ≡ true
  pub value : list_all is_plain a.value ≡ true

-- all attributes of a tag have
abbrev pub ArePlain : List Attribute → Type 0
ArePlain attributes = AllByRecursion IsPlain attributes

-- each attribute behind some others has a name that none before it has
abbrev pub are_apart_behind : List Attribute → List Attribute → Bool
are_apart_behind seen [] = true
are_apart_behind seen (a ∷ attributes) = not (is_some (value_of a.name seen)) && are_apart_behind (seen ++ (a ∷ [])) attributes

-- no two attributes have a name
abbrev pub are_apart : List Attribute → Bool
are_apart attributes = are_apart_behind [] attributes

-- the attributes of a cell are plain, no two have a name, and numbers say its spans
pub record IsWritable (e : Element) : Type 0 where
  pub plain : ArePlain e.attributes
  pub apart : are_apart e.attributes ≡ true
  pub spans : are_spans e.attributes ≡ true

-- so are those of all cells of some rows
abbrev pub AreWritable : List (List Element) → Type 0
AreWritable rows = AllByRecursion (λ cells. AllByRecursion IsWritable cells) rows

-- so are those of all cells of a table, and its own are plain, and no two of these have a name
pub record IsTableWritable (t : Table) : Type 0 where
  pub attributes : ArePlain t.attributes
  pub apart : are_apart t.attributes ≡ true
  pub groups : AllByRecursion (λ (g : Group). AreWritable g.rows) t.groups
