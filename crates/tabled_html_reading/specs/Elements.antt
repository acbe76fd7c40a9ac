-- What is read of a table: its elements.
use Rattle.std.specs.Prelude.{◌+◌, ◌-◌, ◌*◌, if◌then◌else◌, ℕ, Bool, List, [], ◌∷◌, None, Option, Some}
use Rattle.std.specs.Str.{bytes_eq}
use Rattle.tabled_html_reading.specs.Characters.{is_digit}

-- an attribute of a tag
pub record Attribute : Type 0 where
  pub name : List ℕ
  pub value : List ℕ

-- a cell's element: whether it is a th or a td element, its attributes and its text
pub record Element : Type 0 where
  pub is_header : Bool
  pub attributes : List Attribute
  pub text : List ℕ

-- a row group: whether it is a thead or a tbody element, and its tr elements with those of their cells
pub record Group : Type 0 where
  pub is_head : Bool
  pub rows : List (List Element)

-- a table element: its attributes, its caption's text, if it has one, and its row groups
pub record Table : Type 0 where
  pub attributes : List Attribute
  pub caption : Option (List ℕ)
  pub groups : List Group

-- ---- attributes

-- the value of the first attribute of a name
abbrev pub value_of : List ℕ → List Attribute → Option (List ℕ)
value_of name [] = None
value_of name (a ∷ attributes) = if bytes_eq a.name name then Some a.value else value_of name attributes

-- the number of digits behind others, by the rules for parsing non-negative integers, for digits alone
abbrev pub number_behind : ℕ → List ℕ → Option ℕ
number_behind n [] = Some n
number_behind n (b ∷ bs) = if is_digit b then number_behind (n * 10 + (b - 48)) bs else None

-- the number that digits say, of which there has to be one
abbrev pub number : List ℕ → Option ℕ
number [] = None
number (b ∷ bs) = number_behind 0 (b ∷ bs)

-- the number of a value, where there is one
abbrev pub number_of : Option (List ℕ) → Option ℕ
number_of None = None
number_of (Some value) = number value

-- the number that the attribute of a name says, if it is there
abbrev pub number_in : List ℕ → List Attribute → Option ℕ
number_in name attributes = number_of (value_of name attributes)
