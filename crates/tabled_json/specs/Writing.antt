-- How rows are written.
use Rattle.std.specs.Prelude.{◌+◌, ◌-◌, ◌/◌, ◌%◌, ◌||◌, nat_le, nat_lt, ℕ, zero, suc, Bool, List, [], ◌∷◌, ◌++◌, map, if◌then◌else◌, IsUtf8}
use Rattle.std.specs.List.{AllByRecursion, zip}
use Rattle.std.specs.Str.{bytes_eq}
use Rattle.tabled_json.specs.Grammar.{false_word, true_word}
use Rattle.tabled_json.specs.Numbers.{is_number}
use Rattle.tabled_json.specs.Strings.{is_plain}
use Rattle.tabled_json.specs.declared.form.Layout.{Layout}
use Rattle.tabled_json.specs.declared.form.Layout.TheVariants.{Array, Lines}
use Rattle.tabled_json.specs.declared.form.Values.{Values}
use Rattle.tabled_json.specs.declared.form.Values.TheVariants.{Strings, Bare}

-- a hexadecimal digit
abbrev pub hex_letter : ℕ → ℕ
hex_letter d = if nat_lt d 10 then 48 + d else 97 + d - 10

-- a byte of a string: itself, behind a backslash, or by its number
abbrev pub escape : ℕ → List ℕ
escape b =
    if is_plain b then b ∷ []
    else if nat_le 32 b then 92 ∷ b ∷ []
    else 92 ∷ 117 ∷ 48 ∷ 48 ∷ hex_letter (b / 16) ∷ hex_letter (b % 16) ∷ []

-- the bytes of a text in a string
abbrev pub escaped_text : List ℕ → List ℕ
escaped_text [] = []
escaped_text (b ∷ text) = escape b ++ escaped_text text

-- a text as a string
abbrev pub string_of : List ℕ → List ℕ
string_of text = 34 ∷ (escaped_text text ++ (34 ∷ []))

-- a text that may stand with no quotes: a number, `true` or `false`
abbrev pub is_bare : List ℕ → Bool
is_bare text = is_number text || (bytes_eq text true_word || bytes_eq text false_word)

-- a text as a value: a string, or as it is, where that is asked for and may be
abbrev pub value_of : Values → List ℕ → List ℕ
value_of Strings text = string_of text
value_of Bare text = if is_bare text then text else string_of text

-- a member of an object
abbrev pub member_text : Values → List ℕ × List ℕ → List ℕ
member_text values member = string_of member.0 ++ (58 ∷ value_of values member.1)

-- texts with some bytes between them
abbrev pub parted : List ℕ → List (List ℕ) → List ℕ
parted between [] = []
parted between (text ∷ []) = text
parted between (text ∷ next ∷ texts) = text ++ (between ++ parted between (next ∷ texts))

-- what stands before the text of an index: nothing before the first
abbrev pub before_index : ℕ → List ℕ → List ℕ
before_index zero between = []
before_index (suc i) between = between

-- an object, its members parted by commas
abbrev pub object_text : Values → List (List ℕ × List ℕ) → List ℕ
object_text values members = 123 ∷ (parted (44 ∷ []) (map (member_text values) members) ++ (125 ∷ []))

-- objects, one a line
abbrev pub lines_text : Values → List (List (List ℕ × List ℕ)) → List ℕ
lines_text values [] = []
lines_text values (object ∷ objects) = (object_text values object ++ (10 ∷ [])) ++ lines_text values objects

-- records as they are written: in an array, with a comma and the end of a line between them, or one a line
abbrev pub records_text : Layout → Values → List (List (List ℕ × List ℕ)) → List ℕ
records_text Array values objects = 91 ∷ (parted (44 ∷ 10 ∷ []) (map (object_text values) objects) ++ (93 ∷ 10 ∷ []))
records_text Lines values objects = lines_text values objects

-- the records of rows, of which the first has the keys
abbrev pub records_of : List (List (List ℕ)) → List (List (List ℕ × List ℕ))
records_of [] = []
records_of (keys ∷ rows) = map (zip keys) rows

-- rows as they are written
abbrev pub json_of : Layout → Values → List (List (List ℕ)) → List ℕ
json_of layout values rows = records_text layout values (records_of rows)

-- a member's key and text are UTF-8
pub record IsMember (member : List ℕ × List ℕ) : Type 0 where
  pub key : IsUtf8 member.0
  pub text : IsUtf8 member.1

-- each member's key and text are UTF-8
abbrev pub AreRecords : List (List (List ℕ × List ℕ)) → Type 0
AreRecords objects = AllByRecursion (AllByRecursion IsMember) objects
