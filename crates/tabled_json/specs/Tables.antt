-- The table of records.
use Rattle.std.specs.BTreeMap.{get_by}
use Rattle.std.specs.Cmp.Lexicographic.{slice_cmp}
use Rattle.std.specs.List.{list_any}
use Rattle.std.specs.Ordering.{nat_cmp}
use Rattle.std.specs.Prelude.{◌≡◌, ℕ, suc, Bool, false, List, [], ◌∷◌, ◌++◌, map, if◌then◌else◌, Option, None, Some, option_map}
use Rattle.std.specs.Str.{bytes_eq}
use Rattle.tabled_texts.specs.Texts.{texts_of}
use Rattle.tabled_json.specs.declared.keys.Keys.{Keys}

-- a key is among others
abbrev pub is_among : List ℕ → List (List ℕ) → Bool
is_among key keys = list_any (λ other. bytes_eq other key) keys

-- the column of a key: the first, where it is among keys
abbrev pub find_key : List ℕ → List (List ℕ) → Option ℕ
find_key key [] = None
find_key key (other ∷ keys) = if bytes_eq other key then Some 0 else option_map suc (find_key key keys)

-- no two keys are equal
abbrev pub AreDistinct : List (List ℕ) → Type 0
AreDistinct [] = Unit {0}
AreDistinct (key ∷ keys) = (is_among key keys ≡ false) × AreDistinct keys

-- each key stands once, and is found at its column
pub record AreListed (keys : Keys) : Type 0 where
  pub distinct : AreDistinct (texts_of keys.texts)
  pub found : (key : List ℕ) → get_by (λ k. slice_cmp nat_cmp key k.now) keys.columns ≡ find_key key (texts_of keys.texts)

-- keys, and behind them a key that isn't among them
abbrev pub with_key : List (List ℕ) → List ℕ → List (List ℕ)
with_key keys key = if is_among key keys then keys else keys ++ (key ∷ [])

-- keys, and behind them those of an object that aren't among them
abbrev pub with_members : List (List ℕ) → List (List ℕ × List ℕ) → List (List ℕ)
with_members keys [] = keys
with_members keys (member ∷ members) = with_members (with_key keys member.0) members

-- keys, and behind them those of objects that aren't among them
abbrev pub with_objects : List (List ℕ) → List (List (List ℕ × List ℕ)) → List (List ℕ)
with_objects keys [] = keys
with_objects keys (object ∷ objects) = with_objects (with_members keys object) objects

-- the keys of objects in the order in which they are first met
abbrev pub keys_of : List (List (List ℕ × List ℕ)) → List (List ℕ)
keys_of objects = with_objects [] objects

-- the text of the last member with a key, or else this one
abbrev pub last_text : List ℕ → List ℕ → List (List ℕ × List ℕ) → List ℕ
last_text key text [] = text
last_text key text (member ∷ members) = last_text key (if bytes_eq member.0 key then member.1 else text) members

-- an object's text for each key
abbrev pub row_of : List (List ℕ) → List (List ℕ × List ℕ) → List (List ℕ)
row_of keys object = map (λ key. last_text key [] object) keys

-- the keys, and then the texts of each object; where there is no object, no row
abbrev pub table_of : List (List (List ℕ × List ℕ)) → List (List (List ℕ))
table_of [] = []
table_of (object ∷ objects) = keys_of (object ∷ objects) ∷ map (row_of (keys_of (object ∷ objects))) (object ∷ objects)
