-- JSON, and records in it (RFC 8259, sections 2 to 5). Each relation says that bytes begin with something, and what is behind it.
use Rattle.std.specs.Prelude.{◌≡◌, ◌==◌, if◌then◌else◌, ℕ, true, List, [], ◌∷◌, ◌-◌, length, take, IsUtf8, Option, None, Some}
use Rattle.tabled_json.specs.Space.{behind_space}
use Rattle.tabled_json.specs.Numbers.{is_number, numerals, behind_numerals}
use Rattle.tabled_json.specs.Strings.{StringAt}
use Rattle.tabled_json.specs.declared.kind.Kind.{Kind}
use Rattle.tabled_json.specs.declared.kind.Kind.TheVariants.{Array, Object}

-- the bytes behind a word, if they begin with it
abbrev pub behind_word : List ℕ → List ℕ → Option (List ℕ)
behind_word [] bytes = Some bytes
behind_word (letter ∷ word) [] = None
behind_word (letter ∷ word) (b ∷ bytes) = if b == letter then behind_word word bytes else None

-- the word `true`
abbrev pub true_word : List ℕ
true_word = 116 ∷ 114 ∷ 117 ∷ 101 ∷ []

-- the word `false`
abbrev pub false_word : List ℕ
false_word = 102 ∷ 97 ∷ 108 ∷ 115 ∷ 101 ∷ []

-- the word `null`
abbrev pub null_word : List ℕ
null_word = 110 ∷ 117 ∷ 108 ∷ 108 ∷ []

-- a word
pub data WordAt : List ℕ → List ℕ → List ℕ → Type 0 where
  is_true : {bytes text after : List ℕ} → behind_word true_word bytes ≡ Some after → text ≡ true_word → WordAt bytes text after
  is_false : {bytes text after : List ℕ} → behind_word false_word bytes ≡ Some after → text ≡ false_word → WordAt bytes text after
  is_null : {bytes text after : List ℕ} → behind_word null_word bytes ≡ Some after → text ≡ [] → WordAt bytes text after

-- a number: the longest run of bytes that may stand in one
pub record NumberAt (bytes text after : List ℕ) : Type 0 where
  pub text_is : text ≡ numerals bytes
  pub after_is : after ≡ behind_numerals bytes
  pub is : is_number (numerals bytes) ≡ true

-- a value with no others in it: a string has the text that it stands for, `null` the empty one, and each other one its own bytes
pub data ScalarAt : List ℕ → List ℕ → List ℕ → Type 0 where
  string : {bytes text after : List ℕ} → StringAt bytes text after → ScalarAt bytes text after
  word : {bytes text after : List ℕ} → WordAt bytes text after → ScalarAt bytes text after
  number : {bytes text after : List ℕ} → NumberAt bytes text after → ScalarAt bytes text after

-- the brackets of what holds others
abbrev pub opening : Kind → ℕ
opening Array = 91
opening Object = 123

-- the brackets that close it
abbrev pub closing : Kind → ℕ
closing Array = 93
closing Object = 125

-- a key, and what is from its value on
pub record KeyAt (bytes key value : List ℕ) : Type 0 where
  pub behind : List ℕ
  pub next : List ℕ
  pub name : StringAt bytes key behind
  pub colon : behind_space behind ≡ 58 ∷ next
  pub is : value ≡ behind_space next

-- an item of an array is a value, and one of an object has a key before it
abbrev pub ItemAt : Kind → List ℕ → List ℕ → Type 0
ItemAt Array bytes value = value ≡ bytes
ItemAt Object bytes value = (key : List ℕ) × KeyAt bytes key value

mutual
  -- a value
  pub data ValueAt : List ℕ → List ℕ → Type 0 where
    scalar : {bytes after : List ℕ} (text : List ℕ) → ScalarAt bytes text after → ValueAt bytes after
    empty : {bytes after : List ℕ} (kind : Kind) (inner : List ℕ) → bytes ≡ opening kind ∷ inner → behind_space inner ≡ closing kind ∷ after → ValueAt bytes after
    filled : {bytes after : List ℕ} (kind : Kind) (inner value : List ℕ) → bytes ≡ opening kind ∷ inner → ItemAt kind (behind_space inner) value → ItemsAt kind value after → ValueAt bytes after

  -- items, from the value of the first one on, and the closing bracket
  pub data ItemsAt : Kind → List ℕ → List ℕ → Type 0 where
    last : {kind : Kind} {value after : List ℕ} (behind : List ℕ) → ValueAt value behind → behind_space behind ≡ closing kind ∷ after → ItemsAt kind value after
    more : {kind : Kind} {value after : List ℕ} (behind next item : List ℕ) → ValueAt value behind → behind_space behind ≡ 44 ∷ next → ItemAt kind (behind_space next) item → ItemsAt kind item after
        → ItemsAt kind value after

-- the bytes before what is behind something
abbrev pub before : List ℕ → List ℕ → List ℕ
before bytes after = take (length bytes - length after) bytes

-- a value as the text of a cell: an array's and an object's is its own JSON
pub data CellTextAt : List ℕ → List ℕ → List ℕ → Type 0 where
  scalar : {bytes text after : List ℕ} → ScalarAt bytes text after → CellTextAt bytes text after
  nested : {bytes text after : List ℕ} (kind : Kind) (inner : List ℕ) → bytes ≡ opening kind ∷ inner → ValueAt bytes after → text ≡ before bytes after → CellTextAt bytes text after

-- a value as the text of a cell, which is UTF-8
pub record CellAt (bytes text after : List ℕ) : Type 0 where
  pub utf8 : IsUtf8 text
  pub is : CellTextAt bytes text after

-- a member of an object, as its key and the text of its value
pub record MemberAt (bytes : List ℕ) (member : List ℕ × List ℕ) (after : List ℕ) : Type 0 where
  pub value : List ℕ
  pub utf8 : IsUtf8 member.0
  pub key : KeyAt bytes member.0 value
  pub cell : CellAt value member.1 after

-- elements, of which there is one at least, parted by commas, and the byte that closes them
pub data ElementsAt {A : Type 0} (IsElement : List ℕ → A → List ℕ → Type 0) (close : ℕ) : List ℕ → List A → List ℕ → Type 0 where
  last : {bytes after : List ℕ} {xs : List A} (x : A) (behind : List ℕ) → IsElement bytes x behind → behind_space behind ≡ close ∷ after → xs ≡ x ∷ [] → ElementsAt IsElement close bytes xs after
  more : {bytes after : List ℕ} {xs : List A} (x : A) (ys : List A) (behind next : List ℕ) → IsElement bytes x behind → behind_space behind ≡ 44 ∷ next
      → ElementsAt IsElement close (behind_space next) ys after → xs ≡ x ∷ ys → ElementsAt IsElement close bytes xs after

-- a list between brackets
pub data ListAt {A : Type 0} (IsElement : List ℕ → A → List ℕ → Type 0) (opener close : ℕ) : List ℕ → List A → List ℕ → Type 0 where
  none : {bytes after : List ℕ} {xs : List A} (inner : List ℕ) → bytes ≡ opener ∷ inner → behind_space inner ≡ close ∷ after → xs ≡ [] → ListAt IsElement opener close bytes xs after
  some : {bytes after : List ℕ} {xs : List A} (inner : List ℕ) → bytes ≡ opener ∷ inner → ElementsAt IsElement close (behind_space inner) xs after → ListAt IsElement opener close bytes xs after

-- an object, as its members
abbrev pub ObjectAt : List ℕ → List (List ℕ × List ℕ) → List ℕ → Type 0
ObjectAt bytes members after = ListAt MemberAt 123 125 bytes members after

-- objects one after another, with whitespace between them or not
pub data AreLines : List ℕ → List (List (List ℕ × List ℕ)) → Type 0 where
  none : {bytes : List ℕ} {objects : List (List (List ℕ × List ℕ))} → behind_space bytes ≡ [] → objects ≡ [] → AreLines bytes objects
  line : {bytes : List ℕ} {objects : List (List (List ℕ × List ℕ))} (object : List (List ℕ × List ℕ)) (more : List (List (List ℕ × List ℕ))) (after : List ℕ)
      → ObjectAt (behind_space bytes) object after → AreLines after more → objects ≡ object ∷ more → AreLines bytes objects

-- bytes are objects: one array of them, or one after another
pub data IsRecords : List ℕ → List (List (List ℕ × List ℕ)) → Type 0 where
  array : {bytes : List ℕ} {objects : List (List (List ℕ × List ℕ))} (after : List ℕ) → ListAt ObjectAt 91 93 (behind_space bytes) objects after → behind_space after ≡ [] → IsRecords bytes objects
  lines : {bytes : List ℕ} {objects : List (List (List ℕ × List ℕ))} → AreLines bytes objects → IsRecords bytes objects

-- a row: an array of values, each as the text of a cell
abbrev pub RowAt : List ℕ → List (List ℕ) → List ℕ → Type 0
RowAt bytes texts after = ListAt CellAt 91 93 bytes texts after

-- bytes are one array of elements, up to the end
pub record IsArrayOf {A : Type 0} (IsElement : List ℕ → A → List ℕ → Type 0) (bytes : List ℕ) (xs : List A) : Type 0 where
  pub after : List ℕ
  pub is : ListAt IsElement 91 93 (behind_space bytes) xs after
  pub ended : behind_space after ≡ []

-- bytes are rows: one array of them
abbrev pub AreRows : List ℕ → List (List (List ℕ)) → Type 0
AreRows bytes rows = IsArrayOf RowAt bytes rows
