-- Where it shows first that bytes mean nothing, and why: what is before the place is as the grammar has it, and what stands there isn't.
-- Each relation says that bytes begin with no such thing, why, and how many bytes are left where that shows.
use Rattle.std.specs.Prelude.{◌≡◌, ◌==◌, ◌&&◌, ◌||◌, nat_le, not, ℕ, Bool, true, false, None, Some, Option, List, [], ◌∷◌, if◌then◌else◌, length, IsUtf8}
use Rattle.tabled_json.specs.Grammar.{CellAt, CellTextAt, KeyAt, ListAt, MemberAt, NumberAt, ObjectAt, RowAt, ScalarAt, ValueAt, WordAt, behind_word, closing, false_word, null_word, opening, true_word}
use Rattle.tabled_json.specs.Meanings.{begins_rows}
use Rattle.tabled_json.specs.Numbers.{is_numeric}
use Rattle.tabled_json.specs.Places.{column_at}
use Rattle.tabled_json.specs.Reading.{NoneAt}
use Rattle.tabled_json.specs.Space.{NotBefore, behind_space}
use Rattle.tabled_json.specs.Strings.{StringAt, escaped_at, is_plain}
use Rattle.tabled_json.specs.WholeValues.{IsInside, IsNext, OpensNothing}
use Rattle.tabled_json.specs.declared.fault.Fault.{Fault}
use Rattle.tabled_json.specs.declared.fault.Fault.TheVariants.{BadEscape, BadNumber, BadUnicode, Closing, Comma, Comment, Control, Ended, NoArray, NoObject, NoWord, NotUtf8, SingleQuote, Unclosed, Unexpected}
use Rattle.tabled_json.specs.declared.kind.Kind.{Kind}
use Rattle.tabled_json.specs.declared.kind.Kind.TheVariants.{Array, Object}
use Rattle.tabled_texts.specs.Lines.{line_at}
use Rattle.tabled_texts.specs.Marks.{behind_mark}

-- a letter
abbrev pub is_letter : ℕ → Bool
is_letter b = (nat_le 65 b && nat_le b 90) || (nat_le 97 b && nat_le b 122)

-- bytes are behind a word
abbrev pub is_behind : Option (List ℕ) → Bool
is_behind (Some after) = true
is_behind None = false

-- bytes begin with a word
abbrev pub begins_word : List ℕ → Bool
begins_word bytes = is_behind (behind_word true_word bytes) || (is_behind (behind_word false_word bytes) || is_behind (behind_word null_word bytes))

-- what is told of bytes that begin with nothing that is wanted: by what they begin with, where that is often written, or else so
abbrev pub told_by : Fault → List ℕ → Fault
told_by wanted [] = Ended
told_by wanted (b ∷ bytes) =
    if b == 44 then Comma
    else if (b == 93) || (b == 125) then Closing
    else if b == 39 then SingleQuote
    else if (b == 47) || (b == 35) then Comment
    else if is_letter b && not (begins_word (b ∷ bytes)) then NoWord
    else wanted

-- something is wanted at the first of bytes
pub record IsWanted (wanted : Fault) (bytes : List ℕ) (fault : Fault) (left : ℕ) : Type 0 where
  pub told : fault ≡ told_by wanted bytes
  pub here : left ≡ length bytes

-- neither a closing byte nor a comma is behind an element
pub record TailFault (close : ℕ) (behind : List ℕ) (fault : Fault) (left : ℕ) : Type 0 where
  pub no_close : NotBefore close (behind_space behind)
  pub no_comma : NotBefore 44 (behind_space behind)
  pub wanted : IsWanted Unexpected (behind_space behind) fault left

-- what is told of a backslash that has no meaning, by what is behind it
abbrev pub escape_fault : List ℕ → Fault
escape_fault [] = BadEscape
escape_fault (b ∷ bytes) = if b == 117 then BadUnicode else BadEscape

-- a character of a string, and what is behind it
pub data CharacterAt : List ℕ → List ℕ → Type 0 where
  plain : {bytes next : List ℕ} (b : ℕ) → bytes ≡ b ∷ next → is_plain b ≡ true → CharacterAt bytes next
  escaped : {bytes next : List ℕ} (c : ℕ) (behind : List ℕ) → bytes ≡ 92 ∷ behind → escaped_at behind ≡ Some (c, next) → CharacterAt bytes next

-- some characters, and what is behind them
pub data CharactersAt : List ℕ → List ℕ → Type 0 where
  none : {bytes rest : List ℕ} → bytes ≡ rest → CharactersAt bytes rest
  more : {bytes rest : List ℕ} (next : List ℕ) → CharacterAt bytes next → CharactersAt next rest → CharactersAt bytes rest

-- what is told of bytes in a string that are no character
abbrev pub stop_fault : List ℕ → Fault
stop_fault [] = Unclosed
stop_fault (b ∷ bytes) = if b == 92 then escape_fault bytes else Control

-- how many bytes are left where that is told: a string that isn't closed is told of its start
abbrev pub stop_left : ℕ → List ℕ → ℕ
stop_left start [] = start
stop_left start (b ∷ bytes) = length (b ∷ bytes)

-- no content of a string: behind some characters is neither another one nor a quote
pub record ContentFault (bytes : List ℕ) (fault : Fault) (left : ℕ) : Type 0 where
  pub rest : List ℕ
  pub characters : CharactersAt bytes rest
  pub no_more : (next : List ℕ) → CharacterAt rest next → ⊥
  pub no_quote : NotBefore 34 rest
  pub told : fault ≡ stop_fault rest
  pub here : left ≡ stop_left (length bytes) rest

-- no number, though a byte that may stand in one begins it
pub record NumberFault (bytes : List ℕ) (fault : Fault) (left : ℕ) : Type 0 where
  pub none : NoneAt NumberAt bytes
  pub told : fault ≡ BadNumber
  pub here : left ≡ length bytes

-- no word
pub record WordFault (bytes : List ℕ) (fault : Fault) (left : ℕ) : Type 0 where
  pub none : NoneAt WordAt bytes
  pub wanted : IsWanted Unexpected bytes fault left

-- what is told of bytes that begin with no value: that they are a bad number, if their first byte may stand in one
abbrev pub scalar_fault : List ℕ → Fault
scalar_fault [] = Ended
scalar_fault (b ∷ bytes) = if is_numeric b then BadNumber else told_by Unexpected (b ∷ bytes)

-- no value without others in it: the content of a string is at fault, or there is no string, no number and no word
pub data ScalarFault : List ℕ → Fault → ℕ → Type 0 where
  string : {bytes : List ℕ} {fault : Fault} {left : ℕ} (behind : List ℕ) → bytes ≡ 34 ∷ behind → ContentFault behind fault left → ScalarFault bytes fault left
  other : {bytes : List ℕ} {fault : Fault} {left : ℕ} → NotBefore 34 bytes → NoneAt ScalarAt bytes → fault ≡ scalar_fault bytes → left ≡ length bytes → ScalarFault bytes fault left

-- no key: no quote is there, or its content is at fault, or no colon is behind it
pub data KeyFault : List ℕ → Fault → ℕ → Type 0 where
  quote : {bytes : List ℕ} {fault : Fault} {left : ℕ} → NotBefore 34 bytes → IsWanted Unexpected bytes fault left → KeyFault bytes fault left
  name : {bytes : List ℕ} {fault : Fault} {left : ℕ} (behind : List ℕ) → bytes ≡ 34 ∷ behind → ContentFault behind fault left → KeyFault bytes fault left
  colon : {bytes : List ℕ} {fault : Fault} {left : ℕ} (key behind : List ℕ) → StringAt bytes key behind → NotBefore 58 (behind_space behind) → IsWanted Unexpected (behind_space behind) fault left
      → KeyFault bytes fault left

-- no item, up to its value
abbrev pub ItemFault : Kind → List ℕ → Fault → ℕ → Type 0
ItemFault Array bytes fault left = ⊥
ItemFault Object bytes fault left = KeyFault bytes fault left

mutual
  -- no value
  pub data ValueFault : List ℕ → Fault → ℕ → Type 0 where
    scalar : {bytes : List ℕ} {fault : Fault} {left : ℕ} → OpensNothing bytes → ScalarFault bytes fault left → ValueFault bytes fault left
    first : {bytes : List ℕ} {fault : Fault} {left : ℕ} (kind : Kind) (inner : List ℕ) → bytes ≡ opening kind ∷ inner → NotBefore (closing kind) (behind_space inner)
        → ItemFault kind (behind_space inner) fault left → ValueFault bytes fault left
    inside : {bytes : List ℕ} {fault : Fault} {left : ℕ} (kind : Kind) (value : List ℕ) → IsInside kind bytes value → ItemsFault kind value fault left → ValueFault bytes fault left

  -- no items, from the value of the first one on, with the closing bracket
  pub data ItemsFault : Kind → List ℕ → Fault → ℕ → Type 0 where
    value : {kind : Kind} {bytes : List ℕ} {fault : Fault} {left : ℕ} → ValueFault bytes fault left → ItemsFault kind bytes fault left
    end : {kind : Kind} {bytes : List ℕ} {fault : Fault} {left : ℕ} (behind : List ℕ) → ValueAt bytes behind → EndFault kind behind fault left → ItemsFault kind bytes fault left

  -- neither a closing bracket nor other items behind an item
  pub data EndFault : Kind → List ℕ → Fault → ℕ → Type 0 where
    tail : {kind : Kind} {behind : List ℕ} {fault : Fault} {left : ℕ} → TailFault (closing kind) behind fault left → EndFault kind behind fault left
    item : {kind : Kind} {behind : List ℕ} {fault : Fault} {left : ℕ} (next : List ℕ) → behind_space behind ≡ 44 ∷ next → ItemFault kind (behind_space next) fault left → EndFault kind behind fault left
    more : {kind : Kind} {behind : List ℕ} {fault : Fault} {left : ℕ} (value : List ℕ) → IsNext kind behind value → ItemsFault kind value fault left → EndFault kind behind fault left

-- a text isn't UTF-8, which is told of its start, where so many bytes are left
pub record IsNoText (start : ℕ) (text : List ℕ) (fault : Fault) (left : ℕ) : Type 0 where
  pub not_utf8 : IsUtf8 text → ⊥
  pub told : fault ≡ NotUtf8
  pub here : left ≡ start

-- no value as the text of a cell
pub data CellFault : List ℕ → Fault → ℕ → Type 0 where
  value : {bytes : List ℕ} {fault : Fault} {left : ℕ} → ValueFault bytes fault left → CellFault bytes fault left
  text : {bytes : List ℕ} {fault : Fault} {left : ℕ} (held after : List ℕ) → CellTextAt bytes held after → IsNoText (length bytes) held fault left → CellFault bytes fault left

-- no member
pub data MemberFault : List ℕ → Fault → ℕ → Type 0 where
  key : {bytes : List ℕ} {fault : Fault} {left : ℕ} → KeyFault bytes fault left → MemberFault bytes fault left
  name : {bytes : List ℕ} {fault : Fault} {left : ℕ} (key value : List ℕ) → KeyAt bytes key value → IsNoText (length bytes) key fault left → MemberFault bytes fault left
  cell : {bytes : List ℕ} {fault : Fault} {left : ℕ} (key value : List ℕ) → KeyAt bytes key value → IsUtf8 key → CellFault value fault left → MemberFault bytes fault left

-- no elements: one is at fault, or behind it is neither the closing byte nor a comma
pub data ElementsFault {A : Type 0} (IsElement : List ℕ → A → List ℕ → Type 0) (ElementFault : List ℕ → Fault → ℕ → Type 0) (close : ℕ) : List ℕ → Fault → ℕ → Type 0 where
  element : {bytes : List ℕ} {fault : Fault} {left : ℕ} → ElementFault bytes fault left → ElementsFault IsElement ElementFault close bytes fault left
  tail : {bytes : List ℕ} {fault : Fault} {left : ℕ} (x : A) (behind : List ℕ) → IsElement bytes x behind → TailFault close behind fault left
      → ElementsFault IsElement ElementFault close bytes fault left
  more : {bytes : List ℕ} {fault : Fault} {left : ℕ} (x : A) (behind next : List ℕ) → IsElement bytes x behind → behind_space behind ≡ 44 ∷ next
      → ElementsFault IsElement ElementFault close (behind_space next) fault left → ElementsFault IsElement ElementFault close bytes fault left

-- no list between brackets
pub data ListFault {A : Type 0} (IsElement : List ℕ → A → List ℕ → Type 0) (ElementFault : List ℕ → Fault → ℕ → Type 0) (wanted : Fault) (opener close : ℕ) : List ℕ → Fault → ℕ → Type 0 where
  opener : {bytes : List ℕ} {fault : Fault} {left : ℕ} → NotBefore opener bytes → IsWanted wanted bytes fault left → ListFault IsElement ElementFault wanted opener close bytes fault left
  inside : {bytes : List ℕ} {fault : Fault} {left : ℕ} (inner : List ℕ) → bytes ≡ opener ∷ inner → NotBefore close (behind_space inner)
      → ElementsFault IsElement ElementFault close (behind_space inner) fault left → ListFault IsElement ElementFault wanted opener close bytes fault left

-- no object
abbrev pub ObjectFault : List ℕ → Fault → ℕ → Type 0
ObjectFault bytes fault left = ListFault MemberAt MemberFault NoObject 123 125 bytes fault left

-- no row
abbrev pub RowFault : List ℕ → Fault → ℕ → Type 0
RowFault bytes fault left = ListFault CellAt CellFault NoArray 91 93 bytes fault left

-- no objects one after another
pub data LinesFault : List ℕ → Fault → ℕ → Type 0 where
  here : {bytes : List ℕ} {fault : Fault} {left : ℕ} → (behind_space bytes ≡ [] → ⊥) → ObjectFault (behind_space bytes) fault left → LinesFault bytes fault left
  further : {bytes : List ℕ} {fault : Fault} {left : ℕ} (object : List (List ℕ × List ℕ)) (after : List ℕ) → ObjectAt (behind_space bytes) object after → LinesFault after fault left
      → LinesFault bytes fault left

-- not one array, up to the end
pub data ArrayFault {A : Type 0} (IsElement : List ℕ → A → List ℕ → Type 0) (ElementFault : List ℕ → Fault → ℕ → Type 0) : List ℕ → Fault → ℕ → Type 0 where
  array : {bytes : List ℕ} {fault : Fault} {left : ℕ} → ListFault IsElement ElementFault Unexpected 91 93 (behind_space bytes) fault left → ArrayFault IsElement ElementFault bytes fault left
  behind : {bytes : List ℕ} {fault : Fault} {left : ℕ} (xs : List A) (after : List ℕ) → ListAt IsElement 91 93 (behind_space bytes) xs after → (behind_space after ≡ [] → ⊥)
      → IsWanted Unexpected (behind_space after) fault left → ArrayFault IsElement ElementFault bytes fault left

-- no records
pub data RecordsFault : List ℕ → Fault → ℕ → Type 0 where
  lines : {bytes : List ℕ} {fault : Fault} {left : ℕ} → NotBefore 91 (behind_space bytes) → LinesFault bytes fault left → RecordsFault bytes fault left
  array : {bytes : List ℕ} {fault : Fault} {left : ℕ} (inner : List ℕ) → behind_space bytes ≡ 91 ∷ inner → ArrayFault ObjectAt ObjectFault bytes fault left → RecordsFault bytes fault left

-- no table: bytes that begin with an array that holds an array first are no rows, and others no records
pub data TableFault : List ℕ → Fault → ℕ → Type 0 where
  rows : {bytes : List ℕ} {fault : Fault} {left : ℕ} → begins_rows (behind_space bytes) ≡ true → ArrayFault RowAt RowFault bytes fault left → TableFault bytes fault left
  records : {bytes : List ℕ} {fault : Fault} {left : ℕ} → begins_rows (behind_space bytes) ≡ false → RecordsFault bytes fault left → TableFault bytes fault left

-- a fault in bytes shows in a line and a column
abbrev pub ShowsAt : (List ℕ → Fault → ℕ → Type 0) → List ℕ → ℕ → ℕ → Fault → Type 0
ShowsAt FaultAt bytes line column fault = (left : ℕ) × FaultAt (behind_mark bytes) fault left × (line ≡ line_at (behind_mark bytes) left) × (column ≡ column_at (behind_mark bytes) left)

-- bytes mean no records: in which line and column that shows first, and why
abbrev pub IsFault : List ℕ → ℕ → ℕ → Fault → Type 0
IsFault bytes line column fault = ShowsAt RecordsFault bytes line column fault

-- bytes mean no table: in which line and column that shows first, and why
abbrev pub IsTableFault : List ℕ → ℕ → ℕ → Fault → Type 0
IsTableFault bytes line column fault = ShowsAt TableFault bytes line column fault
