-- Bytes have one fault at most.
use Rattle.tabled_json.proofs.Common.{◌≡◌, ◌∷◌, ◌∙◌, ℕ, List, Fault, IsUtf8, NoneAt, ap, arith, false, heads, length, refl, subst, sym, tails, true}
use Rattle.tabled_json.proofs.Cells.{one-array, one-member, one-object}
use Rattle.tabled_json.proofs.Contents.{second-is, string-unique}
use Rattle.tabled_json.proofs.Faulty.{array-none, cell-none, content-none, item-none, key-none, list-none, member-none, object-none, row-none, value-none}
use Rattle.tabled_json.proofs.KeyParts.{item-unique, key-unique}
use Rattle.tabled_json.proofs.Lists.{IsOne}
use Rattle.tabled_json.proofs.Meaning.{one-cell, one-row, one-rows}
use Rattle.tabled_json.proofs.WholeValues.{same-inner, value-unique}
use Rattle.tabled_json.specs.Faults.{ArrayFault, CellFault, CharacterAt, CharactersAt, ContentFault, ElementsFault, EndFault, IsWanted, ItemFault, ItemsFault, KeyFault, LinesFault, ListFault, MemberFault, ObjectFault, RecordsFault, RowFault, ScalarFault, TableFault, ValueFault, stop_fault, stop_left, told_by}
use Rattle.tabled_json.specs.Grammar.{CellAt, CellTextAt, ItemAt, ListAt, MemberAt, ObjectAt, RowAt, ValueAt, opening}
use Rattle.tabled_json.specs.Space.{behind_space}
use Rattle.tabled_json.specs.Strings.{ContentAt, StringAt, escaped_at, is_plain}
use Rattle.tabled_json.specs.WholeValues.{IsInside}
use Rattle.tabled_json.specs.declared.fault.Fault.TheVariants.{NoArray, NoObject, Unexpected}
use Rattle.tabled_json.specs.declared.kind.Kind.{Kind}
use Rattle.tabled_json.specs.declared.kind.Kind.TheVariants.{Array, Object}

-- two faults are one
abbrev Same : Fault → Fault → ℕ → ℕ → Type 0
Same fault other left more = (fault ≡ other) × (left ≡ more)

wanted-once : {wanted : Fault} {bytes next : List ℕ} {fault other : Fault} {left more : ℕ} → bytes ≡ next → IsWanted wanted bytes fault left → IsWanted wanted next other more → Same fault other left more
wanted-once {wanted} {bytes} {next} e f g =
    (f.told ∙ (ap (λ (l : List ℕ). told_by wanted l) e ∙ sym g.told), f.here ∙ (ap length e ∙ sym g.here))

-- ---- strings and scalars

character-once : (bytes next other : List ℕ) → CharacterAt bytes next → CharacterAt bytes other → next ≡ other
character-once bytes next other (CharacterAt.plain b e is) (CharacterAt.plain c f p) = tails b c next other (sym e ∙ f)
character-once bytes next other (CharacterAt.plain b e is) (CharacterAt.escaped c behind f p) =
    let k : false ≡ true = subst (λ (n : ℕ). is_plain n ≡ true) (heads b 92 next behind (sym e ∙ f)) is in cc
character-once bytes next other (CharacterAt.escaped c behind f p) (CharacterAt.plain b e is) =
    let k : false ≡ true = subst (λ (n : ℕ). is_plain n ≡ true) (heads b 92 other behind (sym e ∙ f)) is in cc
character-once bytes next other (CharacterAt.escaped c behind e is) (CharacterAt.escaped d after f p) =
    second-is c d next other (sym is ∙ (ap escaped_at (tails 92 92 behind after (sym e ∙ f)) ∙ p))

characters-once : {bytes rest : List ℕ} (other : List ℕ) → CharactersAt bytes rest → CharactersAt bytes other → ((next : List ℕ) → CharacterAt rest next → ⊥) → ((next : List ℕ) → CharacterAt other next → ⊥)
    → rest ≡ other
characters-once other (CharactersAt.none e) (CharactersAt.none f) stops ends = sym e ∙ f
characters-once other (CharactersAt.none e) (CharactersAt.more next c d) stops ends = absurd (stops next (subst (λ (l : List ℕ). CharacterAt l next) e c))
characters-once other (CharactersAt.more next c d) (CharactersAt.none f) stops ends = absurd (ends next (subst (λ (l : List ℕ). CharacterAt l next) f c))
characters-once {bytes} other (CharactersAt.more next c d) (CharactersAt.more after g h) stops ends =
    characters-once other d (subst (λ (l : List ℕ). CharactersAt l other) (sym (character-once bytes next after c g)) h) stops ends

content-once : (bytes after : List ℕ) (fault other : Fault) (left more : ℕ) → bytes ≡ after → ContentFault bytes fault left → ContentFault after other more → Same fault other left more
content-once bytes after fault other left more e f h =
    let g : ContentFault bytes other more = subst (λ (l : List ℕ). ContentFault l other more) (sym e) h in
    let same = characters-once g.rest f.characters g.characters f.no_more g.no_more in
    (f.told ∙ (ap stop_fault same ∙ sym g.told), f.here ∙ (ap (stop_left (length bytes)) same ∙ sym g.here))

scalar-once : (bytes : List ℕ) (fault other : Fault) (left more : ℕ) → ScalarFault bytes fault left → ScalarFault bytes other more → Same fault other left more
scalar-once bytes fault other left more (ScalarFault.string behind e f) (ScalarFault.string after g h) =
    content-once behind after fault other left more (tails 34 34 behind after (sym e ∙ g)) f h
scalar-once bytes fault other left more (ScalarFault.string behind e f) (ScalarFault.other not none told here) = absurd (not behind e)
scalar-once bytes fault other left more (ScalarFault.other not none told here) (ScalarFault.string behind e f) = absurd (not behind e)
scalar-once bytes fault other left more (ScalarFault.other not none told here) (ScalarFault.other no_quote no_scalar says there) = (told ∙ sym says, here ∙ sym there)

-- ---- keys and values

name-apart : (bytes behind key after : List ℕ) (fault : Fault) (left : ℕ) → bytes ≡ 34 ∷ behind → ContentFault behind fault left → StringAt bytes key after → ⊥
name-apart bytes behind key after fault left e f name =
    content-none behind fault left f key after (subst (λ (l : List ℕ). ContentAt l key after) (tails 34 34 name.0 behind (sym name.1 ∙ e)) name.2)

key-once : (bytes : List ℕ) (fault other : Fault) (left more : ℕ) → KeyFault bytes fault left → KeyFault bytes other more → Same fault other left more
key-once bytes fault other left more (KeyFault.quote not f) (KeyFault.quote no_quote g) = wanted-once refl f g
key-once bytes fault other left more (KeyFault.quote not f) (KeyFault.name behind e g) = absurd (not behind e)
key-once bytes fault other left more (KeyFault.quote not f) (KeyFault.colon key behind name no_colon g) = absurd (not name.0 name.1)
key-once bytes fault other left more (KeyFault.name behind e f) (KeyFault.quote not g) = absurd (not behind e)
key-once bytes fault other left more (KeyFault.name behind e f) (KeyFault.name after h g) = content-once behind after fault other left more (tails 34 34 behind after (sym e ∙ h)) f g
key-once bytes fault other left more (KeyFault.name behind e f) (KeyFault.colon key after name no_colon g) = absurd (name-apart bytes behind key after fault left e f name)
key-once bytes fault other left more (KeyFault.colon key behind name no_colon f) (KeyFault.quote not g) = absurd (not name.0 name.1)
key-once bytes fault other left more (KeyFault.colon key after name no_colon f) (KeyFault.name behind e g) = absurd (name-apart bytes behind key after other more e g name)
key-once bytes fault other left more (KeyFault.colon key behind name no_colon f) (KeyFault.colon again after string no_sign g) =
    wanted-once (ap behind_space (string-unique bytes key behind again after name string).1) f g

item-once : (kind : Kind) (bytes : List ℕ) (fault other : Fault) (left more : ℕ) → ItemFault kind bytes fault left → ItemFault kind bytes other more → Same fault other left more
item-once Array bytes fault other left more f g = absurd f
item-once Object bytes fault other left more f g = key-once bytes fault other left more f g

-- what holds behind a bracket and whitespace
behind-bracket : (P : Kind → List ℕ → Type 0) (bytes inner other : List ℕ) (kind again : Kind) → bytes ≡ opening kind ∷ inner → bytes ≡ opening again ∷ other → P again (behind_space other) → P kind (behind_space inner)
behind-bracket P bytes inner other kind again e f p =
    let s = same-inner kind again inner other (sym e ∙ f) in
    subst (λ (k : Kind). P k (behind_space inner)) (sym s.0) (subst (λ (l : List ℕ). P again (behind_space l)) (sym s.1) p)

first-apart : (bytes inner value : List ℕ) (kind again : Kind) (fault : Fault) (left : ℕ) → bytes ≡ opening kind ∷ inner → ItemFault kind (behind_space inner) fault left → IsInside again bytes value → ⊥
first-apart bytes inner value kind again fault left e f is =
    item-none kind (behind_space inner) fault left f value
    (behind-bracket (λ (k : Kind) (l : List ℕ). ItemAt k l value) bytes inner is.inner kind again e is.opens is.item)

next-item : (P : List ℕ → Type 0) (behind next other : List ℕ) → behind_space behind ≡ 44 ∷ next → behind_space behind ≡ 44 ∷ other → P (behind_space other) → P (behind_space next)
next-item P behind next other e f p = subst (λ (l : List ℕ). P (behind_space l)) (tails 44 44 other next (sym f ∙ e)) p

mutual
  value-once : {bytes : List ℕ} {fault : Fault} {left : ℕ} (other : Fault) (more : ℕ) → ValueFault bytes fault left → ValueFault bytes other more → Same fault other left more
  value-once {bytes} {fault} {left} other more (ValueFault.scalar opens f) (ValueFault.scalar again g) = scalar-once bytes fault other left more f g
  value-once other more (ValueFault.scalar opens f) (ValueFault.first kind inner e not g) = absurd (opens kind inner e)
  value-once other more (ValueFault.scalar opens f) (ValueFault.inside kind value is g) = absurd (opens kind is.inner is.opens)
  value-once other more (ValueFault.first kind inner e not f) (ValueFault.scalar opens g) = absurd (opens kind inner e)
  value-once {bytes} {fault} {left} other more (ValueFault.first kind inner e not f) (ValueFault.first again after h no_close g) =
      item-once kind (behind_space inner) fault other left more f (behind-bracket (λ (k : Kind) (l : List ℕ). ItemFault k l other more) bytes inner after kind again e h g)
  value-once {bytes} {fault} {left} other more (ValueFault.first kind inner e not f) (ValueFault.inside again value is g) = absurd (first-apart bytes inner value kind again fault left e f is)
  value-once other more (ValueFault.inside kind value is f) (ValueFault.scalar opens g) = absurd (opens kind is.inner is.opens)
  value-once {bytes} other more (ValueFault.inside again value is f) (ValueFault.first kind inner e not g) = absurd (first-apart bytes inner value kind again other more e g is)
  value-once {bytes} other more (ValueFault.inside kind value is f) (ValueFault.inside again item also g) =
      let s = same-inner kind again is.inner also.inner (sym is.opens ∙ also.opens) in
      let i : ItemAt kind (behind_space is.inner) item = behind-bracket (λ (k : Kind) (l : List ℕ). ItemAt k l item) bytes is.inner also.inner kind again is.opens also.opens also.item in
      let same = item-unique kind (behind_space is.inner) item value i is.item in
      items-once other more f (subst (λ (k : Kind). ItemsFault k value other more) (sym s.0) (subst (λ (l : List ℕ). ItemsFault again l other more) same g))

  items-once : {kind : Kind} {bytes : List ℕ} {fault : Fault} {left : ℕ} (other : Fault) (more : ℕ) → ItemsFault kind bytes fault left → ItemsFault kind bytes other more → Same fault other left more
  items-once other more (ItemsFault.value f) (ItemsFault.value g) = value-once other more f g
  items-once other more (ItemsFault.value f) (ItemsFault.end behind v g) = absurd (value-none f behind v)
  items-once other more (ItemsFault.end behind v f) (ItemsFault.value g) = absurd (value-none g behind v)
  items-once {kind} other more (ItemsFault.end behind v f) (ItemsFault.end after w g) =
      end-once other more f (subst (λ (l : List ℕ). EndFault kind l other more) (value-unique behind w v) g)

  end-once : {kind : Kind} {behind : List ℕ} {fault : Fault} {left : ℕ} (other : Fault) (more : ℕ) → EndFault kind behind fault left → EndFault kind behind other more → Same fault other left more
  end-once other more (EndFault.tail f) (EndFault.tail g) = wanted-once refl f.wanted g.wanted
  end-once other more (EndFault.tail f) (EndFault.item next comma g) = absurd (f.no_comma next comma)
  end-once other more (EndFault.tail f) (EndFault.more value is g) = absurd (f.no_comma is.next is.comma)
  end-once other more (EndFault.item next comma f) (EndFault.tail g) = absurd (g.no_comma next comma)
  end-once {kind} {behind} {fault} {left} other more (EndFault.item next comma f) (EndFault.item after sign g) =
      item-once kind (behind_space next) fault other left more f (next-item (λ (l : List ℕ). ItemFault kind l other more) behind next after comma sign g)
  end-once {kind} {behind} {fault} {left} other more (EndFault.item next comma f) (EndFault.more value is g) =
      absurd (item-none kind (behind_space next) fault left f value (next-item (λ (l : List ℕ). ItemAt kind l value) behind next is.next comma is.comma is.item))
  end-once other more (EndFault.more value is f) (EndFault.tail g) = absurd (g.no_comma is.next is.comma)
  end-once {kind} {behind} other more (EndFault.more value is f) (EndFault.item next comma g) =
      absurd (item-none kind (behind_space next) other more g value (next-item (λ (l : List ℕ). ItemAt kind l value) behind next is.next comma is.comma is.item))
  end-once {kind} {behind} other more (EndFault.more value is f) (EndFault.more item also g) =
      let i : ItemAt kind (behind_space is.next) item = next-item (λ (l : List ℕ). ItemAt kind l item) behind is.next also.next is.comma also.comma also.item in
      items-once other more f (subst (λ (l : List ℕ). ItemsFault kind l other more) (item-unique kind (behind_space is.next) item value i is.item) g)

-- ---- cells and members

text-value : (bytes text after : List ℕ) → CellTextAt bytes text after → ValueAt bytes after
text-value bytes text after (CellTextAt.scalar s) = ValueAt.scalar text s
text-value bytes text after (CellTextAt.nested kind inner e v t) = v

cell-once : (bytes : List ℕ) (fault other : Fault) (left more : ℕ) → CellFault bytes fault left → CellFault bytes other more → Same fault other left more
cell-once bytes fault other left more (CellFault.value f) (CellFault.value g) = value-once other more f g
cell-once bytes fault other left more (CellFault.value f) (CellFault.text held after is g) = absurd (value-none f after (text-value bytes held after is))
cell-once bytes fault other left more (CellFault.text held after is f) (CellFault.value g) = absurd (value-none g after (text-value bytes held after is))
cell-once bytes fault other left more (CellFault.text held after is f) (CellFault.text text behind also g) = (f.told ∙ sym g.told, f.here ∙ sym g.here)

member-once : (bytes : List ℕ) (fault other : Fault) (left more : ℕ) → MemberFault bytes fault left → MemberFault bytes other more → Same fault other left more
member-once bytes fault other left more (MemberFault.key f) (MemberFault.key g) = key-once bytes fault other left more f g
member-once bytes fault other left more (MemberFault.key f) (MemberFault.name key value is g) = absurd (key-none bytes fault left f key value is)
member-once bytes fault other left more (MemberFault.key f) (MemberFault.cell key value is utf8 g) = absurd (key-none bytes fault left f key value is)
member-once bytes fault other left more (MemberFault.name key value is f) (MemberFault.key g) = absurd (key-none bytes other more g key value is)
member-once bytes fault other left more (MemberFault.name key value is f) (MemberFault.name again after also g) = (f.told ∙ sym g.told, f.here ∙ sym g.here)
member-once bytes fault other left more (MemberFault.name key value is f) (MemberFault.cell again after also utf8 g) =
    absurd (f.not_utf8 (subst IsUtf8 (sym (key-unique bytes key value again after is also).0) utf8))
member-once bytes fault other left more (MemberFault.cell key value is utf8 f) (MemberFault.key g) = absurd (key-none bytes other more g key value is)
member-once bytes fault other left more (MemberFault.cell key value is utf8 f) (MemberFault.name again after also g) =
    absurd (g.not_utf8 (subst IsUtf8 (key-unique bytes key value again after is also).0 utf8))
member-once bytes fault other left more (MemberFault.cell key value is utf8 f) (MemberFault.cell again after also utf g) =
    cell-once value fault other left more f (subst (λ (l : List ℕ). CellFault l other more) (sym (key-unique bytes key value again after is also).1) g)

-- ---- lists

module _ {A : Type 0} (IsElement : List ℕ → A → List ℕ → Type 0) (ElementFault : List ℕ → Fault → ℕ → Type 0) (close : ℕ) (one : IsOne IsElement)
    (none : (bytes : List ℕ) (fault : Fault) (left : ℕ) → ElementFault bytes fault left → NoneAt IsElement bytes)
    (once : (bytes : List ℕ) (fault other : Fault) (left more : ℕ) → ElementFault bytes fault left → ElementFault bytes other more → Same fault other left more) where
  elements-once : {bytes : List ℕ} {fault : Fault} {left : ℕ} (other : Fault) (more : ℕ) → ElementsFault IsElement ElementFault close bytes fault left → ElementsFault IsElement ElementFault close bytes other more
      → Same fault other left more
  elements-once {bytes} {fault} {left} other more (ElementsFault.element f) (ElementsFault.element g) = once bytes fault other left more f g
  elements-once {bytes} {fault} {left} other more (ElementsFault.element f) (ElementsFault.tail x behind e g) = absurd (none bytes fault left f x behind e)
  elements-once {bytes} {fault} {left} other more (ElementsFault.element f) (ElementsFault.more x behind next e comma g) = absurd (none bytes fault left f x behind e)
  elements-once {bytes} other more (ElementsFault.tail x behind e f) (ElementsFault.element g) = absurd (none bytes other more g x behind e)
  elements-once {bytes} other more (ElementsFault.tail x behind e f) (ElementsFault.tail y after d g) =
      wanted-once (ap behind_space (one.same bytes behind after x y e d).1) f.wanted g.wanted
  elements-once {bytes} other more (ElementsFault.tail x behind e f) (ElementsFault.more y after next d comma g) =
      absurd (f.no_comma next (ap behind_space (one.same bytes behind after x y e d).1 ∙ comma))
  elements-once {bytes} other more (ElementsFault.more x behind next e comma f) (ElementsFault.element g) = absurd (none bytes other more g x behind e)
  elements-once {bytes} other more (ElementsFault.more x behind next e comma f) (ElementsFault.tail y after d g) =
      absurd (g.no_comma next (ap behind_space (one.same bytes after behind y x d e).1 ∙ comma))
  elements-once {bytes} other more (ElementsFault.more x behind next e comma f) (ElementsFault.more y after item d sign g) =
      let same = ap behind_space (one.same bytes behind after x y e d).1 in
      elements-once other more f (next-item (λ (l : List ℕ). ElementsFault IsElement ElementFault close l other more) behind next item comma (same ∙ sign) g)

  list-once : (wanted : Fault) (opener : ℕ) (bytes : List ℕ) (fault other : Fault) (left more : ℕ) → ListFault IsElement ElementFault wanted opener close bytes fault left
      → ListFault IsElement ElementFault wanted opener close bytes other more → Same fault other left more
  list-once wanted opener bytes fault other left more (ListFault.opener not f) (ListFault.opener no_opener g) = wanted-once refl f g
  list-once wanted opener bytes fault other left more (ListFault.opener not f) (ListFault.inside inner e no_close g) = absurd (not inner e)
  list-once wanted opener bytes fault other left more (ListFault.inside inner e no_close f) (ListFault.opener not g) = absurd (not inner e)
  list-once wanted opener bytes fault other left more (ListFault.inside inner e not f) (ListFault.inside after d no_close g) =
      elements-once other more f (subst (λ (l : List ℕ). ElementsFault IsElement ElementFault close (behind_space l) other more) (tails opener opener after inner (sym d ∙ e)) g)

object-once : (bytes : List ℕ) (fault other : Fault) (left more : ℕ) → ObjectFault bytes fault left → ObjectFault bytes other more → Same fault other left more
object-once bytes fault other left more f g = list-once MemberAt MemberFault 125 one-member member-none member-once NoObject 123 bytes fault other left more f g

row-once : (bytes : List ℕ) (fault other : Fault) (left more : ℕ) → RowFault bytes fault left → RowFault bytes other more → Same fault other left more
row-once bytes fault other left more f g = list-once CellAt CellFault 93 one-cell cell-none cell-once NoArray 91 bytes fault other left more f g

-- ---- whole texts

lines-once : {bytes : List ℕ} {fault : Fault} {left : ℕ} (other : Fault) (more : ℕ) → LinesFault bytes fault left → LinesFault bytes other more → Same fault other left more
lines-once {bytes} {fault} {left} other more (LinesFault.here some f) (LinesFault.here any g) = object-once (behind_space bytes) fault other left more f g
lines-once {bytes} {fault} {left} other more (LinesFault.here some f) (LinesFault.further object after d g) = absurd (object-none (behind_space bytes) fault left f object after d)
lines-once {bytes} other more (LinesFault.further object after d f) (LinesFault.here some g) = absurd (object-none (behind_space bytes) other more g object after d)
lines-once {bytes} other more (LinesFault.further object after d f) (LinesFault.further again behind e g) =
    lines-once other more f (subst (λ (l : List ℕ). LinesFault l other more) (one-object.same (behind_space bytes) behind after again object e d).1 g)

module _ {A : Type 0} (IsElement : List ℕ → A → List ℕ → Type 0) (ElementFault : List ℕ → Fault → ℕ → Type 0) (one : IsOne (ListAt IsElement 91 93))
    (none : (bytes : List ℕ) (fault : Fault) (left : ℕ) → ListFault IsElement ElementFault Unexpected 91 93 bytes fault left → NoneAt (ListAt IsElement 91 93) bytes)
    (once : (bytes : List ℕ) (fault other : Fault) (left more : ℕ) → ListFault IsElement ElementFault Unexpected 91 93 bytes fault left → ListFault IsElement ElementFault Unexpected 91 93 bytes other more
    → Same fault other left more) where
  array-once : (bytes : List ℕ) (fault other : Fault) (left more : ℕ) → ArrayFault IsElement ElementFault bytes fault left → ArrayFault IsElement ElementFault bytes other more → Same fault other left more
  array-once bytes fault other left more (ArrayFault.array f) (ArrayFault.array g) = once (behind_space bytes) fault other left more f g
  array-once bytes fault other left more (ArrayFault.array f) (ArrayFault.behind xs after d some g) = absurd (none (behind_space bytes) fault left f xs after d)
  array-once bytes fault other left more (ArrayFault.behind xs after d some f) (ArrayFault.array g) = absurd (none (behind_space bytes) other more g xs after d)
  array-once bytes fault other left more (ArrayFault.behind xs after d some f) (ArrayFault.behind ys behind e any g) =
      wanted-once (ap behind_space (one.same (behind_space bytes) after behind xs ys d e).1) f g

objects-once : (bytes : List ℕ) (fault other : Fault) (left more : ℕ) → ArrayFault ObjectAt ObjectFault bytes fault left → ArrayFault ObjectAt ObjectFault bytes other more → Same fault other left more
objects-once bytes fault other left more f g =
    array-once ObjectAt ObjectFault one-array array-none (list-once ObjectAt ObjectFault 93 one-object object-none object-once Unexpected 91) bytes fault other left more f g

pub records-once : (bytes : List ℕ) (fault other : Fault) (left more : ℕ) → RecordsFault bytes fault left → RecordsFault bytes other more → Same fault other left more
records-once bytes fault other left more (RecordsFault.lines not f) (RecordsFault.lines also g) = lines-once other more f g
records-once bytes fault other left more (RecordsFault.lines not f) (RecordsFault.array inner e g) = absurd (not inner e)
records-once bytes fault other left more (RecordsFault.array inner e f) (RecordsFault.lines not g) = absurd (not inner e)
records-once bytes fault other left more (RecordsFault.array inner e f) (RecordsFault.array after d g) = objects-once bytes fault other left more f g

rows-once : (bytes : List ℕ) (fault other : Fault) (left more : ℕ) → ArrayFault RowAt RowFault bytes fault left → ArrayFault RowAt RowFault bytes other more → Same fault other left more
rows-once bytes fault other left more f g =
    array-once RowAt RowFault one-rows (list-none RowAt RowFault 93 one-row (λ e. omega arith) row-none Unexpected 91)
    (list-once RowAt RowFault 93 one-row row-none row-once Unexpected 91) bytes fault other left more f g

pub table-once : (bytes : List ℕ) (fault other : Fault) (left more : ℕ) → TableFault bytes fault left → TableFault bytes other more → Same fault other left more
table-once bytes fault other left more (TableFault.rows e f) (TableFault.rows d g) = rows-once bytes fault other left more f g
table-once bytes fault other left more (TableFault.rows e f) (TableFault.records d g) = let k : true ≡ false = sym e ∙ d in cc
table-once bytes fault other left more (TableFault.records e f) (TableFault.rows d g) = let k : true ≡ false = sym d ∙ e in cc
table-once bytes fault other left more (TableFault.records e f) (TableFault.records d g) = records-once bytes fault other left more f g
