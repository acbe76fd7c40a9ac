-- What is at fault has no meaning.
use Rattle.tabled_json.proofs.Common.{◌≡◌, ◌∷◌, ◌∙◌, ℕ, List, Fault, NoneAt, ap, arith, subst, sym}
use Rattle.tabled_json.proofs.Cells.{list-no-elements, list-no-open, member-none-cell, member-none-key, member-not-utf8, no-cell-value, not-utf8, one-member, one-object}
use Rattle.tabled_json.proofs.Contents.{escaped-back, plain-back, second-is}
use Rattle.tabled_json.proofs.KeyParts.{item-unique, key-no-colon, key-no-content, key-no-quote}
use Rattle.tabled_json.proofs.Lines.{bad-array, line-back, no-array, not-ended}
use Rattle.tabled_json.proofs.Lists.{IsOne, elements-back, no-tail, tail-more}
use Rattle.tabled_json.proofs.Meaning.{no-rows, one-cell, one-row, records-alone, rows-alone, rows-not-ended}
use Rattle.tabled_json.proofs.Scalars.{quote-none}
use Rattle.tabled_json.proofs.WholeValues.{inside-back, items-back, more-items, no-end, no-inside, no-next, no-value, value-unique}
use Rattle.tabled_json.specs.Faults.{ArrayFault, CellFault, CharacterAt, CharactersAt, ContentFault, ElementsFault, EndFault, ItemFault, ItemsFault, KeyFault, LinesFault, ListFault, MemberFault, ObjectFault, RecordsFault, RowFault, ScalarFault, TableFault, ValueFault}
use Rattle.tabled_json.specs.Grammar.{AreLines, CellAt, ElementsAt, ItemAt, ItemsAt, KeyAt, ListAt, MemberAt, ObjectAt, RowAt, ScalarAt}
use Rattle.tabled_json.specs.Meanings.{HoldsNoTable, NoRows}
use Rattle.tabled_json.specs.Records.{NoLines, NoRecords}
use Rattle.tabled_json.specs.Space.{behind_space}
use Rattle.tabled_json.specs.Strings.{ContentAt}
use Rattle.tabled_json.specs.WholeValues.{EndAt, NoEndAt, NoValueAt}
use Rattle.tabled_json.specs.declared.fault.Fault.TheVariants.{NoArray, NoObject, Unexpected}
use Rattle.tabled_json.specs.declared.kind.Kind.{Kind}
use Rattle.tabled_json.specs.declared.kind.Kind.TheVariants.{Array, Object}

-- ---- strings and scalars

-- the content behind a character
character-back : (bytes next text after : List ℕ) → CharacterAt bytes next → ContentAt bytes text after → (more : List ℕ) × ContentAt next more after
character-back bytes next text after (CharacterAt.plain b e is) c =
    let o = plain-back b next text after is (subst (λ (l : List ℕ). ContentAt l text after) e c) in (o.0, o.2)
character-back bytes next text after (CharacterAt.escaped x behind e is) c =
    let o = escaped-back behind text after (subst (λ (l : List ℕ). ContentAt l text after) e c) in
    (o.2, subst (λ (l : List ℕ). ContentAt l o.2 after) (sym (second-is x o.0 next o.1 (sym is ∙ o.3))) o.5)

characters-back : {bytes rest : List ℕ} (text after : List ℕ) → CharactersAt bytes rest → ContentAt bytes text after → (more : List ℕ) × ContentAt rest more after
characters-back text after (CharactersAt.none e) c = (text, subst (λ (l : List ℕ). ContentAt l text after) e c)
characters-back {bytes} {rest} text after (CharactersAt.more next one others) c =
    let o = character-back bytes next text after one c in characters-back o.0 after others o.1

content-stops : (rest text after : List ℕ) → ((next : List ℕ) → CharacterAt rest next → ⊥) → ((behind : List ℕ) → rest ≡ 34 ∷ behind → ⊥) → ContentAt rest text after → ⊥
content-stops rest text after no_more no_quote (ContentAt.closed e t) = no_quote after e
content-stops rest text after no_more no_quote (ContentAt.plain b behind more e is t c) = no_more behind (CharacterAt.plain b e is)
content-stops rest text after no_more no_quote (ContentAt.escaped x behind next more e is t c) = no_more next (CharacterAt.escaped x behind e is)

pub content-none : (bytes : List ℕ) (fault : Fault) (left : ℕ) → ContentFault bytes fault left → NoneAt ContentAt bytes
content-none bytes fault left f text after c =
    let o = characters-back text after f.characters c in content-stops f.rest o.0 after f.no_more f.no_quote o.1

pub scalar-fault-none : (bytes : List ℕ) (fault : Fault) (left : ℕ) → ScalarFault bytes fault left → NoneAt ScalarAt bytes
scalar-fault-none bytes fault left (ScalarFault.string behind e f) = subst (NoneAt ScalarAt) (sym e) (quote-none behind (content-none behind fault left f))
scalar-fault-none bytes fault left (ScalarFault.other not none told here) = none

-- ---- values

pub key-none : (bytes : List ℕ) (fault : Fault) (left : ℕ) → KeyFault bytes fault left → NoneAt KeyAt bytes
key-none bytes fault left (KeyFault.quote not wanted) = key-no-quote bytes not
key-none bytes fault left (KeyFault.name behind e f) = key-no-content bytes behind e (content-none behind fault left f)
key-none bytes fault left (KeyFault.colon key behind name not wanted) = key-no-colon bytes name.0 key behind name.1 name.2 not

pub item-none : (kind : Kind) (bytes : List ℕ) (fault : Fault) (left : ℕ) → ItemFault kind bytes fault left → (value : List ℕ) → ItemAt kind bytes value → ⊥
item-none Array bytes fault left f value i = f
item-none Object bytes fault left f value i = key-none bytes fault left f i.0 value i.1

mutual
  pub value-none : {bytes : List ℕ} {fault : Fault} {left : ℕ} → ValueFault bytes fault left → NoValueAt bytes
  value-none {bytes} {fault} {left} (ValueFault.scalar opens f) after v = no-value bytes opens (scalar-fault-none bytes fault left f) after v
  value-none {bytes} {fault} {left} (ValueFault.first kind inner e not f) after v = no-inside kind bytes inner e not (item-none kind (behind_space inner) fault left f) after v
  value-none {bytes} {fault} {left} (ValueFault.inside kind value is f) after v =
      let o = inside-back kind bytes is.inner after is.opens is.filled v in
      items-none f after (subst (λ (l : List ℕ). ItemsAt kind l after) (item-unique kind (behind_space is.inner) o.0 value o.1 is.item) o.2)

  pub items-none : {kind : Kind} {bytes : List ℕ} {fault : Fault} {left : ℕ} → ItemsFault kind bytes fault left → (after : List ℕ) → ItemsAt kind bytes after → ⊥
  items-none {kind} {bytes} (ItemsFault.value f) after items = let b = items-back kind bytes after items in value-none f b.0 b.1
  items-none {kind} {bytes} (ItemsFault.end behind v f) after items =
      let b = items-back kind bytes after items in
      end-none f after (subst (λ (l : List ℕ). EndAt kind l after) (value-unique behind b.1 v) b.2)

  pub end-none : {kind : Kind} {behind : List ℕ} {fault : Fault} {left : ℕ} → EndFault kind behind fault left → NoEndAt kind behind
  end-none {kind} {behind} (EndFault.tail f) after e = no-end kind behind f.no_close f.no_comma after e
  end-none {kind} {behind} {fault} {left} (EndFault.item next comma f) after e = no-next kind behind next comma (item-none kind (behind_space next) fault left f) after e
  end-none {kind} {behind} (EndFault.more item is f) after e = items-none f after (more-items kind behind is.next item after is.comma is.item e)

pub cell-none : (bytes : List ℕ) (fault : Fault) (left : ℕ) → CellFault bytes fault left → NoneAt CellAt bytes
cell-none bytes fault left (CellFault.value f) = no-cell-value bytes (value-none f)
cell-none bytes fault left (CellFault.text held after is f) = not-utf8 bytes held after is f.not_utf8

pub member-none : (bytes : List ℕ) (fault : Fault) (left : ℕ) → MemberFault bytes fault left → NoneAt MemberAt bytes
member-none bytes fault left (MemberFault.key f) = member-none-key bytes (key-none bytes fault left f)
member-none bytes fault left (MemberFault.name key value is f) = member-not-utf8 bytes key value is f.not_utf8
member-none bytes fault left (MemberFault.cell key value is utf8 f) = member-none-cell bytes key value is (cell-none value fault left f)

-- ---- lists

module _ {A : Type 0} (IsElement : List ℕ → A → List ℕ → Type 0) (ElementFault : List ℕ → Fault → ℕ → Type 0) (close : ℕ) (one : IsOne IsElement) (apart : close ≡ 44 → ⊥)
    (none : (bytes : List ℕ) (fault : Fault) (left : ℕ) → ElementFault bytes fault left → NoneAt IsElement bytes) where
  pub elements-none : {bytes : List ℕ} {fault : Fault} {left : ℕ} → ElementsFault IsElement ElementFault close bytes fault left → NoneAt (ElementsAt IsElement close) bytes
  elements-none {bytes} {fault} {left} (ElementsFault.element f) xs after d =
      let b = elements-back IsElement close bytes after xs d in none bytes fault left f b.0 b.2 b.3
  elements-none {bytes} (ElementsFault.tail x behind e f) xs after d = no-tail IsElement close one apart bytes x behind e f.no_close f.no_comma xs after d
  elements-none {bytes} (ElementsFault.more x behind next e comma f) xs after d =
      let b = elements-back IsElement close bytes after xs d in
      let s = one.same bytes behind b.2 x b.0 e b.3 in
      elements-none f b.1 after (tail-more IsElement close one apart b.2 next after b.1 (ap behind_space (sym s.1) ∙ comma) b.4)

  pub list-none : (wanted : Fault) (opener : ℕ) (bytes : List ℕ) (fault : Fault) (left : ℕ) → ListFault IsElement ElementFault wanted opener close bytes fault left
      → NoneAt (ListAt IsElement opener close) bytes
  list-none wanted opener bytes fault left (ListFault.opener not f) = list-no-open IsElement opener close bytes not
  list-none wanted opener bytes fault left (ListFault.inside inner e not f) = list-no-elements IsElement opener close bytes inner e not (elements-none f)

pub object-none : (bytes : List ℕ) (fault : Fault) (left : ℕ) → ObjectFault bytes fault left → NoneAt ObjectAt bytes
object-none bytes fault left f = list-none MemberAt MemberFault 125 one-member (λ e. omega arith) member-none NoObject 123 bytes fault left f

pub row-none : (bytes : List ℕ) (fault : Fault) (left : ℕ) → RowFault bytes fault left → NoneAt RowAt bytes
row-none bytes fault left f = list-none CellAt CellFault 93 one-cell (λ e. omega arith) cell-none NoArray 91 bytes fault left f

-- ---- whole texts

pub lines-none : {bytes : List ℕ} {fault : Fault} {left : ℕ} → LinesFault bytes fault left → NoLines bytes
lines-none {bytes} {fault} {left} (LinesFault.here some f) objects (AreLines.none e g) = some e
lines-none {bytes} {fault} {left} (LinesFault.here some f) objects (AreLines.line object more after d r g) = object-none (behind_space bytes) fault left f object after d
lines-none {bytes} (LinesFault.further object after d f) objects lines = let b = line-back bytes after object objects d lines in lines-none f b.0 b.2

pub array-none : (bytes : List ℕ) (fault : Fault) (left : ℕ) → ListFault ObjectAt ObjectFault Unexpected 91 93 bytes fault left → NoneAt (ListAt ObjectAt 91 93) bytes
array-none bytes fault left f = list-none ObjectAt ObjectFault 93 one-object (λ e. omega arith) object-none Unexpected 91 bytes fault left f

pub records-none : (bytes : List ℕ) (fault : Fault) (left : ℕ) → RecordsFault bytes fault left → NoRecords bytes
records-none bytes fault left (RecordsFault.lines not f) = no-array bytes not (lines-none f)
records-none bytes fault left (RecordsFault.array inner e (ArrayFault.array f)) = bad-array bytes inner e (array-none (behind_space bytes) fault left f)
records-none bytes fault left (RecordsFault.array inner e (ArrayFault.behind xs after d some f)) = not-ended bytes inner after xs e d some

pub rows-none : (bytes : List ℕ) (fault : Fault) (left : ℕ) → ArrayFault RowAt RowFault bytes fault left → NoRows bytes
rows-none bytes fault left (ArrayFault.array f) =
    no-rows bytes (list-none RowAt RowFault 93 one-row (λ e. omega arith) row-none Unexpected 91 (behind_space bytes) fault left f)
rows-none bytes fault left (ArrayFault.behind xs after d some f) = rows-not-ended bytes after xs d some

pub table-none : (bytes : List ℕ) (fault : Fault) (left : ℕ) → TableFault bytes fault left → HoldsNoTable bytes
table-none bytes fault left (TableFault.rows e f) = rows-alone bytes e (rows-none bytes fault left f)
table-none bytes fault left (TableFault.records e f) = records-alone bytes e (records-none bytes fault left f)
