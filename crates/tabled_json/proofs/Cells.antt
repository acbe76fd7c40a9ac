-- Cells, members and objects: each is one thing only.
use Rattle.tabled_json.proofs.Common.{◌≡◌, ◌∷◌, ◌∙◌, [], ℕ, List, IsUtf8, sym, ap, subst, arith, heads, tails, NoneAt}
use Rattle.tabled_json.proofs.KeyParts.{key-unique}
use Rattle.tabled_json.proofs.WholeValues.{value-unique, bracket-no-scalar}
use Rattle.tabled_json.proofs.Scalars.{scalar-unique}
use Rattle.tabled_json.proofs.Lists.{IsOne, elements-unique, elements-back}
use Rattle.tabled_json.specs.Space.{NotBefore, behind_space}
use Rattle.tabled_json.specs.Grammar.{CellAt, CellTextAt, KeyAt, MemberAt, ObjectAt, ScalarAt, ElementsAt, ListAt, ValueAt, before}
use Rattle.tabled_json.specs.WholeValues.{NoValueAt}

pub text-unique : (bytes text after other behind : List ℕ) → CellTextAt bytes text after → CellTextAt bytes other behind → (text ≡ other) × (after ≡ behind)
text-unique bytes text after other behind (CellTextAt.scalar s) (CellTextAt.scalar r) = scalar-unique bytes text after other behind s r
text-unique bytes text after other behind (CellTextAt.scalar s) (CellTextAt.nested kind inner e v t) =
    absurd (bracket-no-scalar kind inner text after (subst (λ (l : List ℕ). ScalarAt l text after) e s))
text-unique bytes text after other behind (CellTextAt.nested kind inner e v t) (CellTextAt.scalar s) =
    absurd (bracket-no-scalar kind inner other behind (subst (λ (l : List ℕ). ScalarAt l other behind) e s))
text-unique bytes text after other behind (CellTextAt.nested kind inner e v t) (CellTextAt.nested other_kind other_inner f w u) =
    let same = value-unique behind v w in
    (t ∙ (ap (before bytes) same ∙ sym u), same)

pub not-utf8 : (bytes text after : List ℕ) → CellTextAt bytes text after → (IsUtf8 text → ⊥) → NoneAt CellAt bytes
not-utf8 bytes text after is not other behind c = not (subst IsUtf8 (sym (text-unique bytes text after other behind is c.is).0) c.utf8)

pub no-cell-value : (bytes : List ℕ) → NoValueAt bytes → NoneAt CellAt bytes
no-cell-value bytes none text after c = elim c.is [
  | CellTextAt.scalar s ↦ none after (ValueAt.scalar text s)
  | CellTextAt.nested kind inner e v t ↦ none after v
]

pub member-none-key : (bytes : List ℕ) → NoneAt KeyAt bytes → NoneAt MemberAt bytes
member-none-key bytes none member after m = none member.0 m.value m.key

pub member-not-utf8 : (bytes key value : List ℕ) → KeyAt bytes key value → (IsUtf8 key → ⊥) → NoneAt MemberAt bytes
member-not-utf8 bytes key value k not member after m = not (subst IsUtf8 (sym (key-unique bytes key value member.0 m.value k m.key).0) m.utf8)

pub member-none-cell : (bytes key value : List ℕ) → KeyAt bytes key value → NoneAt CellAt value → NoneAt MemberAt bytes
member-none-cell bytes key value k none member after m =
    none member.1 after (subst (λ (l : List ℕ). CellAt l member.1 after) (sym (key-unique bytes key value member.0 m.value k m.key).1) m.cell)

pair-is : (x y : List ℕ × List ℕ) → x.0 ≡ y.0 → x.1 ≡ y.1 → x ≡ y
pair-is x y e f =
    ap (λ (a : List ℕ). let p : List ℕ × List ℕ = (a, x.1) in p) e ∙ ap (λ (b : List ℕ). let p : List ℕ × List ℕ = (y.0, b) in p) f

pub one-member : IsOne MemberAt
one-member = record {
  same = λ bytes after other x y m n.
      let k = key-unique bytes x.0 m.value y.0 n.value m.key n.key in
      let t = text-unique m.value x.1 after y.1 other m.cell.is (subst (λ (l : List ℕ). CellTextAt l y.1 other) (sym k.1) n.cell.is) in
      (pair-is x y k.0 t.0, t.1);
}

-- ---- objects

pub list-no-open : {A : Type 0} (IsElement : List ℕ → A → List ℕ → Type 0) (opener close : ℕ) (bytes : List ℕ) → NotBefore opener bytes → NoneAt (ListAt IsElement opener close) bytes
list-no-open IsElement opener close bytes not xs after (ListAt.none inner e f g) = not inner e
list-no-open IsElement opener close bytes not xs after (ListAt.some inner e d) = not inner e

pub list-no-elements : {A : Type 0} (IsElement : List ℕ → A → List ℕ → Type 0) (opener close : ℕ) (bytes inner : List ℕ) → bytes ≡ opener ∷ inner → NotBefore close (behind_space inner)
    → NoneAt (ElementsAt IsElement close) (behind_space inner) → NoneAt (ListAt IsElement opener close) bytes
list-no-elements IsElement opener close bytes inner e not none xs after (ListAt.none other f g h) =
    not after (ap behind_space (tails opener opener inner other (sym e ∙ f)) ∙ g)
list-no-elements {A} IsElement opener close bytes inner e not none xs after (ListAt.some other f d) =
    none xs after (subst (λ (l : List ℕ). ElementsAt IsElement close (behind_space l) xs after) (sym (tails opener opener inner other (sym e ∙ f))) d)

no-elements-closed : {A : Type 0} (IsElement : List ℕ → A → List ℕ → Type 0) (close : ℕ) (closes : (rest : List ℕ) → NoneAt IsElement (close ∷ rest)) (bytes rest after : List ℕ) (xs : List A)
    → bytes ≡ close ∷ rest → ElementsAt IsElement close bytes xs after → ⊥
no-elements-closed {A} IsElement close closes bytes rest after xs e d =
    let b = elements-back IsElement close bytes after xs d in
    closes rest b.0 b.2 (subst (λ (l : List ℕ). IsElement l b.0 b.2) e b.3)

module _ {A : Type 0} (IsElement : List ℕ → A → List ℕ → Type 0) (opener close : ℕ) (one : IsOne IsElement) (apart : close ≡ 44 → ⊥) (closes : (rest : List ℕ) → NoneAt IsElement (close ∷ rest)) where
  list-same : (bytes after other : List ℕ) (xs ys : List A) → ListAt IsElement opener close bytes xs after → ListAt IsElement opener close bytes ys other → (xs ≡ ys) × (after ≡ other)
  list-same bytes after other xs ys (ListAt.none inner e f g) (ListAt.none rest h i j) =
      let s = ap behind_space (tails opener opener inner rest (sym e ∙ h)) in
      (g ∙ sym j, tails close close after other (sym f ∙ (s ∙ i)))
  list-same bytes after other xs ys (ListAt.none inner e f g) (ListAt.some rest h d) =
      let s = ap behind_space (tails opener opener inner rest (sym e ∙ h)) in
      absurd (no-elements-closed IsElement close closes (behind_space rest) after other ys (sym s ∙ f) d)
  list-same bytes after other xs ys (ListAt.some inner e d) (ListAt.none rest h i j) =
      let s = ap behind_space (tails opener opener inner rest (sym e ∙ h)) in
      absurd (no-elements-closed IsElement close closes (behind_space inner) other after xs (s ∙ i) d)
  list-same bytes after other xs ys (ListAt.some inner e d) (ListAt.some rest h c) =
      let s = ap behind_space (tails opener opener inner rest (sym e ∙ h)) in
      elements-unique IsElement close one apart other ys d (subst (λ (l : List ℕ). ElementsAt IsElement close l ys other) (sym s) c)

  pub one-list : IsOne (ListAt IsElement opener close)
  one-list = record { same = λ bytes after other xs ys d c. list-same bytes after other xs ys d c }

pub member-not-close : (rest : List ℕ) → NoneAt MemberAt (125 ∷ rest)
member-not-close rest member after m = let k : ◌≡◌ {A = ℕ} 125 34 = heads 125 34 rest m.key.name.0 m.key.name.1 in omega arith

pub one-object : IsOne ObjectAt
one-object = one-list MemberAt 123 125 one-member (λ e. omega arith) member-not-close

pub object-not-close : (rest : List ℕ) → NoneAt ObjectAt (93 ∷ rest)
object-not-close rest members after (ListAt.none inner e f g) = let k : ◌≡◌ {A = ℕ} 93 123 = heads 93 123 rest inner e in omega arith
object-not-close rest members after (ListAt.some inner e d) = let k : ◌≡◌ {A = ℕ} 93 123 = heads 93 123 rest inner e in omega arith

pub object-not-open : (rest : List ℕ) → NoneAt ObjectAt (91 ∷ rest)
object-not-open rest members after (ListAt.none inner e f g) = let k : ◌≡◌ {A = ℕ} 91 123 = heads 91 123 rest inner e in omega arith
object-not-open rest members after (ListAt.some inner e d) = let k : ◌≡◌ {A = ℕ} 91 123 = heads 91 123 rest inner e in omega arith

pub object-not-empty : NoneAt ObjectAt []
object-not-empty members after (ListAt.none inner e f g) = cc
object-not-empty members after (ListAt.some inner e d) = cc

pub one-array : IsOne (ListAt ObjectAt 91 93)
one-array = one-list ObjectAt 91 93 one-object (λ e. omega arith) object-not-close
