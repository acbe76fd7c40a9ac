-- Values: what is behind their front, and that one thing only is behind them.
use Rattle.tabled_json.proofs.Common.{◌≡◌, ◌∷◌, ◌∙◌, ◌⊎◌, inl, inr, ℕ, List, refl, sym, ap, subst, arith, heads, tails, NoneAt}
use Rattle.tabled_json.proofs.KeyParts.{item-unique, key-no-quote, opening-same, closing-no-comma}
use Rattle.tabled_json.proofs.Scalars.{scalar-unique, not-scalar}
use Rattle.tabled_json.specs.Space.{NotBefore, behind_space}
use Rattle.tabled_json.specs.Grammar.{KeyAt, ItemAt, ScalarAt, ValueAt, ItemsAt, opening, closing}
use Rattle.tabled_json.specs.WholeValues.{EndAt, NoEndAt, NoValueAt, OpensNothing}
use Rattle.tabled_json.specs.declared.kind.Kind.{Kind}
use Rattle.tabled_json.specs.declared.kind.Kind.TheVariants.{Array, Object}

pub bracket-no-scalar : (kind : Kind) (inner : List ℕ) → NoneAt ScalarAt (opening kind ∷ inner)
bracket-no-scalar Array inner = not-scalar 91 inner (λ k. omega arith) (λ k. omega arith) (λ k. omega arith) (λ k. omega arith) refl
bracket-no-scalar Object inner = not-scalar 123 inner (λ k. omega arith) (λ k. omega arith) (λ k. omega arith) (λ k. omega arith) refl

-- what is behind an opening bracket and whitespace
pub InnerAt : Kind → List ℕ → List ℕ → Type 0
InnerAt kind bytes after = (bytes ≡ closing kind ∷ after) ⊎ ((value : List ℕ) × ItemAt kind bytes value × ItemsAt kind value after)

pub same-inner : (k m : Kind) (inner other : List ℕ) → opening k ∷ inner ≡ opening m ∷ other → (k ≡ m) × (inner ≡ other)
same-inner k m inner other e = (opening-same k m (heads (opening k) (opening m) inner other e), tails (opening k) (opening m) inner other e)

pub open-back : (kind : Kind) (inner after : List ℕ) → ValueAt (opening kind ∷ inner) after → InnerAt kind (behind_space inner) after
unfolding InnerAt
open-back kind inner after (ValueAt.scalar text s) = absurd (bracket-no-scalar kind inner text after s)
open-back kind inner after (ValueAt.empty other rest e f) =
    let s = same-inner kind other inner rest e in
    inl (ap behind_space s.1 ∙ (f ∙ ap (λ (k : Kind). closing k ∷ after) (sym s.0)))
open-back kind inner after (ValueAt.filled other rest value e item items) =
    let s = same-inner kind other inner rest e in
    inr (
      value,
      subst (λ (k : Kind). ItemAt k (behind_space inner) value) (sym s.0) (subst (λ (l : List ℕ). ItemAt other (behind_space l) value) (sym s.1) item),
      subst (λ (k : Kind). ItemsAt k value after) (sym s.0) items,
    )

pub items-back : (kind : Kind) (value after : List ℕ) → ItemsAt kind value after → (behind : List ℕ) × ValueAt value behind × EndAt kind behind after
items-back kind value after (ItemsAt.last behind v e) = (behind, v, inl e)
items-back kind value after (ItemsAt.more behind next item v e i items) = (behind, v, inr (next, item, e, i, items))

pub items-of : (kind : Kind) (value behind after : List ℕ) → ValueAt value behind → EndAt kind behind after → ItemsAt kind value after
items-of kind value behind after v (inl e) = ItemsAt.last behind v e
items-of kind value behind after v (inr p) = ItemsAt.more behind p.0 p.1 v p.2 p.3 p.4

pub no-value-closed : (kind : Kind) (rest : List ℕ) → NoValueAt (closing kind ∷ rest)
no-value-closed Array rest after (ValueAt.scalar text s) = not-scalar 93 rest (λ k. omega arith) (λ k. omega arith) (λ k. omega arith) (λ k. omega arith) refl text after s
no-value-closed Array rest after (ValueAt.empty Array inner e f) = let k : ◌≡◌ {A = ℕ} 93 91 = heads 93 91 rest inner e in omega arith
no-value-closed Array rest after (ValueAt.empty Object inner e f) = let k : ◌≡◌ {A = ℕ} 93 123 = heads 93 123 rest inner e in omega arith
no-value-closed Array rest after (ValueAt.filled Array inner value e i s) = let k : ◌≡◌ {A = ℕ} 93 91 = heads 93 91 rest inner e in omega arith
no-value-closed Array rest after (ValueAt.filled Object inner value e i s) = let k : ◌≡◌ {A = ℕ} 93 123 = heads 93 123 rest inner e in omega arith
no-value-closed Object rest after (ValueAt.scalar text s) = not-scalar 125 rest (λ k. omega arith) (λ k. omega arith) (λ k. omega arith) (λ k. omega arith) refl text after s
no-value-closed Object rest after (ValueAt.empty Array inner e f) = let k : ◌≡◌ {A = ℕ} 125 91 = heads 125 91 rest inner e in omega arith
no-value-closed Object rest after (ValueAt.empty Object inner e f) = let k : ◌≡◌ {A = ℕ} 125 123 = heads 125 123 rest inner e in omega arith
no-value-closed Object rest after (ValueAt.filled Array inner value e i s) = let k : ◌≡◌ {A = ℕ} 125 91 = heads 125 91 rest inner e in omega arith
no-value-closed Object rest after (ValueAt.filled Object inner value e i s) = let k : ◌≡◌ {A = ℕ} 125 123 = heads 125 123 rest inner e in omega arith

-- no items begin with the bracket that closes them
pub no-items-closed : (kind : Kind) (bytes rest value after : List ℕ) → bytes ≡ closing kind ∷ rest → ItemAt kind bytes value → ItemsAt kind value after → ⊥
no-items-closed Array bytes rest value after e i items =
    let b = items-back Array value after items in
    no-value-closed Array rest b.0 (subst (λ (l : List ℕ). ValueAt l b.0) (i ∙ e) b.1)
no-items-closed Object bytes rest value after e i items =
    key-no-quote (125 ∷ rest) (λ a k. let d : ◌≡◌ {A = ℕ} 125 34 = heads 125 34 rest a k in omega arith) i.0 value (subst (λ (l : List ℕ). KeyAt l i.0 value) e i.1)

pub closed-apart : (kind : Kind) (bytes after next : List ℕ) → bytes ≡ closing kind ∷ after → bytes ≡ 44 ∷ next → ⊥
closed-apart kind bytes after next e f = closing-no-comma kind (heads (closing kind) 44 after next (sym e ∙ f))

scalar-same : (bytes text after other : List ℕ) → ScalarAt bytes text after → ValueAt bytes other → after ≡ other
scalar-same bytes text after other s (ValueAt.scalar t r) = (scalar-unique bytes text after t other s r).1
scalar-same bytes text after other s (ValueAt.empty kind inner e f) = absurd (bracket-no-scalar kind inner text after (subst (λ (l : List ℕ). ScalarAt l text after) e s))
scalar-same bytes text after other s (ValueAt.filled kind inner value e i f) = absurd (bracket-no-scalar kind inner text after (subst (λ (l : List ℕ). ScalarAt l text after) e s))

empty-same : (kind : Kind) (bytes after other : List ℕ) → bytes ≡ closing kind ∷ after → InnerAt kind bytes other → after ≡ other
unfolding InnerAt
empty-same kind bytes after other e (inl f) = tails (closing kind) (closing kind) after other (sym e ∙ f)
empty-same kind bytes after other e (inr p) = absurd (no-items-closed kind bytes after p.0 other e p.1 p.2)

filled-inner : (kind : Kind) (bytes value after other : List ℕ) → ItemAt kind bytes value → ItemsAt kind value after → InnerAt kind bytes other → ItemsAt kind value other
unfolding InnerAt
filled-inner kind bytes value after other i items (inl f) = absurd (no-items-closed kind bytes other value after f i items)
filled-inner kind bytes value after other i items (inr p) = subst (λ (l : List ℕ). ItemsAt kind l other) (item-unique kind bytes p.0 value p.1 i) p.2

pub last-same : (kind : Kind) (behind after other : List ℕ) → behind_space behind ≡ closing kind ∷ after → EndAt kind behind other → after ≡ other
last-same kind behind after other e (inl f) = tails (closing kind) (closing kind) after other (sym e ∙ f)
last-same kind behind after other e (inr p) = absurd (closed-apart kind (behind_space behind) after p.0 e p.2)

pub more-items : (kind : Kind) (behind next item other : List ℕ) → behind_space behind ≡ 44 ∷ next → ItemAt kind (behind_space next) item → EndAt kind behind other → ItemsAt kind item other
more-items kind behind next item other e i (inl f) = absurd (closed-apart kind (behind_space behind) other next f e)
more-items kind behind next item other e i (inr p) =
    let n = tails 44 44 p.0 next (sym p.2 ∙ e) in
    let w = item-unique kind (behind_space next) p.1 item (subst (λ (l : List ℕ). ItemAt kind (behind_space l) p.1) n p.3) i in
    subst (λ (l : List ℕ). ItemsAt kind l other) w p.4

mutual
  pub value-unique : {bytes after : List ℕ} (other : List ℕ) → ValueAt bytes after → ValueAt bytes other → after ≡ other
  value-unique {bytes} {after} other (ValueAt.scalar text s) d = scalar-same bytes text after other s d
  value-unique {bytes} {after} other (ValueAt.empty kind inner e f) d =
      empty-same kind (behind_space inner) after other f (open-back kind inner other (subst (λ (l : List ℕ). ValueAt l other) e d))
  value-unique {bytes} {after} other (ValueAt.filled kind inner value e item items) d =
      items-unique other items (filled-inner kind (behind_space inner) value after other item items (open-back kind inner other (subst (λ (l : List ℕ). ValueAt l other) e d)))

  pub items-unique : {kind : Kind} {value after : List ℕ} (other : List ℕ) → ItemsAt kind value after → ItemsAt kind value other → after ≡ other
  items-unique {kind} {value} {after} other (ItemsAt.last behind v e) d =
      let b = items-back kind value other d in
      last-same kind behind after other e (subst (λ (l : List ℕ). EndAt kind l other) (sym (value-unique b.0 v b.1)) b.2)
  items-unique {kind} {value} {after} other (ItemsAt.more behind next item v e i items) d =
      let b = items-back kind value other d in
      items-unique other items (more-items kind behind next item other e i (subst (λ (l : List ℕ). EndAt kind l other) (sym (value-unique b.0 v b.1)) b.2))

-- ---- what is behind the front of a value

pub whole-closed : (kind : Kind) (bytes inner after : List ℕ) → bytes ≡ opening kind ∷ inner → behind_space inner ≡ closing kind ∷ after → ValueAt bytes after
whole-closed kind bytes inner after e f = ValueAt.empty kind inner e f

pub no-value : (bytes : List ℕ) → OpensNothing bytes → NoneAt ScalarAt bytes → NoValueAt bytes
no-value bytes opens none after (ValueAt.scalar text s) = none text after s
no-value bytes opens none after (ValueAt.empty kind inner e f) = opens kind inner e
no-value bytes opens none after (ValueAt.filled kind inner value e i s) = opens kind inner e

inner-filled : (kind : Kind) (bytes after : List ℕ) → NotBefore (closing kind) bytes → InnerAt kind bytes after → (value : List ℕ) × ItemAt kind bytes value × ItemsAt kind value after
unfolding InnerAt
inner-filled kind bytes after not (inl e) = absurd (not after e)
inner-filled kind bytes after not (inr p) = p

pub inside-back : (kind : Kind) (bytes inner after : List ℕ) → bytes ≡ opening kind ∷ inner → NotBefore (closing kind) (behind_space inner) → ValueAt bytes after
    → (value : List ℕ) × ItemAt kind (behind_space inner) value × ItemsAt kind value after
inside-back kind bytes inner after e not v = inner-filled kind (behind_space inner) after not (open-back kind inner after (subst (λ (l : List ℕ). ValueAt l after) e v))

pub no-inside : (kind : Kind) (bytes inner : List ℕ) → bytes ≡ opening kind ∷ inner → NotBefore (closing kind) (behind_space inner)
    → ((value : List ℕ) → ItemAt kind (behind_space inner) value → ⊥) → NoValueAt bytes
no-inside kind bytes inner e not none after v = let b = inside-back kind bytes inner after e not v in none b.0 b.1

pub no-end : (kind : Kind) (behind : List ℕ) → NotBefore (closing kind) (behind_space behind) → NotBefore 44 (behind_space behind) → NoEndAt kind behind
no-end kind behind p q after (inl e) = p after e
no-end kind behind p q after (inr o) = q o.0 o.2

pub no-next : (kind : Kind) (behind next : List ℕ) → behind_space behind ≡ 44 ∷ next → ((value : List ℕ) → ItemAt kind (behind_space next) value → ⊥) → NoEndAt kind behind
no-next kind behind next e none after (inl f) = closed-apart kind (behind_space behind) after next f e
no-next kind behind next e none after (inr o) =
    none o.1 (subst (λ (l : List ℕ). ItemAt kind (behind_space l) o.1) (tails 44 44 o.0 next (sym o.2 ∙ e)) o.3)
