-- Reading a value of any depth: what was passed over, what is open, and what is left.
use Rattle.tabled_json.proofs.Common.{◌≡◌, ◌∷◌, ◌⊎◌, Fault, inl, inr, [], ℕ, List, Bool, true, false, refl, subst}
use Rattle.tabled_json.proofs.WholeValues.{items-of}
use Rattle.tabled_json.specs.Faults.{EndFault, ItemsFault, ValueFault}
use Rattle.tabled_json.specs.Space.{behind_space}
use Rattle.tabled_json.specs.Grammar.{ValueAt, closing}
use Rattle.tabled_json.specs.WholeValues.{EndAt, IsInside, IsNext}
use Rattle.tabled_json.specs.declared.kind.Kind.{Kind}

-- what is behind an item closes all that is open, the innermost first
abbrev pub RestAt : List Kind → List ℕ → List ℕ → Type 0
RestAt [] behind after = behind ≡ after
RestAt (kind ∷ within) behind after = (next : List ℕ) × EndAt kind behind next × RestAt within next after

-- what is left begins behind a value, or with one
abbrev pub LeftAt : Bool → List Kind → List ℕ → List ℕ → Type 0
LeftAt true within rest after = RestAt within rest after
LeftAt false within rest after = (behind : List ℕ) × ValueAt rest behind × RestAt within behind after

-- what is behind an item is at fault: it doesn't end the innermost of what is open, or what is behind its end is
abbrev pub RestFault : List Kind → List ℕ → Fault → ℕ → Type 0
RestFault [] behind fault left = ⊥
RestFault (kind ∷ within) behind fault left = EndFault kind behind fault left ⊎ ((next : List ℕ) × EndAt kind behind next × RestFault within next fault left)

-- what is left is at fault
abbrev pub LeftFault : Bool → List Kind → List ℕ → Fault → ℕ → Type 0
LeftFault true within rest fault left = RestFault within rest fault left
LeftFault false within rest fault left = ValueFault rest fault left ⊎ ((behind : List ℕ) × ValueAt rest behind × RestFault within behind fault left)

whole-fault : (bytes : List ℕ) (fault : Fault) (left : ℕ) → LeftFault false [] bytes fault left → ValueFault bytes fault left
whole-fault bytes fault left (inl f) = f
whole-fault bytes fault left (inr r) = absurd r.2

inside-fault : (kind : Kind) (within : List Kind) (rest value : List ℕ) (fault : Fault) (left : ℕ) → IsInside kind rest value → LeftFault false (kind ∷ within) value fault left
    → LeftFault false within rest fault left
inside-fault kind within rest value fault left is (inl f) = inl (ValueFault.inside kind value is (ItemsFault.value f))
inside-fault kind within rest value fault left is (inr (behind, v, inl e)) = inl (ValueFault.inside kind value is (ItemsFault.end behind v e))
inside-fault kind within rest value fault left is (inr (behind, v, inr (next, e, r))) =
    inr (next, ValueAt.filled kind is.inner value is.opens is.item (items-of kind value behind next v e), r)

next-fault : (kind : Kind) (within : List Kind) (rest item : List ℕ) (fault : Fault) (left : ℕ) → IsNext kind rest item → LeftFault false (kind ∷ within) item fault left
    → LeftFault true (kind ∷ within) rest fault left
next-fault kind within rest item fault left is (inl f) = inl (EndFault.more item is (ItemsFault.value f))
next-fault kind within rest item fault left is (inr (behind, v, inl e)) = inl (EndFault.more item is (ItemsFault.end behind v e))
next-fault kind within rest item fault left is (inr (behind, v, inr (next, e, r))) =
    inr (next, inr (is.next, item, is.comma, is.item, items-of kind item behind next v e), r)

pub record ValueRead (bytes : List ℕ) (is_behind : Bool) (within : List Kind) (rest : List ℕ) : Type 0 where
  pub to : (after : List ℕ) → LeftAt is_behind within rest after → ValueAt bytes after
  pub shows : (fault : Fault) (left : ℕ) → LeftFault is_behind within rest fault left → ValueFault bytes fault left

pub nest-start : (bytes : List ℕ) → ValueRead bytes false [] bytes
nest-start bytes = record {
  to = λ after l. subst (λ (x : List ℕ). ValueAt bytes x) l.2 l.1;
  shows = whole-fault bytes;
}

module _ (bytes : List ℕ) (within : List Kind) (rest : List ℕ) where
  pub nest-whole : ValueRead bytes false within rest → (after : List ℕ) → ValueAt rest after → ValueRead bytes true within after
  nest-whole read after v = record {
    to = λ end r. read.to end (after, v, r);
    shows = λ fault left r. read.shows fault left (inr (after, v, r));
  }

  pub nest-inside : ValueRead bytes false within rest → (kind : Kind) (value : List ℕ) → IsInside kind rest value → ValueRead bytes false (kind ∷ within) value
  nest-inside read kind value is = record {
    to = λ end l.
        let r = l.2 in
        read.to end (r.0, ValueAt.filled kind is.inner value is.opens is.item (items-of kind value l.0 r.0 l.1 r.1), r.2);
    shows = λ fault left f. read.shows fault left (inside-fault kind within rest value fault left is f);
  }

  pub nest-closed : (kind : Kind) → ValueRead bytes true (kind ∷ within) rest → (after : List ℕ) → behind_space rest ≡ closing kind ∷ after → ValueRead bytes true within after
  nest-closed kind read after e = record {
    to = λ end r. read.to end (after, inl e, r);
    shows = λ fault left r. read.shows fault left (inr (after, inl e, r));
  }

  pub nest-next : (kind : Kind) → ValueRead bytes true (kind ∷ within) rest → (item : List ℕ) → IsNext kind rest item → ValueRead bytes false (kind ∷ within) item
  nest-next kind read item is = record {
    to = λ end l.
        let r = l.2 in
        read.to end (r.0, inr (is.next, item, is.comma, is.item, items-of kind item l.0 r.0 l.1 r.1), r.2);
    shows = λ fault left f. read.shows fault left (next-fault kind within rest item fault left is f);
  }

  pub nest-fault : ValueRead bytes false within rest → (fault : Fault) (left : ℕ) → ValueFault rest fault left → ValueFault bytes fault left
  nest-fault read fault left f = read.shows fault left (inl f)

  pub nest-no-end : (kind : Kind) → ValueRead bytes true (kind ∷ within) rest → (fault : Fault) (left : ℕ) → EndFault kind rest fault left → ValueFault bytes fault left
  nest-no-end kind read fault left f = read.shows fault left (inl f)

pub nest-done : (bytes rest : List ℕ) → ValueRead bytes true [] rest → ValueAt bytes rest
nest-done bytes rest read = read.to rest refl
