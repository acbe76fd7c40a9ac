-- What one more mark changes.
use Rattle.tabled_select.proofs.Common.{[], ◌&&◌, ◌*◌, ◌+◌, ◌<◌, ◌==◌, ◌||◌, ◌∙◌, ◌∷◌, ◌≡◌, AllByRecursion, Bool, Entity, HasRoom, List, Marks, MarksAll, Position, SetsMark, Some, ap, ap₂, arith, cases_eq, cases_lt, common_steps, eq-eqb, eqb-true, false, filter, filter_agree, flat, get_or, get_or-replicate, get_or-set_other, get_or-set_same, has, if◌then◌else◌, inl, inr, is_among, le-ltb, length, length-replicate, length-set, lt-ltb, mark_at, mark_index, mul-add-lt, mul_comm, not, passes, place, refl, replicate, same_from_place, same_place, set, sifted, sym, true, unwrap_or, ℕ}
use Rattle.std.specs.Prelude.{Option, None}
use Rattle.std.specs.Option.{IsSome}
use Rattle.std.proofs.Math.Bool.{or-true}
use Rattle.tabled_select.proofs.NamedPlaces.{IsWithin, flat-within}

same-false : (p q : Position) → ((p.row ≡ q.row) × (p.col ≡ q.col) → ⊥) → same_place p q ≡ false
same-false p q h = grind (arith, common_steps, eq-eqb)

same-true : (p q : Position) → p.row ≡ q.row → p.col ≡ q.col → same_place p q ≡ true
same-true p q e f = rw (eq-eqb p.row q.row e, eq-eqb p.col q.col f) refl

eqb-turned : (m n : ℕ) → (m == n) ≡ (n == m)
eqb-turned m n = grind (arith, common_steps, eq-eqb)

pub same_place-turned : (p q : Position) → same_place p q ≡ same_place q p
same_place-turned p q = ap₂ (λ b c. b && c) (eqb-turned p.row q.row) (eqb-turned p.col q.col)

or_move : (a b c : Bool) → (b || (a || c)) ≡ ((a || b) || c)
or_move true true c = refl
or_move true false c = refl
or_move false b c = refl

and_true : (b : Bool) → (b && true) ≡ b
and_true true = refl
and_true false = refl

pub and_false : (b : Bool) → (b && false) ≡ false
and_false true = refl
and_false false = refl

-- what each place has that is among some, each of these has
all-among : (P : Position → Type 0) (ps : List Position) → ((p : Position) → is_among ps p ≡ true → P p) → AllByRecursion P ps
all-among P [] h = tt
all-among P (q ∷ ps) h = (h q (rw (same-true q q refl refl) refl), all-among P ps (λ p e. h p (rw e (or-true (same_place p q)))))

-- a place is marked if it was, or if it is the one that is marked now
marked-now : (b : Bool) (mark : Option Bool) → unwrap_or (if b then Some true else mark) false ≡ b || unwrap_or mark false
marked-now true mark = refl
marked-now false mark = refl

pub has-marked : (old new : Marks) (q p : Position) → SetsMark old new q true → has new p ≡ same_place p q || has old p
has-marked old new q p sets = ap (λ m. unwrap_or m false) (sets p) ∙ marked-now (same_place q p) (old p) ∙ ap (λ b. b || has old p) (same_place-turned q p)

room-now : (b mark : Bool) (m : Option Bool) → IsSome m → IsSome (if b then Some mark else m)
room-now true mark m h = refl
room-now false mark m h = h

-- where there was room there is room
pub room-kept : (old new : Marks) (q : Position) (mark : Bool) → SetsMark old new q mark → (ps : List Position) → AllByRecursion (HasRoom old) ps → AllByRecursion (HasRoom new) ps
room-kept old new q mark sets [] a = tt
room-kept old new q mark sets (p ∷ ps) a = (rw (sets p) (room-now (same_place q p) mark (old p) a.0), room-kept old new q mark sets ps a.1)

-- none is marked where all have a no
pub none-marked : (s : Marks) (room : List Position) → MarksAll s room false → (p : Position) → has s p ≡ false
none-marked s room none p = none.just p ∙ and_false (is_among room p)

pub is-same : (p q : Position) → same_place p q ≡ true → p ≡ q
is-same p q e = grind (arith, common_steps, eqb-true)

-- ---- marks of all places of a table

-- the mark of a place of the table
mark-inside : (columns : ℕ) (marks : List Bool) (p : Position) → p.col < columns → mark_index columns p < length marks → mark_at columns marks p ≡ Some (get_or marks (mark_index columns p) false)
mark-inside columns marks p h k = rw (lt-ltb p.col columns h, lt-ltb (mark_index columns p) (length marks) k) refl

mark-outside : (columns : ℕ) (marks : List Bool) (p : Position) → ((p.col < columns) × (mark_index columns p < length marks) → ⊥) → mark_at columns marks p ≡ None
mark-outside columns marks p h = grind (arith, common_steps, lt-ltb, le-ltb)

-- one more mark
pub sets-mark : (columns : ℕ) (marks : List Bool) (p : Position) (i : ℕ) → (p.col < columns) × (mark_index columns p < length marks) → i ≡ mark_index columns p → SetsMark (mark_at columns marks) (mark_at columns (set marks i true)) p true
sets-mark columns marks p i at e = rw e (λ q. elim (cases_lt q.col columns) [
  | inl h ↦ elim (cases_lt (mark_index columns q) (length marks)) [
    | inl k ↦ elim (cases_eq (mark_index columns q) (mark_index columns p)) [
      | inl f ↦
          let same = same_from_place q.row q.col p.row p.col columns h at.0 f in
          rw (same-true p q (sym same.0) (sym same.1), mark-inside columns (set marks (mark_index columns p) true) q h (rw length-set k), f, get_or-set_same marks (mark_index columns p) true false at.1) refl
      | inr d ↦
          rw (same-false p q (λ same. d (sym (ap₂ (λ i j. i * columns + j) same.0 same.1))), mark-inside columns (set marks (mark_index columns p) true) q h (rw length-set k), mark-inside columns marks q h k, get_or-set_other marks (mark_index columns p) (mark_index columns q) true false d) refl
    ]
    | inr k ↦
        rw (same-false p q (λ same. let far = ap₂ (λ i j. i * columns + j) same.0 same.1 in omega (arith, at.1)), mark-outside columns (set marks (mark_index columns p) true) q (λ j. let l = rw length-set at j.1 in omega arith), mark-outside columns marks q (λ j. let l = j.1 in omega arith)) refl
  ]
  | inr h ↦
      rw (same-false p q (λ same. omega (arith, same.1, at.0)), mark-outside columns (set marks (mark_index columns p) true) q (λ j. let l = j.0 in omega arith), mark-outside columns marks q (λ j. let l = j.0 in omega arith)) refl
])

unmarked : (columns n : ℕ) (p : Position) → has (mark_at columns (replicate n false)) p ≡ false
unmarked columns n p = grind (arith, common_steps, mark-inside, length-replicate, get_or-replicate, mark-outside)

room-inside : (columns n : ℕ) (p : Position) → p.col < columns → mark_index columns p < n → HasRoom (mark_at columns (replicate n false)) p
room-inside columns n p h k = rw (mark-inside columns (replicate n false) p h (rw length-replicate k)) refl

-- all marks are no at first
pub marks-none : (rows columns n : ℕ) → n ≡ rows * columns → (entities : List Entity) → MarksAll (mark_at columns (replicate n false)) (flat entities rows columns) false
marks-none rows columns n e entities = record {
  room = all-room (flat entities rows columns) (flat-within entities rows columns);
  just = λ p. unmarked columns n p ∙ sym (and_false (is_among (flat entities rows columns) p));
}
  where
    all-room : (ps : List Position) → AllByRecursion (IsWithin rows columns) ps → AllByRecursion (HasRoom (mark_at columns (replicate n false))) ps
    all-room [] a = tt
    all-room (p ∷ ps) a = (room-inside columns n p a.0.1 (rw (e, mul_comm rows columns) (mul-add-lt p.row columns p.col rows a.0.0 a.0.1)), all-room ps a.1)

-- ---- marks set one after another

-- one more of them is marked
pub marked-next : (old new : Marks) (q : Position) (left rest all : List Position) → left ≡ q ∷ rest → SetsMark old new q true → ((p : Position) → (is_among left p || has old p) ≡ is_among all p) → (p : Position) → (is_among rest p || has new p) ≡ is_among all p
marked-next old new q left rest all e sets h p = ap (λ b. is_among rest p || b) (has-marked old new q p sets) ∙ or_move (same_place p q) (is_among rest p) (has old p) ∙ (rw e at (h p))

-- ---- room made for one place after another

-- the mark of each place that is among some
abbrev pub given : List Position → Bool → Marks
given all mark p = if is_among all p then Some mark else None

has-given : (b mark : Bool) → unwrap_or (if b then Some mark else None) false ≡ (b && mark)
has-given true mark = refl
has-given false mark = refl

pub given-last : (s : Marks) (left all : List Position) (mark : Bool) → left ≡ [] → ((p : Position) → (if is_among left p then Some mark else s p) ≡ given all mark p) → MarksAll s all mark
given-last s left all mark e h = grind (arith, common_steps, all-among, has-given)

-- ---- what passes

-- the marked places pass, or the others
pub passes-sifted : (s : Marks) (marked : List Position) (keeps : Bool) (ps : List Position) → MarksAll s marked true → filter (passes keeps s) ps ≡ sifted keeps ps marked
passes-sifted s marked true ps all = filter_agree (passes true s) (is_among marked) (λ p. all.just p ∙ and_true (is_among marked p)) ps
passes-sifted s marked false ps all = filter_agree (passes false s) (λ p. not (is_among marked p)) (λ p. ap not (all.just p ∙ and_true (is_among marked p))) ps
