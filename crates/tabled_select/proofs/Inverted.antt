-- What isn't in a list is in its inversion.
use Rattle.tabled_select.proofs.Common.{[], ◌&&◌, ◌++◌, ◌+◌, ◌-◌, ◌||◌, ◌∙◌, ◌∷◌, ◌≡◌, AllByRecursion, Bool, Cell, Entity, Global, List, Position, ap, ap₂, arith, block, cells_of, common_steps, cond, difference_of, false, filter, flat, inside, inside-Cell, inside-Global, inside-within, intersection_of, inversion_of, is_among, list_any, names, not, refl, same_place, sym, true, ℕ}
use Rattle.tabled_select.proofs.MarkedPlaces.{and_false, is-same, same_place-turned}
use Rattle.tabled_select.proofs.NamedPlaces.{IsWithin, flat-within}
use Rattle.tabled_select.proofs.Sifted.{all-filter, filter-agree_within, list_any-filter}

one-long : (n : ℕ) → n + 1 - n ≡ 1
one-long n = omega arith

-- a cell of the table names itself
pub inside-itself : (p : Position) (rows columns : ℕ) → IsWithin rows columns p → inside (Cell p.row p.col) rows columns ≡ p ∷ []
inside-itself p rows columns w = inside-Cell p.row p.col rows columns w.0 w.1 ∙ rw (one-long p.row, one-long p.col) refl

-- cells of the table name their places
pub flat-cells_of : (ps : List Position) (rows columns : ℕ) → AllByRecursion (IsWithin rows columns) ps → flat (cells_of ps) rows columns ≡ ps
flat-cells_of [] rows columns a = refl
flat-cells_of (p ∷ ps) rows columns a = ap₂ (λ qs rest. qs ++ rest) (inside-itself p rows columns a.0) (flat-cells_of ps rows columns a.1)

-- the table has each of its places
is_among-all : (p : Position) (rows columns : ℕ) → IsWithin rows columns p → is_among (inside Global rows columns) p ≡ true
is_among-all p rows columns w =
    any-agree (inside Global rows columns)
    ∙ ap (list_any (names (Cell p.row p.col))) (inside-Global rows columns)
    ∙ list_any-filter (names (Cell p.row p.col)) (block 0 rows 0 columns) p [] (inside-itself p rows columns w)
  where
    any-agree : (qs : List Position) → is_among qs p ≡ list_any (names (Cell p.row p.col)) qs
    any-agree [] = refl
    any-agree (q ∷ qs) = ap₂ (λ b c. b || c) (same_place-turned p q) (any-agree qs)

module _ (test : Position → Bool) (p : Position) where
  more : (q : Position) (one b : Bool) (left all : List Position) → same_place p q ≡ one → test q ≡ b → is_among left p ≡ (is_among all p && test p) → is_among (cond b (q ∷ left) left) p ≡ ((one || is_among all p) && test p)
  more q true true left all e t h = rw (e, is-same p q e, t) refl
  more q true false left all e t h = grind (arith, common_steps, is-same, and_false)
  more q false true left all e t h = rw e h
  more q false false left all e t h = h

  -- what is left of a list that is sifted
  is_among-filter : (qs : List Position) → is_among (filter test qs) p ≡ (is_among qs p && test p)
  is_among-filter [] = refl
  is_among-filter (q ∷ qs) = more q (same_place p q) (test q) (filter test qs) qs refl refl (is_among-filter qs)

-- a place of the table is in the inversion if it isn't in the list
is_among-inversion : (ps : List Position) (p : Position) (rows columns : ℕ) → IsWithin rows columns p → is_among (inversion_of ps rows columns) p ≡ not (is_among ps p)
is_among-inversion ps p rows columns w = grind (arith, common_steps, is_among-filter, is_among-all)

agrees : (ps : List Position) (rows columns : ℕ) (qs : List Position) → AllByRecursion (IsWithin rows columns) qs → AllByRecursion (λ q. not (is_among ps q) ≡ is_among (inversion_of ps rows columns) q) qs
agrees ps rows columns [] a = tt
agrees ps rows columns (q ∷ qs) a = (sym (is_among-inversion ps q rows columns a.0), agrees ps rows columns qs a.1)

-- what entities name and others don't is what they name with the others' inversion
pub difference-as-intersection : (a b : List Entity) (rows columns : ℕ) → difference_of (flat a rows columns) (flat b rows columns) ≡ intersection_of (flat a rows columns) (flat (cells_of (inversion_of (flat b rows columns) rows columns)) rows columns)
difference-as-intersection a b rows columns =
    let inverted : List Position = inversion_of (flat b rows columns) rows columns in
    let within = all-filter (IsWithin rows columns) (λ q. not (is_among (flat b rows columns) q)) (inside Global rows columns) (inside-within Global rows columns) in
    filter-agree_within _ (is_among inverted) (flat a rows columns) (agrees (flat b rows columns) rows columns (flat a rows columns) (flat-within a rows columns))
    ∙ ap (intersection_of (flat a rows columns)) (sym (flat-cells_of inverted rows columns within))

module _ (a b : List Entity) (rows columns : ℕ) (entities : List Entity) where
  -- what a difference lists an intersection lists
  pub listed-by_intersection : entities ≡ cells_of (difference_of (flat a rows columns) (flat b rows columns)) → entities ≡ cells_of (intersection_of (flat a rows columns) (flat (cells_of (inversion_of (flat b rows columns) rows columns)) rows columns))
  listed-by_intersection e = e ∙ ap cells_of (difference-as-intersection a b rows columns)

  -- and the other way round
  pub listed-by_difference : (inverted : List Entity) → inverted ≡ cells_of (inversion_of (flat b rows columns) rows columns) → entities ≡ cells_of (intersection_of (flat a rows columns) (flat inverted rows columns)) → entities ≡ cells_of (difference_of (flat a rows columns) (flat b rows columns))
  listed-by_difference inverted i e = (rw i at e) ∙ ap cells_of (sym (difference-as-intersection a b rows columns))
