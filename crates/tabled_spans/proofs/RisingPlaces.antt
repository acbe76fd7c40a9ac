-- The places that an entity names rise, row by row.
use Rattle.tabled_spans.proofs.Common.{[], ◌++◌, ◌+◌, ◌-◌, ◌<◌, ◌∷◌, AllByRecursion, AreSorted, Below, Bool, Entity, IsBefore, List, Ordering, Position, Rectangle, T, all-append, arith, both, cond, false, filter, flat_map, inl, inr, inside, is_lt, less-before, map, names, place, range_with_len, rectangle, refl, row_places, sized, subst, suc, sym, true, zero, ℕ}
use Rattle.tabled_select.proofs.Sifted.{all-filter}

-- each place comes before all that follow
abbrev Rise : List Position → Type 0
Rise [] = Unit {0}
Rise (p ∷ ps) = AllByRecursion (IsBefore p) ps × Rise ps

-- places of one cell each
abbrev pub ones : List Position → List Rectangle
ones ps = map (λ (p : Position). rectangle p (sized 1 1)) ps

below_ones : (k : Position) (ps : List Position) → AllByRecursion (IsBefore k) ps → Below k (ones ps)
below_ones k [] all = tt
below_ones k (p ∷ ps) all = both _ _ (subst (λ (o : Ordering). T (is_lt o)) (sym (less-before k p all.0)) tt) (below_ones k ps all.1)

sorted_ones : (ps : List Position) → Rise ps → AreSorted (ones ps)
sorted_ones [] rise = tt
sorted_ones (p ∷ ps) rise = both _ _ (below_ones p ps rise.0) (sorted_ones ps rise.1)

rise-filter : (f : Position → Bool) (ps : List Position) → Rise ps → Rise (filter f ps)
rise-filter f [] rise = tt
rise-filter f (p ∷ ps) rise = elim (f p) as (λ b. Rise (cond b (p ∷ filter f ps) (filter f ps))) [
  | true ↦ (all-filter (IsBefore p) f ps rise.0, rise-filter f ps rise.1)
  | false ↦ rise-filter f ps rise.1
]

rise-append : (ps qs : List Position) → Rise ps → Rise qs → AllByRecursion (λ p. AllByRecursion (IsBefore p) qs) ps → Rise (ps ++ qs)
rise-append [] qs h k across = k
rise-append (p ∷ ps) qs h k across = (all-append (IsBefore p) ps qs h.0 across.0, rise-append ps qs h.1 k across.1)

-- a place before a row's place comes before the rest of the row
all_row : (p : Position) (i c n : ℕ) → IsBefore p (place i c) → AllByRecursion (IsBefore p) (map (place i) (range_with_len c n))
all_row p i c zero h = tt
all_row p i c (suc n) h = (h, all_row p i (c + 1) n (elim h [ inl above ↦ inl above | inr left ↦ inr (left.0, omega (arith, left.1)) ]))

rise_row : (i c n : ℕ) → Rise (map (place i) (range_with_len c n))
rise_row i c zero = tt
rise_row i c (suc n) = (all_row (place i c) i (c + 1) n (inr (refl, omega arith)), rise_row i (c + 1) n)

all_rows : (p : Position) (a n c d : ℕ) → p.row < a → AllByRecursion (IsBefore p) (flat_map (row_places c d) (range_with_len a n))
all_rows p a zero c d h = tt
all_rows p a (suc n) c d h = all-append (IsBefore p) (row_places c d a) _ (all_row p a c (d - c) (inl h)) (all_rows p (a + 1) n c d (omega arith))

each_row : (i c n : ℕ) (qs : List Position) → ((p : Position) → p.row < i + 1 → AllByRecursion (IsBefore p) qs) → AllByRecursion (λ p. AllByRecursion (IsBefore p) qs) (map (place i) (range_with_len c n))
each_row i c zero qs h = tt
each_row i c (suc n) qs h = (h (place i c) (omega arith), each_row i (c + 1) n qs h)

rise_rows : (a n c d : ℕ) → Rise (flat_map (row_places c d) (range_with_len a n))
rise_rows a zero c d = tt
rise_rows a (suc n) c d = rise-append (row_places c d a) _ (rise_row a c (d - c)) (rise_rows (a + 1) n c d) (each_row a c (d - c) _ (λ p h. all_rows p (a + 1) n c d h))

pub sorted_inside : (e : Entity) (rows columns : ℕ) → AreSorted (ones (inside e rows columns))
sorted_inside e rows columns = sorted_ones _ (rise-filter (names e) _ (rise_rows 0 (rows - 0) 0 columns))
