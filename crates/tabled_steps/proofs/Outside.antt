-- Groups of the rows, the columns or the cells of a range.
use Rattle.tabled_steps.proofs.Common.{[], ◌*◌, ◌++◌, ◌+◌, ◌-◌, ◌<◌, ◌^◌, ◌∙◌, ◌∷◌, ◌≡◌, ◌≤◌, ◌⊎◌, AllByRecursion, AreGroups, Cell, Column, Entity, Group, IsGroup, List, Position, Row, all-append, ap, append-nil, append_assoc, ap₂, arith, block, cases_lt, cells_of, flat_map, flat_map-append, groups_outside, inl, inr, inside, inside-no_cell, inside-no_column, inside-no_row, length, length-append, map, map-append, max, min, named_places, ne_eqb, once, place, range_with_len, refl, replicate, representatives_of, row_groups, row_places, segment_cells, segment_groups, subst, suc, suc-mul, sym, zero, ℕ}

pub range_split : (a m n : ℕ) → range_with_len a (m + n) ≡ range_with_len a m ++ range_with_len (a + m) n
range_split a zero n =
    let none : a ≡ a + 0 = omega arith in
    let all : 0 + n ≡ n = omega arith in
    ap (range_with_len a) all ∙ ap (λ i. range_with_len i n) none
range_split a (suc m) n =
    let next : (a + 1) + m ≡ a + suc m = omega arith in
    let all : suc m + n ≡ suc (m + n) = omega arith in
    ap (range_with_len a) all ∙ ap (λ is. a ∷ is) (range_split (a + 1) m n ∙ ap (λ i. range_with_len (a + 1) m ++ range_with_len i n) next)

-- groups of one entity are those entities
pub representatives_of-once : (es : List Entity) → es ≡ representatives_of (map once es)
representatives_of-once [] = refl
representatives_of-once (e ∷ es) = ap (λ fs. e ∷ fs) (representatives_of-once es)

-- one more cell of a row
pub row_more : (i a j : ℕ) (start now next : List Group) → a ≤ j → now ≡ start ++ map once (cells_of (map (place i) (range_with_len a (j - a)))) → next ≡ now ++ once (Cell i j) ∷ [] → next ≡ start ++ map once (cells_of (map (place i) (range_with_len a (j + 1 - a))))
row_more i a j start now next from so_far one =
    let at : a + (j - a) ≡ j = omega arith in
    let all : (j - a) + 1 ≡ j + 1 - a = omega arith in
    let last : map once (cells_of (map (place i) (range_with_len (a + (j - a)) 1))) ≡ once (Cell i j) ∷ [] = ap (λ k. map once (cells_of (map (place i) (range_with_len k 1)))) at in
    let cells : List Group = map once (cells_of (map (place i) (range_with_len a (j - a)))) in
    let split : map once (cells_of (map (place i) (range_with_len a (j + 1 - a)))) ≡ cells ++ once (Cell i j) ∷ [] =
    ap (λ k. map once (cells_of (map (place i) (range_with_len a k)))) (sym all)
    ∙ ap (λ is. map once (cells_of (map (place i) is))) (range_split a (j - a) 1)
    ∙ ap (λ ps. map once (cells_of ps)) (map-append (place i) (range_with_len a (j - a)) (range_with_len (a + (j - a)) 1))
    ∙ ap (map once) (map-append (λ (p : Position). Cell p.row p.col) (map (place i) (range_with_len a (j - a))) (map (place i) (range_with_len (a + (j - a)) 1)))
    ∙ map-append once (cells_of (map (place i) (range_with_len a (j - a)))) (cells_of (map (place i) (range_with_len (a + (j - a)) 1)))
    ∙ ap (λ rs. cells ++ rs) last in
    one ∙ ap (λ rs. rs ++ once (Cell i j) ∷ []) so_far ∙ append_assoc start cells (once (Cell i j) ∷ []) ∙ ap (λ rs. start ++ rs) (sym split)

-- a row is at its end
pub row_end : (i j n within : ℕ) (columns : ℕ × ℕ) (start now next : List Group) → j - columns.0 ≡ within - columns.0 → n ≡ columns.1 - within → now ≡ start ++ map once (cells_of (map (place i) (range_with_len columns.0 (j - columns.0)))) → next ≡ now ++ groups_outside n → next ≡ start ++ row_groups columns within i
row_end i j n within columns start now next all many so_far last =
    last ∙ ap₂ (λ rs k. rs ++ groups_outside k) (so_far ∙ ap (λ k. start ++ map once (cells_of (map (place i) (range_with_len columns.0 k)))) all) many
    ∙ append_assoc start (map once (cells_of (row_places columns.0 within i))) (groups_outside (columns.1 - within))

-- one more row
pub rows_more : (f : ℕ → List Group) (a i : ℕ) (now next : List Group) → a ≤ i → now ≡ flat_map f (range_with_len a (i - a)) → next ≡ now ++ f i → next ≡ flat_map f (range_with_len a (i + 1 - a))
rows_more f a i now next from so_far one =
    let at : a + (i - a) ≡ i = omega arith in
    let all : (i - a) + 1 ≡ i + 1 - a = omega arith in
    one ∙ ap (λ rs. rs ++ f i) so_far
    ∙ ap (λ rs. flat_map f (range_with_len a (i - a)) ++ rs) (sym (append-nil (f i)) ∙ ap (λ k. f k ++ []) (sym at))
    ∙ sym (flat_map-append f (range_with_len a (i - a)) (range_with_len (a + (i - a)) 1))
    ∙ ap (flat_map f) (sym (range_split a (i - a) 1))
    ∙ ap (λ k. flat_map f (range_with_len a k)) all

-- what comes past the rows that have cells
pub rows_end : (f : ℕ → List Group) (a i within n m : ℕ) (now next : List Group) → i - a ≡ within - a → n ≡ m → now ≡ flat_map f (range_with_len a (i - a)) → next ≡ now ++ groups_outside n → next ≡ flat_map f (range_with_len a (within - a)) ++ groups_outside m
rows_end f a i within n m now next all many so_far last = last ∙ ap₂ (λ rs k. rs ++ groups_outside k) (so_far ∙ ap (λ k. flat_map f (range_with_len a k)) all) many

module _ (rows columns : ℕ) where
  -- each entity stands for itself
  pub each_once : (es : List Entity) → AreGroups rows columns es (map once es)
  each_once [] = record { same = refl; each = tt }
  each_once (e ∷ es) = let rest = each_once es in record { same = ap (λ ps. inside e rows columns ∷ ps) rest.same; each = (inl refl, rest.each) }

  -- groups one after the other
  pub grouped-append : (es fs : List Entity) (rs qs : List Group) → AreGroups rows columns es rs → AreGroups rows columns fs qs → AreGroups rows columns (es ++ fs) (rs ++ qs)
  grouped-append es fs rs qs first second = record {
    same = map-append (λ (e : Entity). inside e rows columns) es fs ∙ ap₂ (λ ps ts. ps ++ ts) first.same second.same ∙ sym (flat_map-append (λ (r : Group). replicate r.count (inside r.entity rows columns)) rs qs);
    each = all-append (IsGroup rows columns) rs qs first.each second.each;
  }

  -- an entity has no cell in the table
  abbrev IsOutside : Entity → Type 0
  IsOutside e = inside e rows columns ≡ []

  nones : (es : List Entity) → AllByRecursion IsOutside es → named_places rows columns es ≡ replicate (length es) []
  nones [] all = refl
  nones (e ∷ es) all = ap₂ (λ p ps. p ∷ ps) all.0 (nones es all.1)

  module _ (low : (rows ≤ 2 ^ 64 - 1) ⊎ (columns ≤ 2 ^ 64 - 1)) where
    far : inside (Cell (2 ^ 64 - 1) (2 ^ 64 - 1)) rows columns ≡ []
    far = inside-no_cell (2 ^ 64 - 1) (2 ^ 64 - 1) rows columns low

    -- entities that have no cell in the table
    pub grouped-outside : (count : ℕ) (es : List Entity) → length es ≡ count → AllByRecursion IsOutside es → AreGroups rows columns es (groups_outside count)
    grouped-outside zero [] long all = record { same = refl; each = tt }
    grouped-outside zero (e ∷ es) long all = absurd (omega arith)
    grouped-outside (suc n) es long all =
        let some = ne_eqb (suc n) 0 (λ z. omega arith) in
        rw some (record {
          same = nones es all ∙ ap₂ (λ k (p : List Position). replicate k p) long (sym far) ∙ sym (append-nil (replicate (suc n) (inside (Cell (2 ^ 64 - 1) (2 ^ 64 - 1)) rows columns)));
          each = (inr (omega arith, far), tt);
        })

    -- a line for each index of a range, of which those from a count on are outside
    module _ (line : ℕ → Entity) (count : ℕ) (out : (i : ℕ) → count ≤ i → inside (line i) rows columns ≡ []) where
      lines-outside : (a n : ℕ) → (0 < n → count ≤ a) → AllByRecursion IsOutside (map line (range_with_len a n))
      lines-outside a zero past = tt
      lines-outside a (suc n) past = (out a (past (omega arith)), lines-outside (a + 1) n (λ some. let here = past (omega arith) in omega arith))

      length-lines : (a n : ℕ) → length (map line (range_with_len a n)) ≡ n
      length-lines a zero = refl
      length-lines a (suc n) = ap suc (length-lines (a + 1) n)

      pub grouped-lines : (a b : ℕ) → AreGroups rows columns (map line (range_with_len a (b - a))) (map once (map line (range_with_len a (min b count - a))) ++ groups_outside (b - max a count))
      grouped-lines a b =
          let m = min b count - a in
          let n = b - max a count in
          let all : m + n ≡ b - a = omega arith in
          let past : 0 < n → count ≤ a + m = λ some. omega arith in
          let parts : map line (range_with_len a (b - a)) ≡ map line (range_with_len a m) ++ map line (range_with_len (a + m) n) = ap (λ k. map line (range_with_len a k)) (sym all) ∙ ap (map line) (range_split a m n) ∙ map-append line (range_with_len a m) (range_with_len (a + m) n) in
          rw parts (grouped-append (map line (range_with_len a m)) (map line (range_with_len (a + m) n)) _ _ (each_once (map line (range_with_len a m))) (grouped-outside n (map line (range_with_len (a + m) n)) (length-lines (a + m) n) (lines-outside (a + m) n past)))

    pub grouped-rows : (a b : ℕ) → AreGroups rows columns (map Row (range_with_len a (b - a))) (map once (map Row (range_with_len a (min b rows - a))) ++ groups_outside (b - max a rows))
    grouped-rows = grouped-lines Row rows (λ i past. inside-no_row i rows columns past)

    pub grouped-columns : (a b : ℕ) → AreGroups rows columns (map Column (range_with_len a (b - a))) (map once (map Column (range_with_len a (min b columns - a))) ++ groups_outside (b - max a columns))
    grouped-columns = grouped-lines Column columns (λ j past. inside-no_column j rows columns past)

    cells_of-row : (i : ℕ) (js : List ℕ) → cells_of (map (place i) js) ≡ map (Cell i) js
    cells_of-row i [] = refl
    cells_of-row i (j ∷ js) = ap (λ es. Cell i j ∷ es) (cells_of-row i js)

    module _ (c d : ℕ) where
      -- the cells of a row
      grouped-row : (i : ℕ) → c < min d columns → AreGroups rows columns (cells_of (row_places c d i)) (row_groups (c, d) (min d columns) i)
      grouped-row i some =
          let over : d - max c columns ≡ d - min d columns = omega arith in
          rw (cells_of-row i (range_with_len c (d - c)), cells_of-row i (range_with_len c (min d columns - c)))
          (subst (λ k. AreGroups rows columns (map (Cell i) (range_with_len c (d - c))) (map once (map (Cell i) (range_with_len c (min d columns - c))) ++ groups_outside k)) over
          (grouped-lines (Cell i) columns (λ j past. inside-no_cell i j rows columns (inr past)) c d))

      grouped-block : (is : List ℕ) → c < min d columns → AreGroups rows columns (cells_of (flat_map (row_places c d) is)) (flat_map (row_groups (c, d) (min d columns)) is)
      grouped-block [] some = record { same = refl; each = tt }
      grouped-block (i ∷ is) some =
          let parts = map-append (λ (p : Position). Cell p.row p.col) (row_places c d i) (flat_map (row_places c d) is) in
          rw parts (grouped-append (cells_of (row_places c d i)) (cells_of (flat_map (row_places c d) is)) _ _ (grouped-row i some) (grouped-block is some))

      outside-row : (i a n : ℕ) → (rows ≤ i) ⊎ (columns ≤ a) → AllByRecursion IsOutside (cells_of (map (place i) (range_with_len a n)))
      outside-row i a zero past = tt
      outside-row i a (suc n) past = (inside-no_cell i a rows columns past, outside-row i (a + 1) n (next past))
        where
          next : (rows ≤ i) ⊎ (columns ≤ a) → (rows ≤ i) ⊎ (columns ≤ a + 1)
          next (inl h) = inl h
          next (inr h) = inr (omega arith)

      length-row : (i : ℕ) (js : List ℕ) → length (cells_of (map (place i) js)) ≡ length js
      length-row i [] = refl
      length-row i (j ∷ js) = ap suc (length-row i js)

      length-range : (a n : ℕ) → length (range_with_len a n) ≡ n
      length-range a zero = refl
      length-range a (suc n) = ap suc (length-range (a + 1) n)

      length-block : (a n : ℕ) → length (cells_of (flat_map (row_places c d) (range_with_len a n))) ≡ n * (d - c)
      length-block a zero = let none : 0 ≡ 0 * (d - c) = omega arith in none
      length-block a (suc n) =
          let parts = map-append (λ (p : Position). Cell p.row p.col) (row_places c d a) (flat_map (row_places c d) (range_with_len (a + 1) n)) in
          let both = ap length parts ∙ length-append (cells_of (row_places c d a)) (cells_of (flat_map (row_places c d) (range_with_len (a + 1) n))) in
          let row = length-row a (range_with_len c (d - c)) ∙ length-range c (d - c) in
          omega (arith, both, row, length-block (a + 1) n, suc-mul n (d - c))

      outside-block : (a n : ℕ) → (0 < n → rows ≤ a) ⊎ ((columns ≤ c) ⊎ (d ≤ c)) → AllByRecursion IsOutside (cells_of (flat_map (row_places c d) (range_with_len a n)))
      outside-block a zero past = tt
      outside-block a (suc n) past =
          let parts = map-append (λ (p : Position). Cell p.row p.col) (row_places c d a) (flat_map (row_places c d) (range_with_len (a + 1) n)) in
          rw parts (all-append IsOutside (cells_of (row_places c d a)) (cells_of (flat_map (row_places c d) (range_with_len (a + 1) n))) (here past) (outside-block (a + 1) n (next past)))
        where
          here : (0 < suc n → rows ≤ a) ⊎ ((columns ≤ c) ⊎ (d ≤ c)) → AllByRecursion IsOutside (cells_of (row_places c d a))
          here (inl h) = outside-row a c (d - c) (inl (h (omega arith)))
          here (inr (inl h)) = outside-row a c (d - c) (inr h)
          here (inr (inr h)) = let none : d - c ≡ 0 = omega arith in rw none tt

          next : (0 < suc n → rows ≤ a) ⊎ ((columns ≤ c) ⊎ (d ≤ c)) → (0 < n → rows ≤ a + 1) ⊎ ((columns ≤ c) ⊎ (d ≤ c))
          next (inl h) = inl (λ some. let k = h (omega arith) in omega arith)
          next (inr h) = inr h

      -- the cells of a segment, row by row as far as rows have some
      pub grouped-segment : (a b within_rows : ℕ) → within_rows ≤ max a b → (within_rows ≤ a) ⊎ (c < min d columns) → (0 < b - max a within_rows → rows ≤ max a within_rows) ⊎ ((columns ≤ c) ⊎ (d ≤ c))
          → AreGroups rows columns (segment_cells (a, b) (c, d)) (segment_groups (a, b) within_rows (c, d) (min d columns))
      grouped-segment a b within_rows few wide past =
          let m = within_rows - a in
          let n = b - max a within_rows in
          let all : m + n ≡ b - a = omega arith in
          let at : a + m ≡ max a within_rows = omega arith in
          let parts : cells_of (block a b c d) ≡ cells_of (flat_map (row_places c d) (range_with_len a m)) ++ cells_of (flat_map (row_places c d) (range_with_len (max a within_rows) n)) =
          ap (λ k. cells_of (flat_map (row_places c d) (range_with_len a k))) (sym all)
          ∙ ap (λ is. cells_of (flat_map (row_places c d) is)) (range_split a m n ∙ ap (λ k. range_with_len a m ++ range_with_len k n) at)
          ∙ ap cells_of (flat_map-append (row_places c d) (range_with_len a m) (range_with_len (max a within_rows) n))
          ∙ map-append (λ (p : Position). Cell p.row p.col) (flat_map (row_places c d) (range_with_len a m)) (flat_map (row_places c d) (range_with_len (max a within_rows) n)) in
          rw parts (grouped-append _ _ _ _ (first wide) (grouped-outside (n * (d - c)) (cells_of (flat_map (row_places c d) (range_with_len (max a within_rows) n))) (length-block (max a within_rows) n) (outside-block (max a within_rows) n past)))
        where
          first : (within_rows ≤ a) ⊎ (c < min d columns) → AreGroups rows columns (cells_of (flat_map (row_places c d) (range_with_len a (within_rows - a)))) (flat_map (row_groups (c, d) (min d columns)) (range_with_len a (within_rows - a)))
          first (inl none) = let zeros : within_rows - a ≡ 0 = omega arith in rw zeros (record { same = refl; each = tt })
          first (inr some) = grouped-block (range_with_len a (within_rows - a)) some

-- the cells of a segment, as a body makes them
pub segment_at : (rows columns : ℕ) → (rows ≤ 2 ^ 64 - 1) ⊎ (columns ≤ 2 ^ 64 - 1) → (p q : ℕ × ℕ) (within_rows within : ℕ) (items : List Group) → within ≡ min q.1 columns
    → ((q.0 < within) × (within_rows ≡ min p.1 rows)) ⊎ ((within ≤ q.0) × (within_rows ≡ p.0))
    → items ≡ segment_groups p within_rows q within → AreGroups rows columns (segment_cells p q) items
segment_at rows columns low p q within_rows within items is (inl (wide, at)) made =
    let some : q.0 < min q.1 columns = omega arith in
    let few : within_rows ≤ max p.0 p.1 = omega arith in
    let past : 0 < p.1 - max p.0 within_rows → rows ≤ max p.0 within_rows = λ more. omega arith in
    rw (made, is) (grouped-segment rows columns low q.0 q.1 p.0 p.1 within_rows few (inr some) (inl past))
segment_at rows columns low p q within_rows within items is (inr (narrow, at)) made =
    let few : within_rows ≤ max p.0 p.1 = omega arith in
    let none : within_rows ≤ p.0 = omega arith in
    rw (made, is) (grouped-segment rows columns low q.0 q.1 p.0 p.1 within_rows few (inl none) (inr (past (cases_lt q.0 columns))))
  where
    past : (q.0 < columns) ⊎ (columns ≤ q.0) → (columns ≤ q.0) ⊎ (q.1 ≤ q.0)
    past (inl some) = inr (omega arith)
    past (inr out) = inl out
