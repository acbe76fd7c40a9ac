-- The cells of all rows, swapped row by row.
use Rattle.std.proofs.lemmas.Grind.{common_steps}
use Rattle.tabled_settings.proofs.Common.{[], ◌+◌, ◌<◌, ◌∙◌, ◌≡◌, ◌≢◌, ◌≤◌, All-from_recursion, Grid, IsEven, IsEven-with_cells_swapped, List, ap, arith, ext_get_or, get_or, get_or-map, get_or-set_other, get_or-set_same, grid_of, length, length-map, map, place, refl, same_grid, set, subst, swap, sym, with_cells_swapped, ℕ}
use Rattle.tabled_grid.proofs.Swaps.{at, swapped_in_row}

-- two cells of a row, swapped
row_swapped : {A : Type 0} (g : Grid A) (i j k : ℕ) → IsEven g → i < g.rows → j < g.columns → k < g.columns → with_cells_swapped g (place i j) (place i k) ≡ record g { cells = set g.cells i (swap (get_or g.cells i []) j k) }
row_swapped {A} g i j k even high left right =
    let here : i < length g.cells = omega (arith, even.tall, high) in
    let wide : length (get_or g.cells i []) ≡ g.columns = All-from_recursion _ g.cells even.wide i [] here in
    let a = at (get_or g.cells i []) j (omega (arith, wide, left)) in
    let b = at (get_or g.cells i []) k (omega (arith, wide, right)) in
    let cells = swapped_in_row g.cells (place i j) (place i k) refl here (omega (arith, wide, left)) (omega (arith, wide, right)) in
    let same : with_cells_swapped g (place i j) (place i k) ≡ record g { cells = (with_cells_swapped (grid_of g.cells) (place i j) (place i k)).cells } = rw (a.get, b.get) refl in
    same ∙ ap (λ (xs : List (List A)). record g { cells = xs }) (sym cells)

-- a row after some steps of which there are m
module _ {A : Type 0} (after : ℕ → List A → List A) (m : ℕ) where
  -- the rows before one are done, that one is after some steps, and the others are as they were
  pub record Underway (i k : ℕ) (old cur : Grid A) : Type 0 where
    pub rows : cur.rows ≡ old.rows
    pub columns : cur.columns ≡ old.columns
    pub even : IsEven cur
    pub done : (r : ℕ) → r < i → get_or cur.cells r [] ≡ after m (get_or old.cells r [])
    pub here : get_or cur.cells i [] ≡ after k (get_or old.cells i [])
    pub rest : (r : ℕ) → i < r → get_or cur.cells r [] ≡ get_or old.cells r []

  module _ (i : ℕ) (old cur : Grid A) where
    -- a step more
    pub underway-more : (k n a b : ℕ) (new : Grid A) → Underway i k old cur → new ≡ with_cells_swapped cur (place i a) (place i b) → i < old.rows → a < old.columns → b < old.columns → ((xs : List A) → after n xs ≡ swap (after k xs) a b) → Underway i n old new
    underway-more k n a b new u is high left right next =
        let swapped = is ∙ row_swapped cur i a b u.even (omega (arith, high, u.rows)) (omega (arith, left, u.columns)) (omega (arith, right, u.columns)) in
        let in_row : i < length cur.cells = omega (arith, high, u.rows, u.even.tall) in
        let cells : new.cells ≡ set cur.cells i (swap (get_or cur.cells i []) a b) = ap (λ (g : Grid A). g.cells) swapped in
        let other : (r : ℕ) → r ≢ i → get_or new.cells r [] ≡ get_or cur.cells r [] = λ r off. ap (λ (xs : List (List A)). get_or xs r []) cells ∙ get_or-set_other cur.cells i r _ [] off in
        record {
          rows = ap (λ (g : Grid A). g.rows) swapped ∙ u.rows;
          columns = ap (λ (g : Grid A). g.columns) swapped ∙ u.columns;
          even = subst IsEven (sym is) (IsEven-with_cells_swapped cur (place i a) (place i b) u.even);
          done = λ r h. other r (λ same. omega (arith, same, h)) ∙ u.done r h;
          here = ap (λ (xs : List (List A)). get_or xs i []) cells ∙ get_or-set_same cur.cells i _ [] in_row ∙ ap (λ (xs : List A). swap xs a b) u.here ∙ sym (next (get_or old.cells i []));
          rest = λ r h. other r (λ same. omega (arith, same, h)) ∙ u.rest r h;
        }

    -- a step that changes nothing
    pub underway-skip : (k n : ℕ) → Underway i k old cur → ((xs : List A) → after n xs ≡ after k xs) → Underway i n old cur
    underway-skip k n u next = record { rows = u.rows; columns = u.columns; even = u.even; done = u.done; here = u.here ∙ sym (next (get_or old.cells i [])); rest = u.rest }

    -- a row more
    pub underway-next : (n : ℕ) → n ≡ i + 1 → ((xs : List A) → after 0 xs ≡ xs) → Underway i m old cur → Underway n 0 old cur
    underway-next n next start u = grind (arith, common_steps)

  pub underway-none : (g : Grid A) → IsEven g → ((xs : List A) → after 0 xs ≡ xs) → Underway 0 0 g g
  underway-none g even start = record { rows = refl; columns = refl; even = even; done = λ r h. absurd (omega (arith, h)); here = sym (start (get_or g.cells 0 [])); rest = λ r h. refl }

  -- all rows
  pub underway-all : (i k : ℕ) (old new : Grid A) → IsEven old → old.rows ≤ i → Underway i k old new → new ≡ record old { cells = map (after m) old.cells }
  underway-all i k old new even all u =
      let tall : length new.cells ≡ length (map (after m) old.cells) = u.even.tall ∙ u.rows ∙ sym even.tall ∙ sym (length-map old.cells (after m)) in
      same_grid new.rows old.rows new.columns old.columns new.cells (map (after m) old.cells) u.rows u.columns
      (ext_get_or [] new.cells (map (after m) old.cells) tall (λ r h. u.done r (omega (arith, h, u.even.tall, u.rows, all)) ∙ sym (get_or-map (after m) old.cells r [] [] (omega (arith, h, u.even.tall, u.rows, even.tall)))))
