-- What is left after two cells were exchanged.
use Rattle.tabled_grid.proofs.Common.{[], ◌<◌, ◌∙◌, ◌∷◌, ◌≡◌, ◌≢◌, List, Position, Some, Vec, ap, arith, cell_at, common_steps, get_or, get_or-set_other, get_or-set_same, grid_of, length, length-map, map-set, map_items, refl, set, set-set, set_comm, slice_get, slice_get_read, suc, swap, swap_is, sym, with_cells_swapped, zero, ℕ}
use Rattle.std.specs.Prelude.{vec_len}
use Rattle.std.proofs.lemmas.List.{get_or-map}

-- the member at a place
pub record At {A : Type 0} (xs : List A) (i : ℕ) : Type 0 where
  pub member : A
  pub get : slice_get xs i ≡ Some member
  pub read : (d : A) → get_or xs i d ≡ member

pub at : {A : Type 0} (xs : List A) (i : ℕ) → i < length xs → At xs i
at [] i h = absurd (omega arith)
at (x ∷ xs) zero h = record { member = x; get = refl; read = λ d. refl }
at (x ∷ xs) (suc i) h = let a = at xs i (omega arith) in record { member = a.member; get = a.get; read = a.read }

-- two cells of one row
pub swapped_in_row : {A : Type 0} (rows : List (List A)) (p q : Position) → p.row ≡ q.row → p.row < length rows → p.col < length (get_or rows p.row []) → q.col < length (get_or rows p.row []) →
    set rows p.row (swap (get_or rows p.row []) p.col q.col) ≡ (with_cells_swapped (grid_of rows) p q).cells
swapped_in_row {A} rows p q e h i j =
    let row : List A = get_or rows p.row [] in
    let a = at row p.col i in
    let b = at row q.col j in
    rw (← e, a.get, b.get)
    (let once : get_or (set rows p.row (set row p.col b.member)) p.row [] ≡ set row p.col b.member = get_or-set_same rows p.row _ [] h in
    rw (once, set-set) (ap (set rows p.row) (sym (swap_is row p.col q.col a.member i j) ∙ ap (λ x. set (set row p.col x) q.col (get_or row p.col a.member)) (b.read a.member) ∙ ap (set (set row p.col b.member) q.col) (a.read a.member))))

-- two cells of different rows
pub swapped_in_rows : {A : Type 0} (rows : List (List A)) (p q : Position) (a b : A) → p.row ≢ q.row → cell_at (grid_of rows) p ≡ Some a → cell_at (grid_of rows) q ≡ Some b →
    set (set rows q.row (set (get_or rows q.row []) q.col a)) p.row (set (get_or rows p.row []) p.col b) ≡ (with_cells_swapped (grid_of rows) p q).cells
swapped_in_rows rows p q a b apart is_a is_b = grind (arith, common_steps, get_or-set_other, set_comm)

-- the same where vectors hold the rows
module _ {A : Type 0} (rows : List (Vec A)) (p q : Position) (p_row : p.row < length rows) (q_row : q.row < length rows) where
  pub exchanged_in_row : (d row : Vec A) → p.row ≡ q.row → p.col < vec_len (get_or rows p.row d) → q.col < vec_len (get_or rows p.row d) → row.items ≡ swap (get_or rows p.row d).items p.col q.col →
      map_items (set rows p.row row) ≡ (with_cells_swapped (grid_of (map_items rows)) p q).cells
  exchanged_in_row d row e i j is = grind (arith, common_steps, get_or-map, map-set, swapped_in_row, length-map)

  -- the row of p is taken out meanwhile
  pub exchanged_in_rows : (d e none one other : Vec A) (a b : A) → p.row ≢ q.row → p.col < vec_len (get_or rows p.row d) → q.col < vec_len (get_or rows q.row e) →
      a ≡ get_or (get_or rows p.row d).items p.col a → b ≡ get_or (get_or rows q.row e).items q.col b →
      one.items ≡ set (get_or rows p.row d).items p.col b → other.items ≡ set (get_or rows q.row e).items q.col a →
      map_items (set (set (set rows p.row none) q.row other) p.row one) ≡ (with_cells_swapped (grid_of (map_items rows)) p q).cells
  exchanged_in_rows d e none one other a b apart i j is_a is_b is_one is_other = grind (arith, common_steps, get_or-map, slice_get_read, set_comm, set-set, map-set, swapped_in_rows)
