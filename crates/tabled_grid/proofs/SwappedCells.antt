-- Two cells swapped, by place.
use Rattle.tabled_grid.proofs.Common.{[], ◌<◌, ◌∙◌, ◌≡◌, ◌≢◌, All-from_recursion, Grid, IsEven, IsInside, List, Position, Some, ap, arith, cell_at, common_steps, get_or, get_or-set_other, get_or-set_same, length, map_grid, slice_get-get_or, subst, sym, with_cell, with_cells_swapped, ℕ}
use Rattle.tabled_grid.proofs.Grids.{IsEven-map_grid, IsEven-with_cell}
use Rattle.tabled_grid.proofs.Mapped.{map_grid-with_cells_swapped}

-- what stands at two places is swapped
pub record Swaps {B : Type 0} (old new : ℕ → ℕ → B) (i j k l : ℕ) : Type 0 where
  pub here : new i j ≡ old k l
  pub there : new k l ≡ old i j
  pub in_here : (b : ℕ) → b ≢ j → new i b ≡ old i b
  pub in_there : (b : ℕ) → b ≢ l → new k b ≡ old k b
  pub elsewhere : (a b : ℕ) → a ≢ i → a ≢ k → new a b ≡ old a b

-- what stands at a place of a list of lists
abbrev pub entry : {B : Type 0} → B → List (List B) → ℕ → ℕ → B
entry d rows a b = get_or (get_or rows a []) b d

module _ {B : Type 0} (d : B) (g : Grid B) (p : Position) (x : B) (even : IsEven g) (inside : IsInside g p) where
  row_of : p.row < length g.cells
  row_of = omega (arith, even.tall, inside.row)

  wide_at : (a : ℕ) → a < g.rows → length (get_or g.cells a []) ≡ g.columns
  wide_at a h = All-from_recursion _ g.cells even.wide a [] (omega (arith, even.tall, h))

  has_entry : cell_at g p ≡ Some (entry d g.cells p.row p.col)
  has_entry = slice_get-get_or (get_or g.cells p.row []) p.col d (omega (arith, wide_at p.row inside.row, inside.col))

  entry_same : entry d (with_cell g p x).cells p.row p.col ≡ x
  entry_same = ap (λ row. get_or row p.col d) (get_or-set_same g.cells p.row _ [] row_of) ∙ get_or-set_same (get_or g.cells p.row []) p.col x d (omega (arith, wide_at p.row inside.row, inside.col))

  entry_in_row : (b : ℕ) → b ≢ p.col → entry d (with_cell g p x).cells p.row b ≡ entry d g.cells p.row b
  entry_in_row b apart = ap (λ row. get_or row b d) (get_or-set_same g.cells p.row _ [] row_of) ∙ get_or-set_other (get_or g.cells p.row []) p.col b x d apart

  entry_other : (a b : ℕ) → a ≢ p.row → entry d (with_cell g p x).cells a b ≡ entry d g.cells a b
  entry_other a b apart = ap (λ row. get_or row b d) (get_or-set_other g.cells p.row a _ [] apart)

-- two cells of different rows swapped
entries_swapped : {B : Type 0} (d : B) (g : Grid B) (p q : Position) → IsEven g → IsInside g p → IsInside g q → p.row ≢ q.row →
    Swaps (entry d g.cells) (entry d (with_cells_swapped g p q).cells) p.row p.col q.row q.col
entries_swapped {B} d g p q even at_p at_q apart = grind (arith, common_steps, IsEven-with_cell, has_entry, entry_other, entry_same, entry_in_row)

-- what f gives of two cells that are swapped, where there is d outside
pub views_swapped : {A B : Type 0} (f : A → B) (d : B) (g new : Grid A) (p q : Position) → IsEven g → IsInside g p → IsInside g q → p.row ≢ q.row → new ≡ with_cells_swapped g p q →
    Swaps (entry d (map_grid f g).cells) (entry d (map_grid f new).cells) p.row p.col q.row q.col
views_swapped {A} {B} f d g new p q even at_p at_q apart is =
    let seen : Grid B = map_grid f g in
    let moved : map_grid f new ≡ with_cells_swapped seen p q = ap (map_grid f) is ∙ map_grid-with_cells_swapped f g p q in
    let all : Swaps (entry d seen.cells) (entry d (with_cells_swapped seen p q).cells) p.row p.col q.row q.col =
    entries_swapped d seen p q (IsEven-map_grid f g even) (record { row = at_p.row; col = at_p.col }) (record { row = at_q.row; col = at_q.col }) apart in
    subst (λ (h : Grid B). Swaps (entry d seen.cells) (entry d h.cells) p.row p.col q.row q.col) (sym moved) all
