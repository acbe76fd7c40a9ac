-- A cell of joined rows, by its row and its column.
use Rattle.tabled_grid.proofs.Common.{[], ◌*◌, ◌++◌, ◌+◌, ◌-◌, ◌<◌, ◌∙◌, ◌∷◌, ◌≡◌, ◌≤◌, AreWide, Grid, IsEven, IsInside, List, Position, Some, ap, arith, cell_at, common_steps, get_or, joined, length, mul-add-lt, refl, set, set-append_left, set-append_right, slice_get, suc, swap, swap_is, sym, with_cell, with_cells_swapped, zero, ℕ}
use Rattle.tabled_grid.proofs.Grids.{IsEven-with_cell}
use Rattle.tabled_grid.proofs.Swaps.{at}
use Rattle.tabled_grid.proofs.Flat.{length-grid}

module _ {A : Type 0} where
  slice_get-left : (xs ys : List A) (n : ℕ) → n < length xs → slice_get (xs ++ ys) n ≡ slice_get xs n
  slice_get-left [] ys n h = absurd (omega (arith, h))
  slice_get-left (x ∷ xs) ys zero h = refl
  slice_get-left (x ∷ xs) ys (suc n) h = slice_get-left xs ys n (omega (arith, h))

  slice_get-right : (xs ys : List A) (m n : ℕ) → length xs + m ≡ n → slice_get (xs ++ ys) n ≡ slice_get ys m
  slice_get-right [] ys m n e = let same : n ≡ m = omega (arith, e) in ap (slice_get ys) same
  slice_get-right (x ∷ xs) ys m zero e = absurd (omega (arith, e))
  slice_get-right (x ∷ xs) ys m (suc n) e = slice_get-right xs ys m n (omega (arith, e))

  pub slice_get-joined : (c : ℕ) (rows : List (List A)) (i j n : ℕ) → AreWide c rows → i < length rows → j < c → n ≡ i * c + j → slice_get (joined rows) n ≡ slice_get (get_or rows i []) j
  slice_get-joined c [] i j n w h k e = absurd (omega (arith, h))
  slice_get-joined c (row ∷ rows) zero j n w h k e = grind (arith, common_steps, slice_get-left)
  slice_get-joined c (row ∷ rows) (suc i) j n w h k e =
      slice_get-right row (joined rows) (i * c + j) n (omega (arith, e, w.0)) ∙ slice_get-joined c rows i j (i * c + j) w.1 (omega (arith, h)) k refl

  pub set-joined : (c : ℕ) (rows : List (List A)) (i j n : ℕ) (x : A) → AreWide c rows → i < length rows → j < c → n ≡ i * c + j → set (joined rows) n x ≡ joined (set rows i (set (get_or rows i []) j x))
  set-joined c [] i j n x w h k e = absurd (omega (arith, h))
  set-joined c (row ∷ rows) zero j n x w h k e = grind (arith, common_steps, set-append_left)
  set-joined c (row ∷ rows) (suc i) j n x w h k e =
      let later : c ≤ n = omega (arith, e) in
      let rest : n - c ≡ i * c + j = omega (arith, e) in
      set-append_right row (joined rows) c n x w.0 later ∙ ap (λ ys. row ++ ys) (set-joined c rows i j (n - c) x w.1 (omega (arith, h)) k rest)

  module _ (g : Grid A) (even : IsEven g) where
    pub cell-joined : (p : Position) (n : ℕ) → IsInside g p → n ≡ p.row * g.columns + p.col → slice_get (joined g.cells) n ≡ cell_at g p
    cell-joined p n inside e = slice_get-joined g.columns g.cells p.row p.col n even.wide (omega (arith, even.tall, inside.row)) inside.col e

    pub written-joined : (p : Position) (n : ℕ) (x : A) → IsInside g p → n ≡ p.row * g.columns + p.col → set (joined g.cells) n x ≡ joined (with_cell g p x).cells
    written-joined p n x inside e = set-joined g.columns g.cells p.row p.col n x even.wide (omega (arith, even.tall, inside.row)) inside.col e

    pub within-joined : (p : Position) (n : ℕ) → IsInside g p → n ≡ p.row * g.columns + p.col → n < length (joined g.cells)
    within-joined p n inside e = omega (arith, e, length-grid g even, mul-add-lt p.row g.columns p.col g.rows inside.row inside.col)

  pub swapped-joined : (g : Grid A) (p q : Position) (m n : ℕ) → IsEven g → IsInside g p → IsInside g q → m ≡ p.row * g.columns + p.col → n ≡ q.row * g.columns + q.col → swap (joined g.cells) m n ≡ joined (with_cells_swapped g p q).cells
  swapped-joined g p q m n even in_p in_q e f =
      let below_m : m < length (joined g.cells) = within-joined g even p m in_p e in
      let below_n : n < length (joined g.cells) = within-joined g even q n in_q f in
      let a = at (joined g.cells) m below_m in
      let b = at (joined g.cells) n below_n in
      let at_p : cell_at g p ≡ Some a.member = sym (cell-joined g even p m in_p e) ∙ a.get in
      let at_q : cell_at g q ≡ Some b.member = sym (cell-joined g even q n in_q f) ∙ b.get in
      rw (at_p, at_q)
      (sym (swap_is (joined g.cells) m n a.member below_m below_n)
      ∙ ap (λ x. set (set (joined g.cells) m x) n (get_or (joined g.cells) m a.member)) (b.read a.member)
      ∙ ap (set (set (joined g.cells) m b.member) n) (a.read a.member)
      ∙ ap (λ ys. set ys n a.member) (written-joined g even p m b.member in_p e)
      ∙ written-joined (with_cell g p b.member) (IsEven-with_cell g p b.member even) q n a.member (record { row = in_q.row; col = in_q.col }) f)
