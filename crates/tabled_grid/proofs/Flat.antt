-- Rows cut out of one list of cells, and joined again.
use Rattle.tabled_grid.proofs.Common.{[], ◌*◌, ◌++◌, ◌∙◌, ◌∷◌, ◌≡◌, AreWide, Grid, IsEven, IsFull, List, ap, arith, chunks, common_steps, drop, drop_at, flat_grid, joined, length, length-append, length-drop, nil_from_length, refl, suc, sym, take, take-append-drop, take_at, zero, ℕ}

module _ {A : Type 0} where
  pub joined-chunks : (r c : ℕ) (xs : List A) → length xs ≡ r * c → joined (chunks r c xs) ≡ xs
  joined-chunks zero c xs h = sym (nil_from_length xs (omega (arith, h)))
  joined-chunks (suc r) c xs h = ap (λ ys. take c xs ++ ys) (joined-chunks r c (drop c xs) (omega (arith, h, length-drop c xs))) ∙ take-append-drop c xs

  pub chunks-joined : (r c : ℕ) (rows : List (List A)) → length rows ≡ r → AreWide c rows → chunks r c (joined rows) ≡ rows
  chunks-joined zero c [] h w = refl
  chunks-joined zero c (row ∷ rows) h w = absurd (omega (arith, h))
  chunks-joined (suc r) c [] h w = absurd (omega (arith, h))
  chunks-joined (suc r) c (row ∷ rows) h w = rw (take_at row (joined rows) c w.0, drop_at row (joined rows) c w.0, chunks-joined r c rows (omega (arith, h)) w.1) refl

  pub length-joined : (c : ℕ) (rows : List (List A)) → AreWide c rows → length (joined rows) ≡ length rows * c
  length-joined c [] w = omega arith
  length-joined c (row ∷ rows) w = omega (arith, length-append row (joined rows), w.0, length-joined c rows w.1)

  pub length-grid : (g : Grid A) → IsEven g → length (joined g.cells) ≡ g.rows * g.columns
  length-grid g even = length-joined g.columns g.cells even.wide ∙ ap (λ n. n * g.columns) even.tall

  -- a store whose cells are those of a grid has this grid as its view, and all cells
  pub view_of : (g : Grid A) (r c : ℕ) (cells : List A) → IsEven g → r ≡ g.rows → c ≡ g.columns → cells ≡ joined g.cells → flat_grid r c cells ≡ g
  view_of g r c cells even e f is = rw (e, f, is, chunks-joined g.rows g.columns g.cells even.tall even.wide) refl

  pub full_of : (g : Grid A) (r c : ℕ) (cells : List A) → IsEven g → r ≡ g.rows → c ≡ g.columns → cells ≡ joined g.cells → (g.rows ≡ 0 → g.columns ≡ 0) → IsFull r c cells
  full_of g r c cells even e f is rowless = grind (arith, common_steps, length-grid)
