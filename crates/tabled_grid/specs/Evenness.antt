-- What a list of all cells shows of its grid, and grids with what is true of them.
use Rattle.std.proofs.Common.{◌≡◌, ℕ, zero, suc, ◌*◌, ◌∙◌, List, [], ◌∷◌, refl, ap, length, map, drop, arith}
use Rattle.std.specs.Prelude.{replicate}
use Rattle.std.specs.List.{AllByRecursion}
use Rattle.std.proofs.lemmas.List.{length-drop, length-take-le}
use Rattle.tabled_grid.specs.Flat.{IsFull, chunks, flat_grid}
use Rattle.tabled_grid.specs.Grid.{Grid, IsEmptyWithoutRows, IsEven, grid_of}

-- rows of n cells each
abbrev pub AreWide : {A : Type 0} → ℕ → List (List A) → Type 0
AreWide {A} c rows = AllByRecursion (λ (row : List A). length row ≡ c) rows

-- a grid with what is true of it, said by equations
pub record EvenGrid (A : Type 0) : Type 0 where
  pub grid : Grid A
  pub tall : length grid.cells ≡ grid.rows
  pub wide : map length grid.cells ≡ replicate grid.rows grid.columns
  pub rowless : grid.rows ≡ 0 → grid.columns ≡ 0

-- the first number, and the others
first_of : List ℕ → ℕ
first_of [] = 0
first_of (n ∷ ns) = n

rest_of : List ℕ → List ℕ
rest_of [] = []
rest_of (n ∷ ns) = ns

module _ {A : Type 0} where
  pub length-chunks : (r c : ℕ) (xs : List A) → length (chunks r c xs) ≡ r
  length-chunks zero c xs = refl
  length-chunks (suc r) c xs = ap suc (length-chunks r c (drop c xs))

  pub wide-chunks : (r c : ℕ) (xs : List A) → length xs ≡ r * c → AreWide c (chunks r c xs)
  wide-chunks zero c xs h = tt
  wide-chunks (suc r) c xs h = (length-take-le c xs (omega (arith, h)), wide-chunks r c (drop c xs) (omega (arith, h, length-drop c xs)))

  -- rows of n cells each, as an equation
  pub wide-equation : (r c : ℕ) (rows : List (List A)) → length rows ≡ r → AreWide c rows → map length rows ≡ replicate r c
  wide-equation zero c [] h w = refl
  wide-equation zero c (row ∷ rows) h w = absurd (omega (arith, h))
  wide-equation (suc r) c [] h w = absurd (omega (arith, h))
  wide-equation (suc r) c (row ∷ rows) h w = ap (λ n. n ∷ map length rows) w.0 ∙ ap (λ ns. c ∷ ns) (wide-equation r c rows (omega (arith, h)) w.1)

  all-wide : (r c : ℕ) (rows : List (List A)) → map length rows ≡ replicate r c → AreWide c rows
  unfolding first_of rest_of
  all-wide r c [] e = tt
  all-wide zero c (row ∷ rows) e = absurd (omega (arith, ap length e))
  all-wide (suc r) c (row ∷ rows) e = (ap first_of e, all-wide r c rows (ap rest_of e))

  -- the grid of a list of all cells
  abbrev pub even_grid : (r c : ℕ) (xs : List A) → IsFull r c xs → EvenGrid A
  even_grid r c xs h = record {
    grid = flat_grid r c xs;
    tall = length-chunks r c xs;
    wide = wide-equation r c (chunks r c xs) (length-chunks r c xs) (wide-chunks r c xs h.full);
    rowless = h.rowless;
  }

  pub is_even_grid : (g : EvenGrid A) → IsEven g.grid
  is_even_grid g = record { tall = g.tall; wide = all-wide g.grid.rows g.grid.columns g.grid.cells g.wide }

  -- the grid of rows has no columns without them
  pub no_columns : (rows : List (List A)) → IsEmptyWithoutRows (grid_of rows)
  no_columns [] e = refl
  no_columns (row ∷ rows) e = absurd (omega (arith, e))
