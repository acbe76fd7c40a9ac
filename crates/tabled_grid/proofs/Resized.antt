-- Grids with rows and columns inserted, swapped and removed.
use Rattle.tabled_grid.proofs.Common.{[], ◌+◌, ◌-◌, ◌<◌, ◌∙◌, ◌≡◌, ◌≤◌, AllByRecursion, Bool, Grid, IsEmptyWithoutRows, IsEven, List, None, Option, Position, Some, all-insert, all-map, all-remove, all-swap, all-zip, arith, cell_at, common_steps, cond, eqb, eqb-true, false, insert, length, length-insert, length-map, length-remove, length-swap, length-zip, map, nil_from_length, refl, rules, true, with_cell_if, with_cells_swapped, with_column, with_columns_swapped, with_row, with_rows_swapped, without_column, without_row, zip, ℕ}
use Rattle.tabled_grid.proofs.Grids.{IsEven-with_cell}

-- a row is so long
abbrev IsWide : {A : Type 0} → ℕ → List A → Type 0
IsWide n row = length row ≡ n

module _ {A : Type 0} (g : Grid A) (even : IsEven g) where
  pub IsEven-with_row : (i : ℕ) (row : List A) → i ≤ g.rows → length row ≡ g.columns → IsEven (with_row g i row)
  IsEven-with_row i row h w = grind (arith, common_steps, length-insert, all-insert)

  pub IsEven-with_rows_swapped : (i k : ℕ) → IsEven (with_rows_swapped g i k)
  IsEven-with_rows_swapped i k = record { tall = length-swap g.cells i k ∙ even.tall; wide = all-swap (IsWide g.columns) g.cells i k even.wide }

  pub IsEven-with_columns_swapped : (j k : ℕ) → IsEven (with_columns_swapped g j k)
  IsEven-with_columns_swapped j k = search (rules, length-map, all-map, length-swap)

  pub IsEven-without_column : (j : ℕ) → j < g.columns → IsEven (without_column g j)
  IsEven-without_column j h = record {
    tall = length-map g.cells _ ∙ even.tall;
    wide = all-map (IsWide g.columns) (IsWide (g.columns - 1)) _ (λ row w. omega (arith, length-remove row j (omega (arith, w)), w)) g.cells even.wide;
  }

-- where a test shows that there are no rows, they are as wide as can be said
pub wide_if : {A : Type 0} (b : Bool) (n m : ℕ) (rows : List (List A)) → (b ≡ true → rows ≡ []) → AllByRecursion (IsWide m) rows → AllByRecursion (IsWide (cond b n m)) rows
wide_if true n m rows none a = rw (none refl) tt
wide_if false n m rows none a = a

module _ {A : Type 0} where
  pub IsEven-without_row : (g : Grid A) (i : ℕ) → i < g.rows → IsEven g → IsEven (without_row g i)
  IsEven-without_row g i h even = grind (arith, common_steps, length-remove, wide_if, nil_from_length, eqb-true, all-remove)

  pub IsEven-with_column : (g : Grid A) (j : ℕ) (column : List A) → j ≤ g.columns → length column ≡ g.rows → IsEven g → IsEven (with_column g j column)
  IsEven-with_column g j column h tall even =
      let long : length (map (λ (p : List A × A). insert p.0 j p.1) (zip g.cells column)) ≡ g.rows = omega (arith, length-map (zip g.cells column) (λ (p : List A × A). insert p.0 j p.1), length-zip g.cells column, even.tall, tall) in
      record {
        tall = long;
        wide = wide_if (eqb g.rows 0) g.columns (g.columns + 1) _
            (λ e. nil_from_length _ (omega (arith, long, eqb-true g.rows 0 e)))
            (all-map (λ (p : List A × A). IsWide g.columns p.0) (IsWide (g.columns + 1)) _ (λ p w. omega (arith, length-insert p.0 j p.1 (omega (arith, w)), w)) _ (all-zip (IsWide g.columns) g.cells column even.wide));
      }

  pub IsEven-with_cell_if : (g : Grid A) (p : Position) (cell : Option A) → IsEven g → IsEven (with_cell_if g p cell)
  IsEven-with_cell_if g p None even = even
  IsEven-with_cell_if g p (Some x) even = IsEven-with_cell g p x even

  pub IsEven-with_cells_swapped : (g : Grid A) (p q : Position) → IsEven g → IsEven (with_cells_swapped g p q)
  IsEven-with_cells_swapped g p q even = IsEven-with_cell_if _ q (cell_at g p) (IsEven-with_cell_if g p (cell_at g q) even)

module _ {A : Type 0} (g : Grid A) where
  -- a grid without rows stays without columns
  pub rowless-with_row : (i : ℕ) (row : List A) → IsEmptyWithoutRows (with_row g i row)
  rowless-with_row i row e = absurd (omega (arith, e))

  pub rowless-with_column : (j : ℕ) (column : List A) → IsEmptyWithoutRows g → IsEmptyWithoutRows (with_column g j column)
  rowless-with_column j column none e = rw e (none e)

  pub rowless-without_row : (i : ℕ) → i < g.rows → IsEmptyWithoutRows (without_row g i)
  rowless-without_row i h e = let last : g.rows ≡ 1 = omega (arith, e, h) in rw last refl

  pub rowless-without_column : (j : ℕ) → IsEmptyWithoutRows g → IsEmptyWithoutRows (without_column g j)
  rowless-without_column j none e = omega (arith, none e)
