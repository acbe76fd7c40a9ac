-- The first lines of a grid.
use Rattle.tabled_grid.proofs.Common.{◌∙◌, ◌≡◌, ◌≤◌, Axis, Bool, Columns, Grid, IsEmptyWithoutRows, IsEven, List, Rows, all-map, all-take, append-nil, ap₂, arith, common_steps, cond, count_along, drop_all, eqb, eqb-true, false, first_along, length, length-map, length-take, length-take-le, map, map-id, ne_eqb, nil_from_length, refl, remove, rules, suc, sym, take, take-take, take_all, true, without_line, zero, ℕ}
use Rattle.tabled_grid.proofs.Along.{each_after, each_agrees, each_same}
use Rattle.tabled_grid.proofs.Resized.{wide_if}

-- without the last of its first ones
remove_last : {X : Type 0} (m : ℕ) (xs : List X) → remove (take (suc m) xs) m ≡ take m xs
remove_last m xs = rw (take-take m (suc m) xs (omega arith), drop_all (suc m) (take (suc m) xs) (omega (arith, length-take (suc m) xs))) (append-nil _)

-- how many columns there are once a row is gone
columns_left : (m columns : ℕ) → cond (eqb (suc m) 1) 0 (cond (eqb (suc m) 0) 0 columns) ≡ cond (eqb m 0) 0 columns
columns_left zero columns = refl
columns_left (suc m) columns = grind (arith, common_steps, ne_eqb)

-- none without rows
pub either_way : (b : Bool) (columns : ℕ) → (b ≡ true → columns ≡ 0) → cond b 0 columns ≡ columns
either_way true columns none = sym (none refl)
either_way false columns none = refl

module _ {A : Type 0} where
  -- all lines
  pub first_all : (axis : Axis) (n : ℕ) (g : Grid A) → n ≡ count_along axis g → IsEven g → IsEmptyWithoutRows g → g ≡ first_along axis n g
  first_all Rows n g e even none = rw (e, either_way (eqb g.rows 0) g.columns (λ is. none (eqb-true g.rows 0 is)), take_all g.rows g.cells (omega (arith, even.tall))) refl
  first_all Columns n g e even none =
      let all : map (take n) g.cells ≡ g.cells = each_agrees g.columns (take n) (λ xs. xs) (λ xs len. take_all n xs (omega (arith, len, e))) g.cells even.wide ∙ map-id g.cells in
      ap₂ (λ (m : ℕ) (rows : List (List A)). let h : Grid A = record { rows = g.rows; columns = m; cells = rows } in h) (sym e) (sym all)

  -- one line fewer
  first_fewer : (axis : Axis) (m : ℕ) (g : Grid A) → without_line axis m (first_along axis (suc m) g) ≡ first_along axis m g
  first_fewer Rows m g = grind (arith, common_steps, remove_last, columns_left)
  first_fewer Columns m g = search (rules, each_after, each_same, remove_last)

  pub first_step : (axis : Axis) (left m : ℕ) (cur new g : Grid A) → cur ≡ first_along axis left g → new ≡ without_line axis m cur → left ≡ suc m → new ≡ first_along axis m g
  first_step axis left m cur new g is removed e = removed ∙ rw (is, e) (first_fewer axis m g)

  pub IsEven-first : (axis : Axis) (n : ℕ) (g : Grid A) → n ≤ count_along axis g → IsEven g → IsEven (first_along axis n g)
  IsEven-first Rows n g h even = grind (arith, common_steps, length-take-le, wide_if, nil_from_length, eqb-true, all-take)
  IsEven-first Columns n g h even = record {
    tall = length-map g.cells _ ∙ even.tall;
    wide = all-map (λ (row : List A). length row ≡ g.columns) (λ (row : List A). length row ≡ n) _ (λ row w. length-take-le n row (omega (arith, w, h))) g.cells even.wide;
  }

  pub rowless-first : (axis : Axis) (n : ℕ) (g : Grid A) → n ≤ count_along axis g → IsEmptyWithoutRows g → IsEmptyWithoutRows (first_along axis n g)
  rowless-first Rows n g h none e = rw e refl
  rowless-first Columns n g h none e = omega (arith, none e, h)
