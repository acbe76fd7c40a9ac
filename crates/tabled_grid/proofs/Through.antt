-- Cells moved from one grid to another one of blanks, through a map of places.
use Rattle.tabled_grid.proofs.Common.{[], ◌*◌, ◌+◌, ◌<◌, ◌∙◌, ◌∷◌, ◌≡◌, ◌≢◌, ◌⊎◌, All-from_recursion, AllByRecursion, AreBlanks, Exchanges, Grid, IfSome, IsBefore, IsEven, IsFrom, IsInside, List, None, Option, Places, Position, Some, TakesOnce, Within, all-drop, all-take, ap, arith, cell_at, chunks, common_steps, drop, grid_of, inl, inr, length, length-drop, length-take-le, none-some, place, refl, same_Some, subst, suc, sym, width_of, zero, ℕ}
use Rattle.tabled_grid.proofs.AddedLines.{blank_at}
use Rattle.tabled_grid.proofs.AddedRows.{wide_blanks}
use Rattle.tabled_grid.proofs.Geometry.{cases_place}
use Rattle.tabled_grid.proofs.Grids.{IsEven-with_cell, cell_at-with_cell_other, cell_at-with_cell_same}
use Rattle.tabled_grid.proofs.Order.{before_first, before_or_at}

-- the cells of the new places before one, row by row, have come there; the others have not moved yet, and where no cell has come there is a blank
pub record MovesThrough {A : Type 0} (is_blank : A → Type 0) (places : Places) (i j : ℕ) (old now new : Grid A) : Type 0 where
  pub now_even : IsEven now
  pub now_rows : now.rows ≡ old.rows
  pub now_columns : now.columns ≡ old.columns
  pub even : IsEven new
  pub rows : new.rows ≡ places.size.height
  pub columns : new.columns ≡ places.size.width
  pub done : (p q : Position) → Within places p → IsBefore p (place i j) → places.old_place p ≡ Some q → cell_at new p ≡ cell_at old q
  pub left : (p q : Position) → Within places p → IsFrom p (place i j) → places.old_place p ≡ Some q → cell_at now q ≡ cell_at old q
  pub blank : (p : Position) → Within places p → IsFrom p (place i j) ⊎ (places.old_place p ≡ None) → (c : A) × is_blank c × (cell_at new p ≡ Some c)

if_some : (o : Option Position) (P : Position → Type 0) → ((q : Position) → o ≡ Some q → P q) → IfSome o P
if_some None P h = tt
if_some (Some q) P h = h q refl

earlier : (p : Position) (i j next : ℕ) → next ≡ j + 1 → IsBefore p (place i next) → p ≢ place i j → IsBefore p (place i j)
earlier p i j next e before off = elim (before_or_at i j p (rw e at before)) [ inl b ↦ b | inr same ↦ absurd (off same) ]

later : (p : Position) (i j next : ℕ) → next ≡ j + 1 → IsFrom p (place i next) → IsFrom p (place i j)
later p i j next e (inl more) = inl more
later p i j next e (inr (at, from)) = inr (at, omega (arith, from, e))

off_place : (p : Position) (i j next : ℕ) → next ≡ j + 1 → IsFrom p (place i next) → p ≢ place i j
off_place p i j next e (inl more) same = let row = ap (λ (p : Position). p.row) same in absurd (omega (arith, row, more))
off_place p i j next e (inr (at, from)) same = let col = ap (λ (p : Position). p.col) same in absurd (omega (arith, col, from, e))

-- rows of blanks cut out of a list
pub blank_chunks : {A : Type 0} (is_blank : A → Type 0) (r c : ℕ) (xs : List A) → length xs ≡ r * c → AllByRecursion is_blank xs → AllByRecursion (AreBlanks is_blank c) (chunks r c xs)
blank_chunks is_blank zero c xs long all = tt
blank_chunks is_blank (suc r) c xs long all = (
  record { blank = all-take is_blank c xs all; many = length-take-le c xs (omega (arith, long)) },
  blank_chunks is_blank r c (drop c xs) (omega (arith, long, length-drop c xs)) (all-drop is_blank c xs all),
)

-- a cell of rows of blanks
pub blank_cell : {A : Type 0} (is_blank : A → Type 0) (columns : ℕ) (g : Grid A) (p : Position) → IsEven g → AllByRecursion (AreBlanks is_blank columns) g.cells → p.row < g.rows → p.col < columns → (c : A) × is_blank c × (cell_at g p ≡ Some c)
blank_cell is_blank columns g p even blanks row col = grind (arith, common_steps, All-from_recursion, blank_at)

module _ {A : Type 0} (is_blank : A → Type 0) (places : Places) (old : Grid A) where
  pub through_none : (columns : ℕ) (new : Grid A) → IsEven old → IsEven new → new.rows ≡ places.size.height → new.columns ≡ columns → columns ≡ places.size.width → AllByRecursion (AreBlanks is_blank columns) new.cells → MovesThrough is_blank places 0 0 old old new
  through_none columns new old_even even rows columns_are same blanks = record {
    now_even = old_even;
    now_rows = refl;
    now_columns = refl;
    even = even;
    rows = rows;
    columns = columns_are ∙ same;
    done = λ p q w before is. absurd (before_first p before);
    left = λ p q w after is. refl;
    blank = λ p w after. blank_cell is_blank columns new p even blanks (omega (arith, rows, w.row)) (omega (arith, same, w.col));
  }

  module _ (i j next : ℕ) (e : next ≡ j + 1) (now new : Grid A) (m : MovesThrough is_blank places i j old now new) where
    -- no cell comes to a place
    pub through_gap : places.old_place (place i j) ≡ None → MovesThrough is_blank places i next old now new
    through_gap gap = grind (arith, common_steps, earlier, none-some, later)

    -- a cell comes to its place
    module _ (from : Position) (t : TakesOnce places old) (here : Within places (place i j)) (takes : places.old_place (place i j) ≡ Some from) where
      pub from_inside : IsInside now from
      from_inside = let at = t.inside (place i j) from here takes in record { row = omega (arith, at.row, m.now_rows); col = omega (arith, at.col, m.now_columns) }

      pub to_inside : IsInside new (place i j)
      to_inside = record { row = omega (arith, here.row, m.rows); col = omega (arith, here.col, m.columns) }

      pub through_cell : (new_now new_new : Grid A) → Exchanges from (place i j) now new_now new new_new → MovesThrough is_blank places i next old new_now new_new
      through_cell new_now new_new x = record {
        now_even = rw x.is_here (IsEven-with_cell now from x.there m.now_even);
        now_rows = ap (λ (g : Grid A). g.rows) x.is_here ∙ m.now_rows;
        now_columns = ap (λ (g : Grid A). g.columns) x.is_here ∙ m.now_columns;
        even = rw x.is_there (IsEven-with_cell new (place i j) x.here m.even);
        rows = ap (λ (g : Grid A). g.rows) x.is_there ∙ m.rows;
        columns = ap (λ (g : Grid A). g.columns) x.is_there ∙ m.columns;
        done = λ p q w before is. done p q w before is (cases_place p (place i j));
        left = λ p q w after is. left p q w after is;
        blank = λ p w which. blank p w which;
      }
        where
          kept : (p : Position) → p ≢ place i j → cell_at new_new p ≡ cell_at new p
          kept p off = ap (λ (g : Grid A). cell_at g p) x.is_there ∙ cell_at-with_cell_other new (place i j) p x.here off

          done : (p q : Position) → Within places p → IsBefore p (place i next) → places.old_place p ≡ Some q → (p ≡ place i j) ⊎ (p ≢ place i j) → cell_at new_new p ≡ cell_at old q
          done p q w before is (inl same) =
              let old_is : from ≡ q = same_Some from q (sym takes ∙ ap places.old_place (sym same) ∙ is) in
              ap (cell_at new_new) same
              ∙ ap (λ (g : Grid A). cell_at g (place i j)) x.is_there
              ∙ cell_at-with_cell_same new (place i j) x.here m.even to_inside
              ∙ sym x.was_here
              ∙ m.left (place i j) from here (inr (refl, omega arith)) takes
              ∙ ap (cell_at old) old_is
          done p q w before is (inr off) = kept p off ∙ m.done p q w (earlier p i j next e before off) is

          left : (p q : Position) → Within places p → IsFrom p (place i next) → places.old_place p ≡ Some q → cell_at new_now q ≡ cell_at old q
          left p q w after is =
              let off : q ≢ from = λ same. off_place p i j next e after (t.apart p (place i j) q w here is (takes ∙ ap Some (sym same))) in
              ap (λ (g : Grid A). cell_at g q) x.is_here
              ∙ cell_at-with_cell_other now from q x.there off
              ∙ m.left p q w (later p i j next e after) is

          blank : (p : Position) → Within places p → IsFrom p (place i next) ⊎ (places.old_place p ≡ None) → (c : A) × is_blank c × (cell_at new_new p ≡ Some c)
          blank p w (inl after) = let c = m.blank p w (inl (later p i j next e after)) in (c.0, c.1, kept p (off_place p i j next e after) ∙ c.2)
          blank p w (inr none) = let c = m.blank p w (inr none) in (c.0, c.1, kept p (λ same. none-some from (sym none ∙ ap places.old_place same ∙ takes)) ∙ c.2)

-- rows of blanks are a grid
pub blank_rows : {A : Type 0} (is_blank : A → Type 0) (columns : ℕ) (cells : List (List A)) → 0 < length cells → AllByRecursion (AreBlanks is_blank columns) cells → IsEven (grid_of cells) × (width_of cells ≡ columns)
blank_rows {A} is_blank columns cells some blanks = (record { tall = refl; wide = subst (λ (n : ℕ). AllByRecursion (λ (row : List A). length row ≡ n) cells) (sym (width cells some blanks)) (wide_blanks is_blank columns cells blanks) }, width cells some blanks)
  where
    width : (rows : List (List A)) → 0 < length rows → AllByRecursion (AreBlanks is_blank columns) rows → width_of rows ≡ columns
    width [] h all = absurd (omega (arith, h))
    width (row ∷ rows) h all = all.0.many
