-- What columns of cells show of their grid.
use Rattle.tabled_grid.proofs.Common.{[], ◌+◌, ◌-◌, ◌<◌, ◌∙◌, ◌≡◌, ◌≢◌, ◌≤◌, All, All-from_recursion, AllZip, AreBlanks, AreWide, Bool, Grid, InsertsBlank, InsertsColumn, InsertsRow, IsEmptyWithoutRows, IsEven, IsInside, List, None, Option, Some, Vec, all-insert, all-remove, all-swap, ap, arith, cell_at, cond, eqb, false, get_or, get_or-set_other, grid_of, if◌then◌else◌, insert, length, length-insert, length-map, length-remove, length-set, length-swap, map, map-insert, map-remove, map-swap, map_items, ne_eqb, place, refl, remove, set, subst, swap, sym, transposed_rows, true, with_cell, with_cell_if, with_cells_swapped, with_column, with_columns_swapped, with_item, with_row, with_rows_swapped, without_column, without_row, zip, ℕ}
use Rattle.std.proofs.lemmas.List.Elements.{recursion_from_All}
use Rattle.std.specs.Prelude.{vec_len}
use Rattle.tabled_grid.proofs.Across.{same_grid}
use Rattle.tabled_grid.proofs.OwnStore.{IsEven-with_cell, IsEven-with_row, IsEven-without_row, blank_column, each_long as each_row_long, row_cell, row_holds, row_written, rowless-without_row}
use Rattle.tabled_grid.proofs.Resized.{IsEven-with_rows_swapped, rowless-with_row}
use Rattle.tabled_grid.proofs.Swaps.{exchanged_in_row, exchanged_in_rows}
use Rattle.tabled_grid.proofs.Transposed.{at-transposed, length-transposed, wide-transposed}
use Rattle.tabled_grid.proofs.Turned.{even_rows, have_width}
use Rattle.tabled_own_store.proofs.TurnedLines.{changed_across, inserted_across, turned_twice, written_across}
use Rattle.tabled_grid.specs.declared.config.position.Position.{Position}
use Rattle.tabled_own_store.specs.Columns.{AreColumns, column_grid}

-- columns whose grid is this one
pub record HaveColumns {A : Type 0} (rows : ℕ) (columns : List (List A)) (g : Grid A) : Type 0 where
  pub well : AreColumns rows columns
  pub is : column_grid rows columns ≡ g

module _ {A : Type 0} where
  -- columns made of the rows of a grid
  made_of_rows : (g : Grid A) (r : ℕ) (columns : List (List A)) → IsEven g → IsEmptyWithoutRows g → r ≡ g.rows → columns ≡ transposed_rows g.columns g.cells → HaveColumns r columns g
  made_of_rows g r columns even none tall is =
      let many : length columns ≡ g.columns = ap length is ∙ length-transposed g.columns g.cells even.wide in
      let long : AreWide r columns = subst (λ (cs : List (List A)). AreWide r cs) (sym is) (subst (λ (n : ℕ). AreWide n (transposed_rows g.columns g.cells)) (even.tall ∙ sym tall) (wide-transposed g.columns g.cells)) in
      record {
        well = record { long = All-from_recursion _ _ long; rowless = λ e. many ∙ none (sym tall ∙ e) };
        is = same_grid r g.rows (length columns) g.columns (transposed_rows r columns) g.cells tall many
            (ap (transposed_rows r) is ∙ turned_twice r g.columns g.cells (even.tall ∙ sym tall) even.wide);
      }

  -- columns that make the rows of a grid
  that_make_rows : (g : Grid A) (r : ℕ) (columns : List (List A)) → AreWide r columns → (r ≡ 0 → length columns ≡ 0) → r ≡ g.rows → length columns ≡ g.columns → transposed_rows r columns ≡ g.cells → HaveColumns r columns g
  that_make_rows g r columns long rowless tall many is = record {
    well = record { long = All-from_recursion _ _ long; rowless = rowless };
    is = same_grid r g.rows (length columns) g.columns (transposed_rows r columns) g.cells tall many is;
  }

module _ {A : Type 0} (r : ℕ) (columns : List (List A)) (h : AreColumns r columns) where
  long : AreWide r columns
  long = recursion_from_All _ _ h.long

  even : IsEven (column_grid r columns)
  even = record { tall = length-transposed r columns long; wide = wide-transposed r columns }

  -- columns are those of their rows
  as_rows : columns ≡ transposed_rows (length columns) (transposed_rows r columns)
  as_rows = sym (turned_twice (length columns) r columns refl long)

  -- rows
  module _ (is_blank : A → Type 0) (i more : ℕ) (new : List (List A)) (within : i ≤ r) (one : more ≡ r + 1) (put : AllZip (InsertsBlank is_blank i) columns new) where
    row_inserted_columns : HaveColumns more new (with_row (column_grid r columns) i (blank_column is_blank i columns new put).column)
    row_inserted_columns =
        let b = blank_column is_blank i columns new put in
        made_of_rows (with_row (column_grid r columns) i b.column) more new (IsEven-with_row (column_grid r columns) even i b.column within b.blanks.many) (rowless-with_row (column_grid r columns) i b.column) one
        (b.is ∙ ap (λ (cs : List (List A)). map (λ (p : List A × A). insert p.0 i p.1) (zip cs b.column)) as_rows ∙ sym (inserted_across (length columns) i (transposed_rows r columns) b.column b.blanks.many even.wide))

    pub row_inserted : InsertsRow is_blank (column_grid r columns) (column_grid more new) i
    row_inserted = let b = blank_column is_blank i columns new put in record { row = b.column; blanks = b.blanks; is = row_inserted_columns.is }

    pub row_inserted_well : AreColumns more new
    row_inserted_well = row_inserted_columns.well

  -- what is changed in each column is changed so among the rows
  row_changed : (f : (X : Type 0) → List X → List X) → ((X Y : Type 0) (g : X → Y) (xs : List X) → map g (f X xs) ≡ f Y (map g xs)) → 0 < r → AreWide (length columns) (f (List A) (transposed_rows r columns)) →
      map (f A) columns ≡ transposed_rows (length columns) (f (List A) (transposed_rows r columns))
  row_changed f by_place some wide = ap (map (f A)) as_rows ∙ sym (changed_across f by_place (length columns) (transposed_rows r columns) (omega (arith, some, even.tall)) even.wide wide)

  pub row_removed : (i : ℕ) (new : List (List A)) → i < r → r - 1 ≢ 0 → new ≡ map (λ (column : List A). remove column i) columns → HaveColumns (r - 1) new (without_row (column_grid r columns) i)
  row_removed i new within some is =
      let several : eqb r 1 ≡ false = ne_eqb r 1 (λ e. some (omega (arith, e))) in
      let wide : AreWide (length columns) (remove (transposed_rows r columns) i) = all-remove (λ (row : List A). length row ≡ length columns) (transposed_rows r columns) i even.wide in
      made_of_rows (without_row (column_grid r columns) i) (r - 1) new (IsEven-without_row (column_grid r columns) i within even) (rowless-without_row (column_grid r columns) i within) refl
      (is ∙ row_changed (λ _ xs. remove xs i) (λ X Y g xs. map-remove g xs i) (omega (arith, within)) wide ∙ ap (λ (b : Bool). transposed_rows (cond b 0 (length columns)) (remove (transposed_rows r columns) i)) (sym several))

  pub rows_swapped : (i k : ℕ) (new : List (List A)) → i < r → new ≡ map (λ (column : List A). swap column i k) columns → HaveColumns r new (with_rows_swapped (column_grid r columns) i k)
  rows_swapped i k new within is =
      made_of_rows (with_rows_swapped (column_grid r columns) i k) r new (IsEven-with_rows_swapped (column_grid r columns) even i k) h.rowless refl
      (is ∙ row_changed (λ _ xs. swap xs i k) (λ X Y g xs. map-swap g xs i k) (omega (arith, within)) (all-swap (λ (row : List A). length row ≡ length columns) (transposed_rows r columns) i k even.wide))

  -- columns
  module _ (j : ℕ) (column : List A) (within : j ≤ length columns) (some : r ≢ 0) (tall : length column ≡ r) where
    column_inserted_columns : HaveColumns r (insert columns j column) (with_column (column_grid r columns) j column)
    column_inserted_columns =
        let several : eqb r 0 ≡ false = ne_eqb r 0 some in
        that_make_rows (with_column (column_grid r columns) j column) r (insert columns j column)
        (all-insert (λ (c : List A). length c ≡ r) columns j column long tall) (λ e. absurd (some e)) refl
        (length-insert columns j column within ∙ ap (λ (b : Bool). cond b (length columns) (length columns + 1)) (sym several))
        (inserted_across r j columns column tall long)

  pub column_inserted : (is_blank : A → Type 0) (j : ℕ) (column : List A) (new : List (List A)) → j ≤ length columns → r ≢ 0 → AreBlanks is_blank r column → new ≡ insert columns j column → InsertsColumn is_blank (column_grid r columns) (column_grid r new) j
  column_inserted is_blank j column new within some blanks is = record { column = column; blanks = blanks; is = rw is (column_inserted_columns j column within some blanks.many).is }

  pub column_removed : (j : ℕ) (new : List (List A)) → j < length columns → new ≡ remove columns j → HaveColumns r new (without_column (column_grid r columns) j)
  column_removed j new within is =
      let wide : AreWide r (remove columns j) = all-remove (λ (c : List A). length c ≡ r) columns j long in
      rw is
      (that_make_rows (without_column (column_grid r columns) j) r (remove columns j) wide (λ e. let none = h.rowless e in absurd (omega (arith, none, within))) refl
      (omega (arith, length-remove columns j within))
      (changed_across (λ _ xs. remove xs j) (λ X Y g xs. map-remove g xs j) r columns (omega (arith, within)) long wide))

  pub columns_swapped : (j k : ℕ) (new : List (List A)) → j < length columns → new ≡ swap columns j k → HaveColumns r new (with_columns_swapped (column_grid r columns) j k)
  columns_swapped j k new within is =
      let wide : AreWide r (swap columns j k) = all-swap (λ (c : List A). length c ≡ r) columns j k long in
      rw is
      (that_make_rows (with_columns_swapped (column_grid r columns) j k) r (swap columns j k) wide (λ e. length-swap columns j k ∙ h.rowless e) refl
      (length-swap columns j k)
      (changed_across (λ _ xs. swap xs j k) (λ X Y g xs. map-swap g xs j k) r columns (omega (arith, within)) long wide))

-- the place in columns
abbrev across : Position → Position
across p = place p.col p.row

module _ {A : Type 0} where
  cell_across : (r : ℕ) (columns : List (List A)) → AreColumns r columns → (p : Position) → cell_at (column_grid r columns) p ≡ cell_at (grid_of columns) (across p)
  cell_across r columns h p = at-transposed r columns p.row p.col (recursion_from_All _ _ h.long)

  -- one cell, and two cells one after the other
  written : (r : ℕ) (columns : List (List A)) → AreColumns r columns → (p : Position) (x : A) → HaveColumns r (set columns p.col (set (get_or columns p.col []) p.row x)) (with_cell (column_grid r columns) p x)
  written r columns h p x =
      let wide : AreWide r columns = recursion_from_All _ _ h.long in
      let new_wide : AreWide r (set columns p.col (set (get_or columns p.col []) p.row x)) = (IsEven-with_cell (record { rows = length columns; columns = r; cells = columns }) (across p) x (record { tall = refl; wide = wide })).wide in
      let many : length (set columns p.col (set (get_or columns p.col []) p.row x)) ≡ length columns = length-set columns p.col _ in
      that_make_rows (with_cell (column_grid r columns) p x) r (set columns p.col (set (get_or columns p.col []) p.row x)) new_wide (λ e. many ∙ h.rowless e) refl many
      (written_across r p.row p.col columns x wide new_wide)

  both_written : (r : ℕ) (columns : List (List A)) → AreColumns r columns → (p q : Position) (y x : Option A) →
      HaveColumns r (with_cell_if (with_cell_if (grid_of columns) (across p) y) (across q) x).cells (with_cell_if (with_cell_if (column_grid r columns) p y) q x)
  both_written r columns h p q None None = record { well = h; is = refl }
  both_written r columns h p q None (Some x) = written r columns h q x
  both_written r columns h p q (Some y) None = written r columns h p y
  both_written r columns h p q (Some y) (Some x) =
      let first = written r columns h p y in
      let columns_then : List (List A) = set columns p.col (set (get_or columns p.col []) p.row y) in
      subst (λ (g : Grid A). HaveColumns r (set columns_then q.col (set (get_or columns_then q.col []) q.row x)) (with_cell g q x)) first.is (written r columns_then first.well q x)

  cells_swapped : (r : ℕ) (columns new : List (List A)) → AreColumns r columns → (p q : Position) → new ≡ (with_cells_swapped (grid_of columns) (across p) (across q)).cells → HaveColumns r new (with_cells_swapped (column_grid r columns) p q)
  cells_swapped r columns new h p q is =
      rw (is, cell_across r columns h p, cell_across r columns h q) (both_written r columns h p q (cell_at (grid_of columns) (across q)) (cell_at (grid_of columns) (across p)))

-- columns in vectors
module _ {A : Type 0} (r : ℕ) (columns : List (Vec A)) (h : AreColumns r (map_items columns)) where
  -- what holds of the number of rows holds of the length of each column
  pub each_long : (P : ℕ → Type 0) → P r → All (λ (column : Vec A). P (vec_len column)) columns
  each_long P holds = each_row_long P r columns (recursion_from_All _ _ h.long) holds

  -- a column is put in, or refused
  pub vectors_inserted_well : (j : ℕ) (column : Vec A) (new : List (Vec A)) (b : Bool) → j ≤ length (map_items columns) → r ≢ 0 → length column.items ≡ r → new ≡ (if b then insert columns j column else columns) → AreColumns r (map_items new)
  vectors_inserted_well j column new true within some tall is =
      rw (ap map_items is ∙ map-insert _ columns j column) (column_inserted_columns r (map_items columns) h j column.items within some tall).well
  vectors_inserted_well j column new false within some tall is = rw is h

  -- the column of a place
  module _ (p : Position) (column : Vec A) (inside : IsInside (column_grid r (map_items columns)) p) (is : column ≡ get_or columns p.col column) where
    some : 0 < length (map_items columns)
    some = omega (arith, inside.col)

    even_columns : IsEven (grid_of (map_items columns))
    even_columns = even_rows r (map_items columns) (recursion_from_All _ _ h.long) some

    inside_columns : IsInside (grid_of (map_items columns)) (across p)
    inside_columns = record { row = inside.col; col = rw (have_width r (map_items columns) (recursion_from_All _ _ h.long) some) inside.row }

    pub column_holds : p.row < vec_len column
    column_holds = row_holds columns (across p) column even_columns inside_columns is

    pub cell_read : (x : A) → x ≡ get_or column.items p.row x → cell_at (column_grid r (map_items columns)) p ≡ Some x
    cell_read x e = cell_across r (map_items columns) h p ∙ row_cell columns (across p) column even_columns inside_columns is x e

    pub cell_written : (x : A) → HaveColumns r (map_items (set columns p.col (with_item column p.row x))) (with_cell (column_grid r (map_items columns)) p x)
    cell_written x = rw (ap (λ (g : Grid A). g.cells) (row_written columns (across p) column even_columns inside_columns is x).is) (written r (map_items columns) h p x)

  -- two cells of one column, or of two
  module _ (p q : Position) (at_p : IsInside (column_grid r (map_items columns)) p) (at_q : IsInside (column_grid r (map_items columns)) q) where
    p_within : p.col < length columns
    p_within = omega (arith, at_p.col, length-map columns (λ (v : Vec A). v.items))

    q_within : q.col < length columns
    q_within = omega (arith, at_q.col, length-map columns (λ (v : Vec A). v.items))

    pub swapped_in_column : (old new : Vec A) → p.col ≡ q.col → old ≡ get_or columns p.col old → new.items ≡ swap old.items p.row q.row → HaveColumns r (map_items (set columns p.col new)) (with_cells_swapped (column_grid r (map_items columns)) p q)
    swapped_in_column old new same is swapped =
        cells_swapped r (map_items columns) (map_items (set columns p.col new)) h p q
        (exchanged_in_row columns (across p) (across q) p_within q_within old new same (each_long (λ n. p.row < n) at_p.row p.col old p_within) (each_long (λ n. q.row < n) at_q.row p.col old p_within) (rw is at swapped))

    -- the column of p is taken out meanwhile
    pub swapped_in_columns : (none first second : Vec A) (a b : A) → p.col ≢ q.col → first ≡ get_or columns p.col first → second ≡ get_or (set columns p.col none) q.col second → a ≡ get_or first.items p.row a → b ≡ get_or second.items q.row b →
        HaveColumns r (map_items (set (set (set columns p.col none) q.col (with_item second q.row a)) p.col (with_item first p.row b))) (with_cells_swapped (column_grid r (map_items columns)) p q)
    swapped_in_columns none first second a b apart is_first is_second is_a is_b =
        let kept : second ≡ get_or columns q.col second = is_second ∙ get_or-set_other columns p.col q.col none second (λ e. apart (sym e)) in
        cells_swapped r (map_items columns) _ h p q
        (exchanged_in_rows columns (across p) (across q) p_within q_within first second none (with_item first p.row b) (with_item second q.row a) a b apart
        (each_long (λ n. p.row < n) at_p.row p.col first p_within) (each_long (λ n. q.row < n) at_q.row q.col second q_within)
        (is_a ∙ ap (λ (v : Vec A). get_or v.items p.row a) is_first) (is_b ∙ ap (λ (v : Vec A). get_or v.items q.row b) kept)
        (ap (λ (v : Vec A). set v.items p.row b) is_first) (ap (λ (v : Vec A). set v.items q.row a) kept))
