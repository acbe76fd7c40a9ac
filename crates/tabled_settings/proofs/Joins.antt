-- Two tables joined: growth, texts, and the way back.
use Rattle.std.proofs.lemmas.Grind.{common_steps}
use Rattle.tabled_settings.proofs.Common.{[], ◌&&◌, ◌+◌, ◌-◌, ◌<◌, ◌∙◌, ◌≡◌, ◌≢◌, ◌≤◌, ◌⊎◌, AddsColumns, AddsRows, Bool, Columns, FillsTo, Grid, GrowsTo, HasBlank, IfSome, IsEmptyWithoutRows, IsEven, IsEven-first, IsEven-with_cell, IsInside, JoinsAt, KeepsPlaces, List, None, Option, Position, Rows, Size, Some, WritesText, added_blank, added_even, added_kept, ap, ap₂, arith, cases_lt, cell_at, cell_at-map_grid, cell_at-map_grid_some, cell_at-with_cell_other, cell_at-with_cell_same, cond, either_way, eqb, eqb-true, false, first_along, if◌then◌else◌, inl, inr, joined_places, le-leb, lt-ltb, ltb-true, map_grid, max, nat_lt, none-some, option_map, place, refl, same_Some, sym, text_put, true, unwrap_or, ℕ}
use Rattle.tabled_grid.proofs.Squares.{wide_enough}
use Rattle.tabled_grid.proofs.Order.{before_or_at}
use Rattle.tabled_grid.specs.Order.{IsBefore}
use Rattle.tabled_settings.proofs.LineReads.{line_first, lines_read}
use Rattle.tabled_settings.proofs.SameCells.{none_outside, same_cells}

-- outside of the second table no text is put
pub none_put : (corner : Position) (second : Grid (List ℕ)) (default : List ℕ) (a b : ℕ) → IsEven second → corner.row ≤ a → corner.col ≤ b → (second.rows ≤ a - corner.row) ⊎ (second.columns ≤ b - corner.col) → None ≡ text_put corner second default a b
none_put corner second default a b even row col outside = grind (arith, common_steps, le-leb, none_outside)

-- the cells of the first table keep their places
pub place_of : (b : Bool) (p q : Position) → (if b then Some p else None) ≡ Some q → p ≡ q
place_of true p q same = same_Some p q same
place_of false p q same = absurd (none-some q same)

pub joined_keeps : {A : Type 0} (corner : Position) (second : Grid A) (rows columns : ℕ) → KeepsPlaces (joined_places corner second rows columns) rows columns
joined_keeps corner second rows columns = grind (arith, common_steps, lt-ltb, place_of)

module _ {A : Type 0} (is_blank : A → Type 0) where
  pub grown_to : (size : Size) (many more : ℕ) (old grown new : Grid A) → IsEven old → old.rows + many ≡ size.height → old.columns + more ≡ size.width → (size.height ≡ 0 → size.width ≡ 0) → AddsRows is_blank many old grown → AddsColumns is_blank more grown new → GrowsTo is_blank size old new
  grown_to size many more old grown new even tall wide none r c = record {
    even = added_even is_blank more grown new grown_even Columns c;
    rows_are = c.rows ∙ high;
    columns_are = columns_are;
    kept = λ a b h k. beside a b (omega (arith, h, high, tall)) (omega (arith, k, broad)) ∙ added_kept is_blank many old grown even Rows a b r h k;
    blanks = λ a b h k outside. blank a b (omega (arith, h, c.rows)) (omega (arith, k, columns_are)) (cases_lt b old.columns) outside;
  }
    where
      grown_even : IsEven grown
      grown_even = added_even is_blank many old grown even Rows r

      high : grown.rows ≡ size.height
      high = ap (λ (h : Grid A). h.rows) r.is ∙ tall

      broad : grown.columns ≡ old.columns
      broad = ap (λ (h : Grid A). h.columns) r.is

      columns_are : new.columns ≡ size.width
      columns_are = c.columns ∙ wide_enough (eqb grown.rows 0) grown.columns more size.width (λ is. let no_rows = eqb-true grown.rows 0 is in let no_columns = none (sym high ∙ no_rows) in omega (arith, no_columns, broad, wide)) (omega (arith, broad, wide))

      beside : (a b : ℕ) → a < grown.rows → b < grown.columns → cell_at new (place a b) ≡ cell_at grown (place a b)
      beside a b h k = added_kept is_blank more grown new grown_even Columns b a c k h

      blank : (a b : ℕ) → a < grown.rows → b < size.width → (b < old.columns) ⊎ (old.columns ≤ b) → (old.rows ≤ a) ⊎ (old.columns ≤ b) → HasBlank is_blank new (place a b)
      blank a b h k (inr right) outside = added_blank is_blank more grown new grown_even Columns b a c (omega (arith, right, broad)) (omega (arith, k, broad, wide)) h
      blank a b h k (inl left) (inr right) = absurd (omega (arith, left, right))
      blank a b h k (inl left) (inl low) =
          let cell = added_blank is_blank many old grown even Rows a b r low (omega (arith, h, high, tall)) left in
          (cell.0, cell.1, beside a b h (omega (arith, left, broad)) ∙ cell.2)

module _ {A : Type 0} (text_of : A → List ℕ) (want : ℕ → ℕ → Option (List ℕ)) (rows columns : ℕ) where
  module _ (old now : Grid A) (i j : ℕ) (f : FillsTo text_of want rows columns i j old now) where
    -- one place more, where no text is wanted
    pub fills_over : want i j ≡ None → FillsTo text_of want rows columns i (j + 1) old now
    fills_over none = record {
      even = f.even;
      rows_are = f.rows_are;
      columns_are = f.columns_are;
      kept = f.kept;
      unwritten = f.unwritten;
      done = λ a b k outside before text is. elim (before_or_at i j (place a b) before) [
        | inl earlier ↦ f.done a b k outside earlier text is
        | inr same ↦ absurd (none-some text (sym none ∙ sym (ap (λ (p : Position). want p.row p.col) same) ∙ is))
      ];
    }

    -- one text more
    pub fills_more : (new : Grid A) (text : List ℕ) → i < now.rows → j < now.columns → (rows ≤ i) ⊎ (columns ≤ j) → want i j ≡ Some text → WritesText text_of now new (place i j) text → FillsTo text_of want rows columns i (j + 1) old new
    fills_more new text row col out wants w = record {
      even = rw w.is (IsEven-with_cell now (place i j) w.cell f.even);
      rows_are = ap (λ (g : Grid A). g.rows) w.is ∙ f.rows_are;
      columns_are = ap (λ (g : Grid A). g.columns) w.is ∙ f.columns_are;
      kept = λ a b h k. elsewhere a b (apart a b h k out) ∙ f.kept a b h k;
      unwritten = λ a b none. elsewhere a b (unwanted a b none) ∙ f.unwritten a b none;
      done = λ a b k outside before t is. elim (before_or_at i j (place a b) before) [
        | inl earlier ↦ texts a b (later a b earlier) ∙ f.done a b (omega (arith, k, ap (λ (g : Grid A). g.columns) w.is)) outside earlier t is
        | inr same ↦ ap (cell_at (map_grid text_of new)) same ∙ here ∙ sym (ap (λ (p : Position). want p.row p.col) same) ∙ is
      ];
    }
      where
        elsewhere : (a b : ℕ) → place a b ≢ place i j → cell_at new (place a b) ≡ cell_at now (place a b)
        elsewhere a b off = ap (λ (g : Grid A). cell_at g (place a b)) w.is ∙ cell_at-with_cell_other now (place i j) (place a b) w.cell off

        texts : (a b : ℕ) → place a b ≢ place i j → cell_at (map_grid text_of new) (place a b) ≡ cell_at (map_grid text_of now) (place a b)
        texts a b off = cell_at-map_grid text_of new (place a b) ∙ ap (option_map text_of) (elsewhere a b off) ∙ sym (cell_at-map_grid text_of now (place a b))

        apart : (a b : ℕ) → a < rows → b < columns → (rows ≤ i) ⊎ (columns ≤ j) → place a b ≢ place i j
        apart a b h k (inl low) is = let at = ap (λ (p : Position). p.row) is in absurd (omega (arith, at, h, low))
        apart a b h k (inr right) is = let at = ap (λ (p : Position). p.col) is in absurd (omega (arith, at, k, right))

        later : (a b : ℕ) → IsBefore (place a b) (place i j) → place a b ≢ place i j
        later a b (inl less) is = let at = ap (λ (p : Position). p.row) is in absurd (omega (arith, at, less))
        later a b (inr (row, less)) is = let at = ap (λ (p : Position). p.col) is in absurd (omega (arith, at, less))

        unwanted : (a b : ℕ) → want a b ≡ None → place a b ≢ place i j
        unwanted a b none is = absurd (none-some text (sym none ∙ ap (λ (p : Position). want p.row p.col) is ∙ wants))

        here : cell_at (map_grid text_of new) (place i j) ≡ want i j
        here =
            let inside : IsInside now (place i j) = record { row = row; col = col } in
            cell_at-map_grid_some text_of new (place i j) w.cell (ap (λ (g : Grid A). cell_at g (place i j)) w.is ∙ cell_at-with_cell_same now (place i j) w.cell f.even inside) ∙ ap Some w.has ∙ sym wants

module _ {A : Type 0} (is_blank : A → Type 0) (text_of : A → List ℕ) (corner : Position) (second : Grid (List ℕ)) (default : List ℕ) (rows columns : ℕ) (size : Size) (old grown new : Grid A) (rows_are : rows ≡ old.rows) (columns_are : columns ≡ old.columns) where
  stays : (a b : ℕ) → (a < old.rows → b < old.columns → cell_at new (place a b) ≡ cell_at old (place a b)) → IfSome (cond (nat_lt a old.rows && nat_lt b old.columns) (Some (place a b)) None) (λ (q : Position). cell_at new (place a b) ≡ cell_at old q)
  stays a b same = grind (arith, common_steps, ltb-true)

  pub join_done : (i : ℕ) → ((cell : A) → is_blank cell → text_of cell ≡ []) → size.height ≡ max old.rows (corner.row + second.rows) → size.width ≡ max old.columns (corner.col + second.columns) → i ≡ grown.rows → GrowsTo is_blank size old grown → FillsTo text_of (text_put corner second default) rows columns i 0 grown new → JoinsAt is_blank text_of corner second default old new
  join_done i empty tall wide all g f = record {
    first = record {
      even = f.even;
      rows = f.rows_are ∙ g.rows_are ∙ tall;
      columns = f.columns_are ∙ g.columns_are ∙ wide;
      moved = λ p inside. stays p.row p.col (λ h k. f.kept p.row p.col (omega (arith, rows_are, h)) (omega (arith, columns_are, k)) ∙ g.kept p.row p.col h k);
    };
    others = λ a b h k outside. text a b h k outside (text_put corner second default a b) refl;
    blanks = blank;
  }
    where
      blank : (a b : ℕ) → a < new.rows → b < new.columns → (old.rows ≤ a) ⊎ (old.columns ≤ b) → text_put corner second default a b ≡ None → HasBlank is_blank new (place a b)
      blank a b h k outside none =
          let cell = g.blanks a b (omega (arith, h, f.rows_are)) (omega (arith, k, f.columns_are)) outside in
          (cell.0, cell.1, f.unwritten a b none ∙ cell.2)

      text : (a b : ℕ) → a < new.rows → b < new.columns → (old.rows ≤ a) ⊎ (old.columns ≤ b) → (put : Option (List ℕ)) → text_put corner second default a b ≡ put → cell_at (map_grid text_of new) (place a b) ≡ Some (unwrap_or put [])
      text a b h k outside None none =
          let cell = blank a b h k outside none in
          cell_at-map_grid_some text_of new (place a b) cell.0 cell.2 ∙ ap Some (empty cell.0 cell.1)
      text a b h k outside (Some t) some = f.done a b k (rw (← rows_are, ← columns_are) at outside) (inl (omega (arith, h, f.rows_are, all))) t some

  -- the new lines taken away again
  pub join_undone : (i j : ℕ) (want : ℕ → ℕ → Option (List ℕ)) (narrow short : Grid A) → IsEven old → IsEmptyWithoutRows old → old.rows ≤ size.height → old.columns ≤ size.width → GrowsTo is_blank size old grown → FillsTo text_of want rows columns i j grown new →
      narrow ≡ first_along Columns columns new → short ≡ first_along Rows rows narrow → short ≡ old
  join_undone i j want narrow short even none taller wider g f cut_columns cut_rows =
      let narrow_even : IsEven narrow = rw cut_columns (IsEven-first Columns columns new (omega (arith, wider, columns_are, f.columns_are, g.columns_are)) f.even) in
      let narrow_rows : narrow.rows ≡ new.rows = ap (λ (h : Grid A). h.rows) cut_columns in
      let narrow_columns : narrow.columns ≡ columns = ap (λ (h : Grid A). h.columns) cut_columns in
      let short_even : IsEven short = rw cut_rows (IsEven-first Rows rows narrow (omega (arith, taller, rows_are, narrow_rows, f.rows_are, g.rows_are)) narrow_even) in
      let short_rows : short.rows ≡ rows = ap (λ (h : Grid A). h.rows) cut_rows in
      let across = lines_read Columns (λ k. k) narrow.rows narrow.columns new narrow narrow_even refl refl (λ k h. line_first Columns new narrow columns k f.even (omega (arith, h, narrow_columns)) cut_columns) in
      let down = lines_read Rows (λ k. k) short.rows short.columns narrow short short_even refl refl (λ k h. line_first Rows narrow short rows k narrow_even (omega (arith, h, short_rows)) cut_rows) in
      let short_columns : short.columns ≡ old.columns =
      ap (λ (h : Grid A). h.columns) cut_rows ∙ ap₂ (λ (r c : ℕ). cond (eqb r 0) 0 c) rows_are (narrow_columns ∙ columns_are) ∙ either_way (eqb old.rows 0) old.columns (λ is. none (eqb-true old.rows 0 is)) in
      same_cells short old short_even even (short_rows ∙ rows_are) short_columns
      (λ a b h k.
      down.moved (place a b) (record { row = omega (arith, h, short_rows, rows_are); col = omega (arith, k, short_columns) })
      ∙ across.moved (place a b) (record { row = omega (arith, h, narrow_rows, f.rows_are, g.rows_are, taller); col = omega (arith, k, narrow_columns, columns_are) })
      ∙ f.kept a b (omega (arith, h, rows_are)) (omega (arith, k, columns_are))
      ∙ g.kept a b h k)
