-- The algorithm for forming a table, run over the columns of a row of a tiled table.
use Rattle.std.proofs.Common.{◌≡◌, ◌+◌, ◌-◌, ◌<◌, ◌≤◌, ◌⊎◌, ◌++◌, ◌∙◌, ℕ, Bool, true, false, [], ◌∷◌, add-one, ap, ap₂, append-nil, arith, cond, eqb, eqb-true, fold, inl, inr, map, max, refl, subst, suc, sym, zero}
use Rattle.std.proofs.lemmas.Bool.{and_from, and_parts, eq-eqb, cases_Bool, cases_eq, cases_lt, cond-false, cond-true, false≢true, false_from_ne_true, or_from}
use Rattle.tabled_html_reading.specs.Areas.{Area, In, InRow, IsOutside, Tiles, begins, begun, cell_in, elements_at, seen, series}
use Rattle.tabled_html_reading.specs.Forming.{Cell, Covered, Forming, cells_at, first_free, has_slot, is_any, is_covered, place_cell, process_cell}
use Rattle.tabled_html_reading.specs.Elements.{Element}
use Rattle.tabled_html_reading.proofs.Slots.{before-here, before-in, before-more, before-next, before-same, cells-then, first_free-to, fold-then, process-is, raised-ge, raised-le, slot-from, slot-in, any-none}

module _ (columns rows : ℕ) (own : ℕ → ℕ → Area) (element : Area → Element) (tiles : Tiles columns rows own element) where
  pub first-in : (x y : ℕ) → x < columns → y < rows → In (own x y) (own x y).x (own x y).y
  first-in x y h k = let i = tiles.holds x y h k in record { left = omega arith; right = omega (arith, i.left, i.right); top = omega arith; bottom = omega (arith, i.top, i.bottom) }

  pub own-first : (x y : ℕ) → x < columns → y < rows → own (own x y).x (own x y).y ≡ own x y
  own-first x y h k =
      let f = first-in x y h k in
      tiles.shared x y (own x y).x (own x y).y h k (omega (arith, f.right, tiles.across x y h k)) (omega (arith, f.bottom, tiles.down x y h k)) f

  own-at : (x y i j : ℕ) → x < columns → y < rows → (own x y).x ≡ j → (own x y).y ≡ i → own j i ≡ own x y
  own-at x y i j h k col row = sym (ap₂ own col row) ∙ own-first x y h k

  module _ (i j : ℕ) (f : Forming) (low : i < rows) (far : j < columns) (s : InRow columns rows own element i j f) where
    -- a slot whose area began before
    pub hidden-step : ((own j i).x ≡ j → (own j i).y ≡ i → ⊥) → InRow columns rows own element i (j + 1) f
    hidden-step other = record {
      slots = λ x y h k. s.slots x y h k ∙ ap (λ b. cond b (cell_in element (own x y) ∷ []) []) (sym (same x y h k));
      outside = s.outside;
      growing = s.growing;
      apart = s.apart;
      at = s.at;
      low = s.low;
      high = s.high;
      wide = s.wide;
      reach = λ x y h k b. s.reach x y h k (sym (same x y h k) ∙ b);
      behind = λ k more less. begun-behind k more less (cases_eq k j);
      ahead = λ k more less. before-more i j (own k i).x (own k i).y (s.ahead k (omega (arith, more)) less);
      reached = s.reached;
    }
      where
        same : (x y : ℕ) → x < columns → y < rows → begun own i (j + 1) x y ≡ begun own i j x y
        same x y h k = before-same i j (own x y).x (own x y).y (λ col row. (let e = own-at x y i j h k col row in other (ap (λ (a : Area). a.x) e ∙ col) (ap (λ (a : Area). a.y) e ∙ row)))

        here : begun own i j j i ≡ true
        here = let h = tiles.holds j i far low in before-in i j (own j i).x (own j i).y h.left h.top other

        begun-behind : (k : ℕ) → f.xcurrent ≤ k → k < j + 1 → (k ≡ j) ⊎ (k ≡ j → ⊥) → begun own i (j + 1) k i ≡ true
        begun-behind k more less (inl e) = before-more i j (own k i).x (own k i).y (ap (λ n. begun own i j n i) e ∙ here)
        begun-behind k more less (inr apart) = before-more i j (own k i).x (own k i).y (s.behind k more (omega (arith, less, apart)))

    -- a slot whose area begins there
    module _ (col : (own j i).x ≡ j) (row : (own j i).y ≡ i) where
      holds : In (own j i) j i
      holds = tiles.holds j i far low

      free : is_covered f.covered j i ≡ false
      free = ap is_any (s.slots j i far low ∙ cond-false _ _ _ (before-here i j (own j i).x (own j i).y col row))

      not-past : f.xcurrent ≤ j
      not-past = elim (cases_lt j f.xcurrent) [
        | inl less ↦ absurd (false≢true (sym (before-here i j (own j i).x (own j i).y col row) ∙ s.ahead j (omega arith) less))
        | inr more ↦ more
      ]

      within : j ≤ f.xwidth
      within = elim (cases_lt f.xcurrent j) [
        | inl less ↦ (let last = s.reach (j - 1) i (omega (arith, far)) low (s.behind (j - 1) (omega (arith, less)) (omega (arith, less))) in omega (arith, last))
        | inr more ↦ (let at = s.reached in omega (arith, at, more))
      ]

      full : (k : ℕ) → f.xcurrent ≤ k → k < j → is_covered f.covered k f.ycurrent ≡ true
      full k more less = ap (is_covered f.covered k) s.at ∙ ap is_any (s.slots k i (omega (arith, less, far)) low ∙ cond-true _ _ _ (s.behind k more less))

      found : first_free f.covered f.ycurrent (f.xwidth - f.xcurrent) f.xcurrent ≡ j
      found = first_free-to f.covered f.ycurrent (f.xwidth - f.xcurrent) f.xcurrent j not-past (omega (arith, within, not-past)) full (ap (is_covered f.covered j) s.at ∙ free)

      processed : process_cell f (element (own j i)) ≡ place_cell (element (own j i)) (own j i).width (own j i).height false (record f { xcurrent = j })
      processed = process-is f (element (own j i)) (own j i).width (own j i).height j (tiles.wide j i far low) (tiles.high j i far low) (λ e. omega (arith, e, holds.top, holds.bottom)) found

      abbrev new : Covered
      new = record { cell = record { x = j; y = f.ycurrent; element = element (own j i) }; x = j; y = f.ycurrent; width = (own j i).width; height = (own j i).height }

      -- the slots that the new cell covers are those of its area
      new-in : (x y : ℕ) → has_slot x y new ≡ true → In (own j i) x y
      new-in x y has = let h = slot-in new x y has in let at = s.at in record { left = omega (arith, h, col); right = omega (arith, h, col); top = omega (arith, h, row, at); bottom = omega (arith, h, row, at) }

      new-from : (x y : ℕ) → In (own j i) x y → has_slot x y new ≡ true
      new-from x y h = let at = s.at in slot-from new x y (omega (arith, h.top, row, at)) (omega (arith, h.bottom, row, at)) (omega (arith, h.left, col)) (omega (arith, h.right, col))

      owned : (x y : ℕ) → x < columns → y < rows → In (own j i) x y → own x y ≡ own j i
      owned x y h k inside = tiles.shared j i x y far low h k inside

      not-begun : (x y : ℕ) → x < columns → y < rows → In (own j i) x y → begun own i j x y ≡ false
      not-begun x y h k inside = let e = owned x y h k inside in before-here i j (own x y).x (own x y).y (ap (λ (a : Area). a.x) e ∙ col) (ap (λ (a : Area). a.y) e ∙ row)

      now-begun : (x y : ℕ) → x < columns → y < rows → In (own j i) x y → begun own i (j + 1) x y ≡ true
      now-begun x y h k inside = let e = owned x y h k inside in before-next i j (own x y).x (own x y).y (ap (λ (a : Area). a.x) e ∙ col) (ap (λ (a : Area). a.y) e ∙ row)

      same : (x y : ℕ) → x < columns → y < rows → has_slot x y new ≡ false → begun own i (j + 1) x y ≡ begun own i j x y
      same x y h k out = before-same i j (own x y).x (own x y).y (λ c r. false≢true (sym out ∙ new-from x y (let P : Area → Type 0 = λ a. In a x y in subst P (sym (own-at x y i j h k c r)) (tiles.holds x y h k))))

      empty : (x y : ℕ) → x < columns → y < rows → In (own j i) x y → cells_at f.covered x y ≡ []
      empty x y h k inside = s.slots x y h k ∙ cond-false _ _ _ (not-begun x y h k inside)

      slots : (x y : ℕ) → x < columns → y < rows → cells_at (f.covered ++ (new ∷ [])) x y ≡ seen own element i (j + 1) x y
      slots x y h k = cells-then f.covered (new ∷ []) x y ∙ of-slot (cases_Bool (has_slot x y new))
        where
          alone : (b : Bool) → has_slot x y new ≡ b → cells_at (new ∷ []) x y ≡ map (λ (c : Covered). c.cell) (cond b (new ∷ []) [])
          alone b e = ap (λ b. map (λ (c : Covered). c.cell) (cond b (new ∷ []) [])) e

          of-slot : (has_slot x y new ≡ true) ⊎ (has_slot x y new ≡ false) → cells_at f.covered x y ++ cells_at (new ∷ []) x y ≡ seen own element i (j + 1) x y
          of-slot (inl t) =
              let inside = new-in x y t in
              let cell : new.cell ≡ cell_in element (own j i) = ap₂ (λ x y. let c : Cell = record { x = x; y = y; element = element (own j i) } in c) (sym col) (s.at ∙ sym row) in
              ap₂ (λ cs ds. cs ++ ds) (empty x y h k inside) (alone true t)
              ∙ ap (λ c. c ∷ []) (cell ∙ ap (cell_in element) (sym (owned x y h k inside)))
              ∙ sym (cond-true _ _ _ (now-begun x y h k inside))
          of-slot (inr out) =
              ap (λ ds. cells_at f.covered x y ++ ds) (alone false out) ∙ append-nil (cells_at f.covered x y) ∙ s.slots x y h k
              ∙ ap (λ b. cond b (cell_in element (own x y) ∷ []) []) (sym (same x y h k out))

      outside : (x y : ℕ) → IsOutside columns rows x y → cells_at (f.covered ++ (new ∷ [])) x y ≡ []
      outside x y out =
          cells-then f.covered (new ∷ []) x y
          ∙ ap₂ (λ cs ds. cs ++ ds) (s.outside x y out) (ap (λ b. map (λ (c : Covered). c.cell) (cond b (new ∷ []) [])) (false_from_ne_true (has_slot x y new) (λ t. never out (new-in x y t))))
        where
          never : IsOutside columns rows x y → In (own j i) x y → ⊥
          never (inl past) inside = omega (arith, past, inside.right, tiles.across j i far low)
          never (inr below) inside = omega (arith, below, inside.bottom, tiles.down j i far low)

      reach : (x y : ℕ) → x < columns → y < rows → begun own i (j + 1) x y ≡ true → x < max (cond (eqb j f.xwidth) (f.xwidth + 1) f.xwidth) (j + (own j i).width)
      reach x y h k b = elim (cases_Bool (has_slot x y new)) [
        | inl t ↦ (let inside = new-in x y t in omega (arith, inside.right, col))
        | inr out ↦ (let less = s.reach x y h k (sym (same x y h k out) ∙ b) in let more = raised-ge j f.xwidth in omega (arith, less, more))
      ]

      clear : (y x : ℕ) → y < (own j i).height → x < (own j i).width → is_covered f.covered (j + x) (f.ycurrent + y) ≡ false
      clear y x down along =
          let across = tiles.across j i far low in
          let below = tiles.down j i far low in
          let at = s.at in
          ap is_any (empty (j + x) (f.ycurrent + y) (omega (arith, across, col, along)) (omega (arith, below, row, at, down)) (record { left = omega (arith, col); right = omega (arith, col, along); top = omega (arith, row, at); bottom = omega (arith, row, at, down) }))

      begin-placed : InRow columns rows own element i (j + 1) (place_cell (element (own j i)) (own j i).width (own j i).height false (record f { xcurrent = j }))
      begin-placed =
          let across = tiles.across j i far low in
          let below = tiles.down j i far low in
          let at = s.at in
          let lower = s.low in
          let higher = s.high in
          let most = raised-le j f.xwidth columns far s.wide in
          record {
            slots = slots;
            outside = outside;
            growing = s.growing;
            apart = or_from _ _ s.apart (any-none (own j i).height _ (λ y down. any-none (own j i).width _ (λ x along. clear y x down along)));
            at = s.at;
            low = omega (arith, lower);
            high = omega (arith, higher, below, row, at);
            wide = omega (arith, most, across, col);
            reach = reach;
            behind = λ k more less. absurd (omega (arith, more, less, holds.left, holds.right));
            ahead = λ k more less. now-begun k i (omega (arith, less, across, col)) low (record { left = omega (arith, more, col); right = omega (arith, less, col); top = omega (arith, row); bottom = holds.bottom });
            reached = omega arith;
          }

      pub begin-step : InRow columns rows own element i (j + 1) (process_cell f (element (own j i)))
      begin-step = let P : Forming → Type 0 = λ g. InRow columns rows own element i (j + 1) g in subst P (sym processed) begin-placed

    pub step : InRow columns rows own element i (j + 1) (fold process_cell f (elements_at own element i j))
    step = of-beginning (begins own j i) refl
      where
        of-beginning : (b : Bool) → begins own j i ≡ b → InRow columns rows own element i (j + 1) (fold process_cell f (cond b (element (own j i) ∷ []) []))
        of-beginning true e = let parts = and_parts _ _ e in begin-step (eqb-true _ _ parts.0) (eqb-true _ _ parts.1)
        of-beginning false e = hidden-step (λ col row. false≢true (sym e ∙ and_from _ _ (eq-eqb _ _ col) (eq-eqb _ _ row)))

  pub columns-done : (n i : ℕ) (f : Forming) → n ≤ columns → i < rows → InRow columns rows own element i 0 f → InRow columns rows own element i n (fold process_cell f (series n (elements_at own element i)))
  columns-done zero i f most low s = s
  columns-done (suc n) i f most low s =
      let P : Forming → Type 0 = λ g. InRow columns rows own element i (suc n) g in
      let Q : ℕ → Type 0 = λ k. InRow columns rows own element i k (fold process_cell (fold process_cell f (series n (elements_at own element i))) (elements_at own element i n)) in
      subst P (sym (fold-then process_cell f (series n (elements_at own element i)) (elements_at own element i n)))
      (subst Q (add-one n) (step i n (fold process_cell f (series n (elements_at own element i))) low (omega arith) (columns-done n i f (omega arith) low s)))
