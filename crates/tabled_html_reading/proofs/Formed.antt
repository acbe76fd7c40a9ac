-- The table that the algorithm forms of the rows of a tiled table.
use Rattle.std.proofs.Common.{◌≡◌, ◌+◌, ◌-◌, ◌<◌, ◌≤◌, ◌==◌, ◌&&◌, ◌||◌, ◌⊎◌, ◌∙◌, ℕ, Bool, true, false, [], ◌∷◌, ap, ap₂, arith, fold, inl, inr, not, refl, subst, suc, sym, zero}
use Rattle.std.proofs.lemmas.Bool.{cases_eq, cases_lt, cond-false, cond-true, false≢true}
use Rattle.std.proofs.lemmas.Bool.Decides.{nat_tests}
use Rattle.std.specs.List.{list_any}
use Rattle.tabled_html_reading.specs.Areas.{Area, Between, IsOutside, IsTiled, Tiles, begins, begun, cell_in, is_before, lacks_beginnings, rows_between, seen, EndWithin, as_body, as_head_and_body}
use Rattle.tabled_html_reading.specs.Forming.{Cell, Forming, any_below, begin_table, forming_a_table, cells_at, end_row_group, is_anchored, lacks_anchors, process_group, process_row}
use Rattle.tabled_html_reading.specs.Elements.{Element}
use Rattle.tabled_html_reading.proofs.Columns.{first-in, own-first}
use Rattle.tabled_html_reading.proofs.Rows.{rows-done, table-begins}
use Rattle.tabled_html_reading.proofs.Slots.{before-all}

any-same : (n : ℕ) (f g : ℕ → Bool) → ((k : ℕ) → k < n → f k ≡ g k) → any_below n f ≡ any_below n g
any-same zero f g same = refl
any-same (suc n) f g same = ap₂ (λ a b. a || b) (any-same n f g (λ k less. same k (omega (arith, less)))) (same n (omega arith))

-- rows and columns without anchors are those without beginnings
anchors-are : (columns rows : ℕ) (own : ℕ → ℕ → Area) (element : Area → Element) (f : Forming) → f.xwidth ≡ columns → f.ywidth ≡ rows → ((x y : ℕ) → x < columns → y < rows → cells_at f.covered x y ≡ cell_in element (own x y) ∷ []) → lacks_anchors f ≡ lacks_beginnings columns rows own
anchors-are columns rows own element f across down slots =
    ap₂ (λ w h. any_below h (λ y. not (any_below w (λ x. is_anchored f x y))) || any_below w (λ x. not (any_below h (λ y. is_anchored f x y)))) across down
    ∙ ap₂ (λ a b. a || b)
    (any-same rows _ _ (λ y k. ap not (any-same columns _ _ (λ x h. here x y h k))))
    (any-same columns _ _ (λ x h. ap not (any-same rows _ _ (λ y k. here x y h k))))
  where
    here : (x y : ℕ) → x < columns → y < rows → is_anchored f x y ≡ begins own x y
    here x y h k = ap (list_any (λ (c : Cell). (c.x == x) && (c.y == y))) (slots x y h k) ∙ or-false (begins own x y)
      where
        or-false : (b : Bool) → (b || false) ≡ b
        or-false true = refl
        or-false false = refl

-- once all rows are processed the table is the tiled one
module _ (columns rows : ℕ) (own : ℕ → ℕ → Area) (element : Area → Element) (none : rows ≡ 0 → columns ≡ 0) (tiles : Tiles columns rows own element) (f : Forming) (s : Between columns rows own element rows f) where
  all-begun : (x y : ℕ) → x < columns → y < rows → begun own rows 0 x y ≡ true
  all-begun x y h k = let i = tiles.holds x y h k in before-all rows 0 (own x y).x (own x y).y (omega (arith, i.top, k))

  all-slots : (x y : ℕ) → x < columns → y < rows → cells_at f.covered x y ≡ cell_in element (own x y) ∷ []
  all-slots x y h k = s.slots x y h k ∙ cond-true _ _ _ (all-begun x y h k)

  all-across : f.xwidth ≡ columns
  all-across = of-columns (cases_eq columns 0)
    where
      some-rows : (columns ≡ 0 → ⊥) → (rows ≡ 0) ⊎ (rows ≡ 0 → ⊥) → 0 < rows
      some-rows some (inl e) = absurd (some (none e))
      some-rows some (inr more) = omega (arith, more)

      of-columns : (columns ≡ 0) ⊎ (columns ≡ 0 → ⊥) → f.xwidth ≡ columns
      of-columns (inl e) = let wide = s.wide in omega (arith, wide, e)
      of-columns (inr some) =
          let rows_some : 0 < rows = some-rows some (cases_eq rows 0) in
          let last = s.reach (columns - 1) 0 (omega (arith, some)) rows_some (all-begun (columns - 1) 0 (omega (arith, some)) rows_some) in
          let wide = s.wide in
          omega (arith, wide, last, some)

  all-formed : IsTiled columns rows own element (end_row_group (f.ywidth - f.ycurrent) f)
  all-formed =
      let P : ℕ → Type 0 = λ n. IsTiled columns rows own element (end_row_group n f) in
      let lower = s.low in
      let higher = s.high in
      let at = s.at in
      let over : 0 ≡ f.ywidth - f.ycurrent = omega (arith, lower, higher, at) in
      let down : f.ywidth ≡ rows = omega (arith, lower, higher) in
      subst P over (record {
        across = all-across;
        down = down;
        apart = s.apart;
        slots = all-slots;
        outside = s.outside;
        anchors = anchors-are columns rows own element (record f { growing = [] }) all-across down all-slots;
      })

pub body-formed : (columns rows : ℕ) (own : ℕ → ℕ → Area) (element : Area → Element) → (rows ≡ 0 → columns ≡ 0) → Tiles columns rows own element → IsTiled columns rows own element (forming_a_table (as_body columns rows own element))
unfolding forming_a_table
body-formed columns rows own element none tiles =
    all-formed columns rows own element none tiles (fold process_row begin_table (rows_between columns own element 0 rows))
    (let Q : ℕ → Type 0 = λ k. Between columns rows own element k (fold process_row begin_table (rows_between columns own element 0 rows)) in let same : 0 + rows ≡ rows = omega arith in
    subst Q same (rows-done columns rows own element tiles 0 rows begin_table (omega arith) (table-begins columns rows own element tiles)))

-- ---- a head whose areas end in it

module _ (columns rows : ℕ) (own : ℕ → ℕ → Area) (element : Area → Element) (tiles : Tiles columns rows own element) (head : ℕ) (part : head ≤ rows) (ends : EndWithin columns own head) where
  -- its rows are tiled by themselves
  head-tiles : Tiles columns head own element
  head-tiles = record {
    holds = λ x y h k. tiles.holds x y h (omega (arith, k));
    shared = λ x y u v h k h' k' i. tiles.shared x y u v h (omega (arith, k)) h' (omega (arith, k')) i;
    across = λ x y h k. tiles.across x y h (omega (arith, k));
    down = ends;
    wide = λ x y h k. tiles.wide x y h (omega (arith, k));
    high = λ x y h k. tiles.high x y h (omega (arith, k));
  }

  -- no area of another row begins in it
  begins-below : (x y : ℕ) → x < columns → y < rows → head ≤ y → begun own head 0 x y ≡ false
  begins-below x y h k below = before-not head (own x y).x (own x y).y (from-row (cases_lt (own x y).y head))
    where
      before-not : (i u v : ℕ) → i ≤ v → is_before i 0 u v ≡ false
      before-not i u v after = grind (arith, nat_tests)

      from-row : ((own x y).y < head) ⊎ (head ≤ (own x y).y) → head ≤ (own x y).y
      from-row (inr after) = after
      from-row (inl within) =
          let i = first-in columns rows own element tiles x y h k in
          let e = own-first columns rows own element tiles x y h k in
          let end = ends (own x y).x (own x y).y (omega (arith, i.right, tiles.across x y h k)) within in
          let bottom = tiles.holds x y h k in
          let same : (own (own x y).x (own x y).y).y + (own (own x y).x (own x y).y).height ≡ (own x y).y + (own x y).height = ap (λ (a : Area). a.y + a.height) e in
          absurd (omega (arith, end, same, bottom.bottom, below))

  -- a table that is formed up to its end is one that is formed up to there
  head-between : (f : Forming) → Between columns head own element head f → Between columns rows own element head f
  head-between f s = record {
    slots = λ x y h k. of-slot x y h k (cases_lt y head);
    outside = λ x y out. s.outside x y (outside-too x y out);
    growing = s.growing;
    apart = s.apart;
    at = s.at;
    low = s.low;
    high = let high = s.high in omega (arith, high);
    wide = s.wide;
    reach = λ x y h k b. of-reach x y h k b (cases_lt y head);
  }
    where
      of-slot : (x y : ℕ) → x < columns → y < rows → (y < head) ⊎ (head ≤ y) → cells_at f.covered x y ≡ seen own element head 0 x y
      of-slot x y h k (inl within) = s.slots x y h within
      of-slot x y h k (inr below) = s.outside x y (inr below) ∙ sym (cond-false _ _ _ (begins-below x y h k below))

      outside-too : (x y : ℕ) → IsOutside columns rows x y → IsOutside columns head x y
      outside-too x y (inl right) = inl right
      outside-too x y (inr below) = inr (omega (arith, below))

      of-reach : (x y : ℕ) → x < columns → y < rows → begun own head 0 x y ≡ true → (y < head) ⊎ (head ≤ y) → x < f.xwidth
      of-reach x y h k b (inl within) = s.reach x y h within b
      of-reach x y h k b (inr below) = absurd (false≢true (sym (begins-below x y h k below) ∙ b))

  head-formed : Between columns rows own element head (process_group begin_table (rows_between columns own element 0 head))
  head-formed =
      let f : Forming = fold process_row begin_table (rows_between columns own element 0 head) in
      let Q : ℕ → Type 0 = λ k. Between columns head own element k f in
      let same : 0 + head ≡ head = omega arith in
      let s : Between columns head own element head f = subst Q same (rows-done columns head own element head-tiles 0 head begin_table (omega arith) (table-begins columns head own element head-tiles)) in
      let lower = s.low in
      let higher = s.high in
      let at = s.at in
      let over : 0 ≡ f.ywidth - f.ycurrent = omega (arith, lower, higher, at) in
      let P : ℕ → Type 0 = λ n. Between columns rows own element head (end_row_group n f) in
      let b = head-between f s in
      subst P over (record { slots = b.slots; outside = b.outside; growing = refl; apart = b.apart; at = b.at; low = b.low; high = b.high; wide = b.wide; reach = b.reach })

  pub head-and-body-formed : (rows ≡ 0 → columns ≡ 0) → IsTiled columns rows own element (forming_a_table (as_head_and_body columns rows own element head))
  unfolding forming_a_table
  head-and-body-formed none =
      let f : Forming = process_group begin_table (rows_between columns own element 0 head) in
      let g : Forming = fold process_row f (rows_between columns own element head (rows - head)) in
      let Q : ℕ → Type 0 = λ k. Between columns rows own element k g in
      let same : head + (rows - head) ≡ rows = omega (arith, part) in
      all-formed columns rows own element none tiles g (subst Q same (rows-done columns rows own element tiles head (rows - head) f (omega (arith, part)) head-formed))
