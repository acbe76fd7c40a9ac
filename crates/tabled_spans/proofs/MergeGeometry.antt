-- Rectangles lie well after runs are merged where they did before, and a second merge finds no runs.
use Rattle.tabled_spans.proofs.Common.{◌+◌, ◌-◌, ◌<◌, ◌∙◌, ◌≡◌, ◌≤◌, ◌⊎◌, Axis, Columns, Entity, Fits, Grid, In, IsInside, IsRun, IsSpan, LiesInside, List, MergesRuns, Position, Rows, Size, Some, SpanMap, and_parts, ap, ap₂, arith, cases_lt, eqb-true, further, get, inl, inr, is_free, place, rectangle, same_Some, size_at, size_at-some, size_of_run, span_at, subst, sym, true, visible, ℕ}
use Rattle.tabled_spans.proofs.Runs.{further_more, further_none}

-- a place of a run's rectangle is n cells from its first
cell_of : (axis : Axis) (a p : Position) (many : ℕ) → In (rectangle a (size_of_run axis many)) p → (k : ℕ) × (k < many) × (p ≡ further axis k a)
cell_of Rows a p many h = (p.row - a.row, omega (arith, h.top, h.bottom), ap₂ place (omega (arith, h.top)) (omega (arith, h.left, h.right)))
cell_of Columns a p many h = (p.col - a.col, omega (arith, h.left, h.right), ap₂ place (omega (arith, h.top, h.bottom)) (omega (arith, h.left)))

further_back : (axis : Axis) (a b : Position) (k l : ℕ) → further axis k a ≡ further axis l b → k ≤ l → a ≡ further axis (l - k) b
further_back Rows a b k l e h = ap₂ place (omega (arith, h, ap (λ (x : Position). x.row) e)) (ap (λ (x : Position). x.col) e)
further_back Columns a b k l e h = ap₂ place (ap (λ (x : Position). x.row) e) (omega (arith, h, ap (λ (x : Position). x.col) e))

module _ (axis : Axis) (entity : Entity) (g : Grid (List ℕ)) (m : SpanMap) where
  pub record FreeCell (p : Position) : Type 0 where
    pub inside : IsInside g p
    pub free : is_free m p ≡ true

  -- each cell of a run is visible and no anchor
  pub run_cell : (a : Position) (many k : ℕ) → IsRun axis entity g m a many → k < many → FreeCell (further axis k a)
  run_cell a many k run h = elim (cases_lt (k + 1) many) [
    | inl l ↦ let j = run.joins k l in record { inside = j.here.inside; free = j.free }
    | inr l ↦
        let some : 2 ≤ many = run.some in
        let j = run.joins (k - 1) (omega (arith, some)) in
        let is : further axis 1 (further axis (k - 1) a) ≡ further axis k a = further_more axis (k - 1) k a (omega (arith, some)) in
        subst FreeCell is (record { inside = j.next.inside; free = j.next_free })
  ]

  -- no run begins inside of another
  ahead : (a b : Position) (many n k l : ℕ) → IsRun axis entity g m a many → IsRun axis entity g m b n → l < n → k < l → further axis k a ≡ further axis l b → ⊥
  ahead a b many n k l first second within before e =
      let at : a ≡ further axis (l - k) b = further_back axis a b k l e (omega arith) in
      let step : further axis 1 (further axis (l - k - 1) b) ≡ further axis (l - k) b = further_more axis (l - k - 1) (l - k) b (omega arith) in
      first.begins (further axis (l - k - 1) b) (step ∙ sym at) (second.joins (l - k - 1) (omega arith))

  same_first : (a b p : Position) (many n : ℕ) → IsRun axis entity g m a many → IsRun axis entity g m b n → In (rectangle a (size_of_run axis many)) p → In (rectangle b (size_of_run axis n)) p → a ≡ b
  same_first a b p many n first second ha hb = same_anchor (cell_of axis a p many ha) (cell_of axis b p n hb)
    where
      same_anchor : (k : ℕ) × (k < many) × (p ≡ further axis k a) → (l : ℕ) × (l < n) × (p ≡ further axis l b) → a ≡ b
      same_anchor (k, h, is) (l, i, js) = same_offset (cases_lt k l) (cases_lt l k)
        where
          same_offset : (k < l) ⊎ (l ≤ k) → (l < k) ⊎ (k ≤ l) → a ≡ b
          same_offset (inl x) c = absurd (ahead a b many n k l first second i x (sym is ∙ js))
          same_offset (inr x) (inl y) = absurd (ahead b a n many l k second first h y (sym js ∙ is))
          same_offset (inr x) (inr y) = further_back axis a b k l (sym is ∙ js) y ∙ ap (λ d. further axis d b) (omega arith) ∙ further_none axis b

  -- an old rectangle holds no cell of a run
  no_old : (rows columns : ℕ) (a b p : Position) (many : ℕ) (t : Size) → Fits m rows columns → IsRun axis entity g m a many → get m b ≡ Some t → In (rectangle a (size_of_run axis many)) p → In (rectangle b t) p → ⊥
  no_old rows columns a b p many t fits run has ha hb =
      let at = cell_of axis a p many ha in
      let parts = and_parts _ _ (subst (λ x. is_free m x ≡ true) (sym at.2) (run_cell a many at.0 run at.1).free) in
      let ones = and_parts _ _ parts.1 in
      let same : b ≡ p = visible m p parts.0 b (rw (size_at-some m b t has) hb) in
      let size : size_at m p ≡ t = size_at-some m p t (subst (λ x. get m x ≡ Some t) same has) in
      one t (span_at m b t has) (sym (ap (λ (s : Size). s.height) size) ∙ eqb-true _ _ ones.0) (sym (ap (λ (s : Size). s.width) size) ∙ eqb-true _ _ ones.1)
    where
      one : (s : Size) → IsSpan s → s.height ≡ 1 → s.width ≡ 1 → ⊥
      one s is e f = elim is.merges [ inl h ↦ omega (arith, h, e) | inr h ↦ omega (arith, h, f) ]

  run_inside : (a : Position) (many : ℕ) → IsRun axis entity g m a many → LiesInside g.rows g.columns (rectangle a (size_of_run axis many))
  run_inside a many run = ends_inside axis (run_cell a many (many - 1) run (omega (arith, run.some))).inside
    where
      ends_inside : (x : Axis) → IsInside g (further x (many - 1) a) → LiesInside g.rows g.columns (rectangle a (size_of_run x many))
      ends_inside Rows h = record { bottom = omega (arith, h.row, run.some); right = omega (arith, h.col) }
      ends_inside Columns h = record { bottom = omega (arith, h.row); right = omega (arith, h.col, run.some) }

  module _ (n : SpanMap) (merged : MergesRuns axis entity g m n) (fits : Fits m g.rows g.columns) where
    -- an anchor is that of a run, or an old one
    data Anchored (a : Position) (s : Size) : Type 0 where
      of_run : (many : ℕ) → IsRun axis entity g m a many → s ≡ size_of_run axis many → Anchored a s
      of_old : get m a ≡ Some s → Anchored a s

    anchor : (a : Position) (s : Size) → get n a ≡ Some s → Anchored a s
    anchor a s has = elim (merged.each a) [
      | inl run ↦ of_run run.0 run.1 (same_Some s (size_of_run axis run.0) (sym has ∙ run.2))
      | inr old ↦ of_old (sym old.1 ∙ has)
    ]

    pub fits_merged : Fits n g.rows g.columns
    fits_merged = record {
      each = λ e has. record {
        inside = inside e.first e.size (anchor e.first e.size has);
        alone = λ f p had i j. alone e.first f.first e.size f.size p i j (anchor e.first e.size has) (anchor f.first f.size had);
      };
    }
      where
        inside : (a : Position) (s : Size) → Anchored a s → LiesInside g.rows g.columns (rectangle a s)
        inside a s (of_run many run e) = rw e (run_inside a many run)
        inside a s (of_old has) = (fits.each (rectangle a s) has).inside

        alone : (a b : Position) (s t : Size) (p : Position) → In (rectangle a s) p → In (rectangle b t) p → Anchored a s → Anchored b t → a ≡ b
        alone a b s t p ha hb (of_run many run e) (of_run k other f) = same_first a b p many k run other (rw e at ha) (rw f at hb)
        alone a b s t p ha hb (of_run many run e) (of_old has) = absurd (no_old g.rows g.columns a b p many t fits run has (rw e at ha) hb)
        alone a b s t p ha hb (of_old has) (of_run many run e) = absurd (no_old g.rows g.columns b a p many s fits run has (rw e at hb) ha)
        alone a b s t p ha hb (of_old has) (of_old had) = (fits.each (rectangle a s) has).alone (rectangle b t) p had ha hb
