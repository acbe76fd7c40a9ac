-- Going through the cells of a rectangle, row by row.
use Rattle.tabled_carry.proofs.Common.{◌*◌, ◌+◌, ◌-◌, ◌<◌, ◌^◌, ◌∙◌, ◌≡◌, ◌≤◌, ◌⊎◌, Around, Between, Carries, HasArea, In, IsBefore, Places, Position, Rectangle, Takes, ap, ap₂, arith, before_or_at, cells_in, common_steps, holds, inl, inr, length, max, min, place, rectangle, sized, subst, sym, ℕ}
use Rattle.tabled_carry.proofs.Pigeonhole.{Once, length-block, once-block, paired}
use Rattle.tabled_carry.proofs.RectanglesCarried.{cell_from, cell_in, same_cells, takes_one}

pub walked : (e : Rectangle) (i j : ℕ) (q : Position) → place i j ≡ q → (r : Position) → In e r × IsBefore r (place i (j + 1)) → (In e r × IsBefore r (place i j)) ⊎ (r ≡ q)
walked e i j q at r h = grind (arith, common_steps, before_or_at)

-- no cell comes before the first one
none_before : (e : Rectangle) (i j : ℕ) → i ≡ e.first.row → j ≡ e.first.col → (r : Position) → In e r → IsBefore r (place i j) → ⊥
none_before e i j row col r h (inl b) = omega (arith, h.top, row, b)
none_before e i j row col r h (inr b) = omega (arith, h.left, col, b.1)

pub first_walked : (e : Rectangle) (i j : ℕ) (q : Position) → place i j ≡ q → (i ≡ e.first.row) × (j ≡ e.first.col) → (r : Position) → In e r × IsBefore r (place i (j + 1)) → r ≡ q
first_walked e i j q at first r h = grind (arith, common_steps, walked, none_before)

once-cells : (f : Rectangle) → Once (cells_in f)
once-cells f = once-block f.first.row (f.first.row + f.size.height) f.first.col (f.first.col + f.size.width)

length-cells : (f : Rectangle) → length (cells_in f) ≡ f.size.height * f.size.width
length-cells f = length-block f.first.row (f.first.row + f.size.height) f.first.col (f.first.col + f.size.width) ∙ ap₂ (λ n m. n * m) (omega arith) (omega arith)

module _ (places : Places) (e : Rectangle) where
  -- where all cells go to a rectangle that has no more, each of its cells comes from one of them
  filled : (f : Rectangle) → ((q : Position) → In e q → (p : Position) × In f p × Takes places p q) → (length (cells_in e) ≤ length (cells_in f)) × (length (cells_in f) ≤ length (cells_in e) → (p : Position) → In f p → (q : Position) × In e q × Takes places p q)
  filled f to =
      let all = paired (λ q p. Takes places p q) (λ q r p. takes_one places p q r) (cells_in e) (cells_in f) (once-cells e) (λ q m. let t = to q (cell_in places e q m) in (t.0, cell_from places f t.0 t.1, t.2)) in
      (all.0, λ few p h. let t = all.1 few p (cell_from places f p h) in (t.0, cell_in places e t.0 t.1, t.2))

  -- one cell more, and its place
  pub around-more : (some more : Position → Type 0) (first last q p : Position) → ((r : Position) → more r → some r ⊎ (r ≡ q)) → Takes places p q → ((m : Position) → Takes places m q → m ≡ p) → In e q → p.row + 1 < 2 ^ 64 → p.col + 1 < 2 ^ 64 → Around places e some first last →
      Around places e more (place (min first.row p.row) (min first.col p.col)) (place (max last.row p.row) (max last.col p.col))
  around-more some more first last q p to takes one inside row col a = record { each = each; least = least; order = record { top = omega arith; bottom = omega (arith, a.order.bottom); left = omega arith; right = omega (arith, a.order.right) }; row = omega (arith, row, a.row); col = omega (arith, col, a.col) }
    where
      around : (r : Position) → some r ⊎ (r ≡ q) → (n : Position) × Takes places n r × Between (place (min first.row p.row) (min first.col p.col)) (place (max last.row p.row) (max last.col p.col)) n × ((m : Position) → Takes places m r → m ≡ n)
      around r (inl h) = let t = a.each r h in (t.0, t.1, record { top = omega (arith, t.2.top); bottom = omega (arith, t.2.bottom); left = omega (arith, t.2.left); right = omega (arith, t.2.right) }, t.3)
      around r (inr same) = (p, subst (λ x. Takes places p x) (sym same) takes, record { top = omega arith; bottom = omega arith; left = omega arith; right = omega arith }, λ m t. one m (subst (λ x. Takes places m x) same t))

      each : (r : Position) → more r → (n : Position) × Takes places n r × Between (place (min first.row p.row) (min first.col p.col)) (place (max last.row p.row) (max last.col p.col)) n × ((m : Position) → Takes places m r → m ≡ n)
      each r h = around r (to r h)

      least : (g : Rectangle) → ((n r : Position) → Takes places n r → In e r → In g n) → In g (place (min first.row p.row) (min first.col p.col)) × In g (place (max last.row p.row) (max last.col p.col))
      least g holds =
          let l = a.least g holds in
          let m = holds p q takes inside in (
            record { top = omega (arith, l.0.top, m.top); bottom = omega (arith, l.0.bottom, m.bottom); left = omega (arith, l.0.left, m.left); right = omega (arith, l.0.right, m.right) },
            record { top = omega (arith, l.1.top, m.top); bottom = omega (arith, l.1.bottom, m.bottom); left = omega (arith, l.1.left, m.left); right = omega (arith, l.1.right, m.right) },
          )

  -- the place of one cell alone
  pub around-one : (one : Position → Type 0) (q p : Position) → ((r : Position) → one r → r ≡ q) → Takes places p q → ((m : Position) → Takes places m q → m ≡ p) → In e q → p.row + 1 < 2 ^ 64 → p.col + 1 < 2 ^ 64 → Around places e one p p
  around-one one q p to takes only inside row col = record { each = each; least = λ g holds. (holds p q takes inside, holds p q takes inside); order = record { top = omega arith; bottom = omega arith; left = omega arith; right = omega arith }; row = row; col = col }
    where
      each : (r : Position) → one r → (n : Position) × Takes places n r × Between p p n × ((m : Position) → Takes places m r → m ≡ n)
      each r h =
          let same = to r h in
          (p, subst (λ x. Takes places p x) (sym same) takes, record { top = omega arith; bottom = omega arith; left = omega arith; right = omega arith }, λ m t. only m (subst (λ x. Takes places m x) same t))

  -- corners around the new places of all cells, and the rectangle between them
  module _ (first last : Position) (a : Around places e (In e) first last) where
    abbrev between : Rectangle
    between = rectangle first (sized (last.row - first.row + 1) (last.col - first.col + 1))

    -- which is the image, where it has as many cells as the old rectangle
    pub between-carries : (last.row - first.row + 1) * (last.col - first.col + 1) ≡ e.size.height * e.size.width → Carries places e (rectangle first (sized (last.row - first.row + 1) (last.col - first.col + 1)))
    between-carries many = record { all = λ q h. let t = a.each q h in (t.0, t.1); only = only; from = from }
      where
        only : (p q : Position) → Takes places p q → In e q → In (rectangle first (sized (last.row - first.row + 1) (last.col - first.col + 1))) p
        only p q t h =
            let n = a.each q h in
            let row : p.row ≡ n.0.row = ap (λ (x : Position). x.row) (n.3 p t) in
            let col : p.col ≡ n.0.col = ap (λ (x : Position). x.col) (n.3 p t) in
            record { top = omega (arith, row, n.2.top); bottom = omega (arith, row, n.2.top, n.2.bottom); left = omega (arith, col, n.2.left); right = omega (arith, col, n.2.left, n.2.right) }

        from : (p : Position) → In (rectangle first (sized (last.row - first.row + 1) (last.col - first.col + 1))) p → (q : Position) × In e q × Takes places p q
        from p h =
            (filled between (λ q m. let t = a.each q m in (t.0, only t.0 q t.1 m, t.1))).1 (omega (arith, length-cells e, length-cells between, many)) p h

    -- and the image is no other rectangle
    pub between-one : (g : Rectangle) → Carries places e g → HasArea g → (rectangle first (sized (last.row - first.row + 1) (last.col - first.col + 1))) ≡ g
    between-one g c full = same_cells between g (record { height = omega arith; width = omega arith }) full to back
      where
        to : (p : Position) → In (rectangle first (sized (last.row - first.row + 1) (last.col - first.col + 1))) p → In g p
        to p h =
            let l = a.least g c.only in
            record { top = omega (arith, l.0.top, h.top); bottom = omega (arith, l.1.bottom, h.bottom, a.order.bottom); left = omega (arith, l.0.left, h.left); right = omega (arith, l.1.right, h.right, a.order.right) }

        back : (p : Position) → In g p → In (rectangle first (sized (last.row - first.row + 1) (last.col - first.col + 1))) p
        back p h =
            let q = c.from p h in
            let n = a.each q.0 q.1 in
            let row : p.row ≡ n.0.row = ap (λ (x : Position). x.row) (n.3 p q.2) in
            let col : p.col ≡ n.0.col = ap (λ (x : Position). x.col) (n.3 p q.2) in
            record { top = omega (arith, row, n.2.top); bottom = omega (arith, row, n.2.top, n.2.bottom); left = omega (arith, col, n.2.left); right = omega (arith, col, n.2.left, n.2.right) }

    -- and has as many cells
    pub carried-many : (g : Rectangle) → Carries places e g → HasArea g → (last.row - first.row + 1) * (last.col - first.col + 1) ≡ e.size.height * e.size.width
    carried-many g c full =
        let one : between ≡ g = between-one g c full in
        let to = (filled g (λ q m. let t = c.all q m in (t.0, c.only t.0 q t.1 m, t.1))).0 in
        let back = (paired (λ p q. In e q × Takes places p q) (λ p r q s t. let n = a.each q s.0 in n.3 p s.1 ∙ sym (n.3 r t.1)) (cells_in g) (cells_in e) (once-cells g) (λ p m. let t = c.from p (cell_in places g p m) in (t.0, cell_from places e t.0 t.1, (t.1, t.2)))).0 in
        let as_many : length (cells_in g) ≡ length (cells_in e) = omega (arith, to, back) in
        sym (length-cells between) ∙ ap (λ (f : Rectangle). length (cells_in f)) one ∙ as_many ∙ length-cells e
