-- Columns are as wide, and rows as high, as what they show asks.
use Rattle.tabled_grid.specs.Order.{is_before}
use Rattle.tabled_draw.proofs.Common.{ASCII, Alignment, AllByRecursion, AreEdges, AreNoLargerThanAsked, Columns, Fits, Grid, List, Measured, Member, Option, Plan, Position, Rectangle, Rows, Size, Some, SpanMap, Style, [], across, and_from, ap, ap₂, arith, asks, border, by_number, cases_Bool, cases_eq, cases_lt, cell_at, cond, cond-false, cond-true, count_along, each, eqb, ext_get_or, fold, fold-append, get_or, get_or-replicate, get_or-set_other, get_or-set_same, get_or_past, grown_for, grown_sizes, in_order, inl, inr, lacking, largest, least, length, length-replicate, length-set, line_of, line_size, lines_in, map_grid, max, most_asked, nat_tests, own, own_sizes, owner_in, pad, place, place_in, plan_of, raised, rectangles, refl, replicate, room, same_place, same_place-self, set, share, sized, start_of, subst, suc, sym, take, take_more, takes, text_of_cell, text_width, true, unwrap_or, zero, ℕ, ◌+◌, ◌-◌, ◌<◌, ◌∙◌, ◌∷◌, ◌≡◌, ◌≢◌, ◌≤◌, ◌⊎◌}
use Rattle.tabled_draw.proofs.Each.{get-singles, length-singles}
use Rattle.tabled_draw.proofs.Order.{all-of, member-ordered, ordered-member}
use Rattle.tabled_draw.proofs.Widths.{columns-nil}
use Rattle.tabled_draw.proofs.Shares.{Larger, get-grown, grown-enough, grown-larger, larger-trans, room-larger, room-one, room-span, room-without, share-low, share-outside, span, span-larger, start-more}
use Rattle.tabled_draw.proofs.Before.{after-next, before-from, before-next, before-none, before-row, cases_before, after-from, here-next}
use Rattle.tabled_draw.proofs.Owned.{member-at}
use Rattle.tabled_grid.proofs.Owners.{AnchorsFit, anchor-lies, anchors-fit, owned}
use Rattle.tabled_grid.proofs.Owners.Owned.{alone, held}
use Rattle.tabled_draw.specs.Sizes.{sizes}
use Rattle.tabled_grid.proofs.PiecePlaces.{place_is}
use Rattle.tabled_grid.specs.declared.records.axis.Axis.{Axis}
use Rattle.tabled_grid.specs.Rectangles.{HasArea, LiesInside}

largest-least : (low : ℕ) (f : ℕ → ℕ) (n i : ℕ) → i < n → f i ≤ largest low n f
largest-least low f zero i h = absurd (omega arith)
largest-least low f (suc n) i h = grind (arith, nat_tests, largest-least low f n i)

-- no number is below that which is among them
pub largest-low : (low : ℕ) (f : ℕ → ℕ) (n : ℕ) → low ≤ largest low n f
largest-low low f zero = omega arith
largest-low low f (suc n) = omega (arith, largest-low low f n)

-- ---- by axis

one_line : (axis : Axis) → lines_in axis (sized 1 1) ≡ 1
one_line axis = grind (arith, nat_tests)

-- what lies in a table has rows and columns of it
pub lies-along : {A : Type 0} (axis : Axis) (g : Grid A) (e : Rectangle) → HasArea e → LiesInside g.rows g.columns e → (1 ≤ lines_in axis e.size) × (line_of axis e.first + lines_in axis e.size ≤ count_along axis g)
lies-along axis g e h1 h2 = grind (arith, nat_tests)

own-size : Axis → Grid (List ℕ) → List Rectangle → ℕ → ℕ
own-size axis g es k = largest (least axis) (count_along (across axis) g) (λ i. own axis g es (place_in axis k i))

pub length-own : (axis : Axis) (g : Grid (List ℕ)) (es : List Rectangle) → length (own_sizes axis g es) ≡ count_along axis g
unfolding own-size
length-own axis g es = length-singles (own-size axis g es) (count_along axis g)

module _ (axis : Axis) (style : Style) (g : Grid (List ℕ)) where
  -- where a merged cell begins, how much it takes, and what its text asks
  abbrev begin : Rectangle → ℕ
  begin e = line_of axis e.first

  abbrev count : Rectangle → ℕ
  count e = lines_in axis e.size

  abbrev need : Rectangle → ℕ
  need e = asks axis (text_of_cell g e.first)

  -- the sizes of lines, and sizes that have grown for a merged cell
  abbrev drawn : ℕ → ℕ
  drawn k = border axis style g k

  abbrev grow : List ℕ → Rectangle → List ℕ
  grow s e = grown_for axis style g s e

  -- the room that sizes give a merged cell
  abbrev room_for : List ℕ → Rectangle → ℕ
  room_for s e = room axis drawn s (begin e) (count e)

  larger-for : (s : List ℕ) (e : Rectangle) → Larger s (grow s e)
  larger-for s e = grown-larger axis drawn s (begin e) (count e) (need e)

  fold-larger : (es : List Rectangle) (s : List ℕ) → Larger s (fold grow s es)
  fold-larger [] s = record { long = refl; each = λ k. omega arith }
  fold-larger (e ∷ es) s = larger-trans s (grow s e) (fold grow (grow s e) es) (larger-for s e) (fold-larger es (grow s e))

  -- these take rows or columns of some sizes
  LieAmong : List ℕ → List Rectangle → Type 0
  LieAmong s es = (e : Rectangle) → Member e es → (1 ≤ count e) × (begin e + count e ≤ length s)

  lie-later : (s : List ℕ) (x : Rectangle) (es : List Rectangle) → LieAmong s (x ∷ es) → LieAmong (grow s x) es
  unfolding LieAmong
  lie-later s x es all e m = ((all e (inr m)).0, (let inside = (all e (inr m)).1 in omega (arith, (larger-for s x).long)))

  fold-enough : (es : List Rectangle) (s : List ℕ) → LieAmong s es
      → (e : Rectangle) → Member e es → need e ≤ span axis drawn (fold grow s es) (begin e) (count e) - drawn (begin e) - pad axis
  unfolding LieAmong
  fold-enough [] s all e m = absurd m
  fold-enough (x ∷ es) s all e (inl same) =
      let t = grow s x in
      let inside = all x (inl refl) in
      let first : need x ≤ span axis drawn t (begin x) (count x) - drawn (begin x) - pad axis = grown-enough axis drawn s (begin x) (count x) (need x) inside.0 inside.1 in
      let later : span axis drawn t (begin x) (count x) ≤ span axis drawn (fold grow t es) (begin x) (count x) = span-larger axis drawn t (fold grow t es) (fold-larger es t) (begin x) (count x) in
      rw same (omega arith)
  fold-enough (x ∷ es) s all e (inr m) = fold-enough es (grow s x) (lie-later s x es all) e m

  module _ (es : List Rectangle) where
    pub length-sizes : length (sizes axis style g es) ≡ count_along axis g
    unfolding sizes
    length-sizes = (fold-larger (in_order axis g es) (own_sizes axis g es)).long ∙ length-own axis g es

    -- what stands in order stands in the list
    pub from-order : (e : Rectangle) → Member e (in_order axis g es) → Member e es
    from-order e m = ordered-member (λ (x : Rectangle). begin x) (count_along axis g) es e (ordered-member (λ (x : Rectangle). count x) (count_along axis g + 1) (by_number (λ (x : Rectangle). begin x) (count_along axis g) es) e m)

    -- and the other way round, where it lies in the table
    in-order : AnchorsFit g.rows g.columns es → (e : Rectangle) → Member e es → Member e (in_order axis g es)
    in-order fit e m =
        let here = lies-along axis g e (anchor-lies fit e m).0 (anchor-lies fit e m).1 in
        member-ordered (λ (x : Rectangle). count x) (count_along axis g + 1) (by_number (λ (x : Rectangle). begin x) (count_along axis g) es) e (member-ordered (λ (x : Rectangle). begin x) (count_along axis g) es e m (omega (arith, here.0, here.1))) (omega (arith, here.0, here.1))

    lie-among : AnchorsFit g.rows g.columns es → LieAmong (own_sizes axis g es) (in_order axis g es)
    unfolding LieAmong
    lie-among fit e m = let here = lies-along axis g e (anchor-lies fit e (from-order e m)).0 (anchor-lies fit e (from-order e m)).1 in (here.0, omega (arith, here.1, length-own axis g es))

    pub start-next : (k : ℕ) → start_of axis drawn (sizes axis style g es) (k + 1) ≡ start_of axis drawn (sizes axis style g es) k + (drawn k + get_or (sizes axis style g es) k 0 + pad axis)
    start-next k = start-more axis drawn (sizes axis style g es) k

    -- each owner has as much room as its text asks
    pub room-enough : AnchorsFit g.rows g.columns es → (p : Position) → p.row < g.rows → p.col < g.columns → asks axis (text_of_cell g (owner_in es p).first) ≤ room axis drawn (sizes axis style g es) (line_of axis (owner_in es p).first) (lines_in axis (owner_in es p).size)
    unfolding sizes own-size
    room-enough fit p low far = elim (owned es p) [
      | held m h ↦
          let enough : need o ≤ span axis drawn (sizes axis style g es) (begin o) (count o) - drawn (begin o) - pad axis = fold-enough (in_order axis g es) base (lie-among fit) o (in-order fit o m) in
          let r : room_for (sizes axis style g es) o ≡ span axis drawn (sizes axis style g es) (begin o) (count o) - drawn (begin o) - pad axis = room-span axis drawn (sizes axis style g es) (begin o) (count o) in
          omega arith
      | alone is never ↦
          let one : count o ≡ 1 = ap (λ (x : Rectangle). count x) is ∙ one_line axis in
          let asked : own axis g es p ≡ asks axis (text_of_cell g p) = cond-true _ _ _ (and_from _ _ (ap (λ (x : Rectangle). same_place x.first p) is ∙ same_place-self p) (ap (λ n. eqb n 1) one)) in
          let i = line_of axis p in
          let j = line_of (across axis) p in
          let there : own axis g es (place_in axis i j) ≡ own axis g es p = ap (own axis g es) (place_is axis p) in
          let f : ℕ → ℕ = λ k. own axis g es (place_in axis i k) in
          let reached : own axis g es (place_in axis i j) ≤ largest (least axis) (count_along (across axis) g) f = largest-least (least axis) f (count_along (across axis) g) j (line_below (across axis)) in
          let at : get_or base i 0 ≡ own-size axis g es i = get-singles (own-size axis g es) (count_along axis g) i 0 (line_below axis) in
          let more : get_or base i 0 ≤ get_or (sizes axis style g es) i 0 = larger.each i in
          let e : room axis drawn (sizes axis style g es) i 1 ≡ get_or (sizes axis style g es) i 0 = room-one axis drawn (sizes axis style g es) i in
          let enough : asks axis (text_of_cell g p) ≤ room axis drawn (sizes axis style g es) i 1 = omega arith in
          rw (is, one_line axis) enough
    ]
      where
        o : Rectangle
        o = owner_in es p

        base : List ℕ
        base = own_sizes axis g es

        larger : Larger base (sizes axis style g es)
        larger = fold-larger (in_order axis g es) base

        line_below : (a : Axis) → line_of a p < count_along a g
        line_below a = grind (arith, nat_tests)

    -- a row or column is as large as is asked of it whatever stands there
    least-size : (k : ℕ) → k < count_along axis g → least axis ≤ get_or (sizes axis style g es) k 0
    unfolding sizes own-size
    least-size k h = omega (arith, largest-low (least axis) (λ i. own axis g es (place_in axis k i)) (count_along (across axis) g), get-singles (own-size axis g es) (count_along axis g) k 0 h, (fold-larger (in_order axis g es) (own_sizes axis g es)).each k)

    -- ---- rows and columns are no larger than asked

    module _ (k : ℕ) where
      most : ℕ → Rectangle → ℕ
      most m e = cond (takes axis k e) (max m (lacking axis style g es k e)) m

      most-first : (xs : List Rectangle) (m : ℕ) → m ≤ fold most m xs
      unfolding most
      most-first [] m = omega arith
      most-first (x ∷ xs) m = omega (arith, most-first xs (most m x), grown m x)
        where
          grown : (m : ℕ) (x : Rectangle) → m ≤ most m x
          grown m x = grind arith

      most-each : (xs : List Rectangle) (m : ℕ) (e : Rectangle) → Member e xs → takes axis k e ≡ true → lacking axis style g es k e ≤ fold most m xs
      unfolding most
      most-each [] m e none t = absurd none
      most-each (x ∷ xs) m e (inl same) t =
          let here : most m e ≡ max m (lacking axis style g es k e) = cond-true _ _ _ t in
          let first : most m e ≤ fold most (most m e) xs = most-first xs (most m e) in
          let low : lacking axis style g es k e ≤ fold most (most m e) xs = omega arith in
          subst (λ y. lacking axis style g es k e ≤ fold most (most m y) xs) same low
      most-each (x ∷ xs) m e (inr later) t = most-each xs (most m x) e later t

      -- a size that grows for a merged cell is no larger than what is lacking beside the others
      grown-low : (s : List ℕ) (e : Rectangle) (much : ℕ) → Larger (own_sizes axis g es) s → 1 ≤ count e → begin e + count e ≤ length s → (takes axis k e ≡ true → lacking axis style g es k e ≤ much) → get_or s k 0 ≤ much → get_or (grow s e) k 0 ≤ much
      grown-low s e much larger some inside enough low = elim (cases_lt k (length s)) [
        | inl less ↦ elim (cases_Bool (takes axis k e)) [
          | inl t ↦ rw (get-grown axis drawn s (begin e) (count e) (need e) k less) (taken less t)
          | inr f ↦
              let now : get_or (grow s e) k 0 ≡ get_or s k 0 + share (need e - room_for s e) (begin e) (count e) k = get-grown axis drawn s (begin e) (count e) (need e) k less in
              let none : share (need e - room_for s e) (begin e) (count e) k ≡ 0 = share-outside (need e - room_for s e) (begin e) (count e) k f in
              omega arith
        ]
        | inr past ↦
            let none : get_or (grow s e) k 0 ≡ 0 = get_or_past (grow s e) k 0 (omega (arith, (larger-for s e).long, past)) in
            omega arith
      ]
        where
          ranged : takes axis k e ≡ true → (begin e ≤ k) × (k < begin e + count e)
          ranged t = grind (arith, nat_tests)

          taken : k < length s → takes axis k e ≡ true → get_or s k 0 + share (need e - room_for s e) (begin e) (count e) k ≤ much
          taken less t =
              let base = own_sizes axis g es in
              let within = ranged t in
              let shared : share (need e - room_for s e) (begin e) (count e) k ≤ need e - room_for s e = share-low (need e - room_for s e) (begin e) (count e) k some in
              let without : room_for s e ≡ room_for (set s k 0) e + get_or s k 0 = room-without axis drawn s k (begin e) (count e) less within.0 within.1 in
              let more : room_for (set base k 0) e ≤ room_for (set s k 0) e = room-larger axis drawn base k s larger (begin e) (count e) in
              let most : need e - room_for (set base k 0) e ≤ much = enough t in
              omega arith

      fold-low : (xs : List Rectangle) (s : List ℕ) (much : ℕ) → Larger (own_sizes axis g es) s → LieAmong s xs → ((e : Rectangle) → Member e xs → takes axis k e ≡ true → lacking axis style g es k e ≤ much) → get_or s k 0 ≤ much → get_or (fold grow s xs) k 0 ≤ much
      unfolding LieAmong
      fold-low [] s much larger all enough low = low
      fold-low (e ∷ xs) s much larger all enough low =
          let here = all e (inl refl) in
          fold-low xs (grow s e) much (larger-trans (own_sizes axis g es) s (grow s e) larger (larger-for s e)) (lie-later s e xs all) (λ d i. enough d (inr i))
          (grown-low s e much larger here.0 here.1 (enough e (inl refl)) low)

      low-sizes : AnchorsFit g.rows g.columns es → get_or (sizes axis style g es) k 0 ≤ most_asked axis style g es k
      unfolding sizes most
      low-sizes fit =
          let own = get_or (own_sizes axis g es) k 0 in
          fold-low (in_order axis g es) (own_sizes axis g es) (most_asked axis style g es k) (record { long = refl; each = λ i. omega arith }) (lie-among fit)
          (λ e m. most-each es own e (from-order e m)) (most-first es own)

pub row-line : (style : Style) (g : Grid (List ℕ)) (es : List Rectangle) (i : ℕ) → i < g.rows → 1 ≤ get_or (sizes Rows style g es) i 0
row-line style g es i h = least-size Rows style g es i h

pub no-larger : (plan : Plan) (aligns : List Alignment) → AnchorsFit plan.grid.rows plan.grid.columns plan.merged → AreNoLargerThanAsked plan aligns
no-larger plan aligns fit axis k = low-sizes axis plan.style plan.grid plan.merged k fit

-- a line of a text is no wider than the text
most-least : (lines : List (List ℕ)) (a : ℕ) → a ≤ fold (λ most line. max most (text_width line)) a lines
most-least [] a = omega arith
most-least (x ∷ lines) a = omega (arith, most-least lines (max a (text_width x)))

pub line-least : (lines : List (List ℕ)) (a k : ℕ) → text_width (get_or lines k []) ≤ fold (λ most line. max most (text_width line)) a lines
line-least [] a k = omega (arith, columns-nil)
line-least (x ∷ lines) a zero = omega (arith, most-least lines (max a (text_width x)))
line-least (x ∷ lines) a (suc k) = line-least lines (max a (text_width x)) k

-- ---- sizes that grow, one merged cell after another

-- one step more
pub fold-more : {A B : Type 0} (f : B → A → B) (a : B) (xs : List A) (k : ℕ) (d : A) → k < length xs → fold f a (take (k + 1) xs) ≡ f (fold f a (take k xs)) (get_or xs k d)
fold-more f a xs k d h = ap (fold f a) (take_more xs k d h) ∙ fold-append f a (take k xs) (get_or xs k d ∷ [])

-- they stand in order where they are put so by what each takes
pub order-is : (axis : Axis) (g : Grid (List ℕ)) (m : SpanMap) (xs order : List Rectangle) → Fits m g.rows g.columns → xs ≡ rectangles m
    → ((k n : ℕ) → AllByRecursion (λ (e : Rectangle). (lines_in axis e.size < k) × (line_of axis e.first < n)) xs → order ≡ by_number (λ (e : Rectangle). lines_in axis e.size) k (by_number (λ (e : Rectangle). line_of axis e.first) n xs))
    → order ≡ in_order axis g (rectangles m)
order-is axis g m xs order fits is put =
    put (count_along axis g + 1) (count_along axis g) (rw is (all-of (λ (e : Rectangle). (lines_in axis e.size < count_along axis g + 1) × (line_of axis e.first < count_along axis g)) (rectangles m) (λ e among. below (let lies = anchor-lies (anchors-fit m g.rows g.columns fits) e among in lies-along axis g e lies.0 lies.1))))
    ∙ ap (in_order axis g) is
  where
    below : {n at : ℕ} → (1 ≤ n) × (at + n ≤ count_along axis g) → (n < count_along axis g + 1) × (at < count_along axis g)
    below h = (omega (arith, h.0, h.1), omega (arith, h.0, h.1))

-- one of those in order lies in the table
pub ordered-at : (axis : Axis) (g : Grid (List ℕ)) (m : SpanMap) (rows columns : ℕ) → Fits m rows columns → (xs : List Rectangle) → xs ≡ in_order axis g (rectangles m) → (k : ℕ) (e : Rectangle) → k < length xs → e ≡ get_or xs k e → HasArea e × LiesInside rows columns e
ordered-at axis g m rows columns fits xs is k e h at =
    let among : Member e (in_order axis g (rectangles m)) = subst (λ (ys : List Rectangle). Member e ys) is (subst (λ (x : Rectangle). Member x xs) (sym at) (member-at xs k e h)) in
    anchor-lies (anchors-fit m rows columns fits) e (from-order axis ASCII g (rectangles m) e among)

pub grown-more : (axis : Axis) (style : Style) (g : Grid (List ℕ)) (base : List ℕ) (k : ℕ) (e : Rectangle) (xs : List Rectangle) → k < length xs → e ≡ get_or xs k e → (s : List ℕ) (text : List ℕ) → cell_at g e.first ≡ Some text → (n : ℕ) (new : List ℕ)
    → s ≡ fold (grown_for axis style g) base (take k xs) → n ≡ asks axis text → new ≡ grown_sizes axis (border axis style g) s (line_of axis e.first) (lines_in axis e.size) n
    → new ≡ fold (grown_for axis style g) base (take (k + 1) xs)
grown-more axis style g base k e xs within at s text read n new was many grew =
    grew ∙ ap (grown_sizes axis (border axis style g) s (line_of axis e.first) (lines_in axis e.size)) (many ∙ ap (asks axis) (sym (ap (λ (o : Option (List ℕ)). unwrap_or o []) read)))
    ∙ ap₂ (grown_for axis style g) was at ∙ sym (fold-more (grown_for axis style g) base xs k e within)

pub sizes-is : (axis : Axis) (style : Style) (g : Grid (List ℕ)) (m : SpanMap) (base s : List ℕ) → base ≡ own_sizes axis g (rectangles m) → s ≡ fold (grown_for axis style g) base (in_order axis g (rectangles m)) → s ≡ sizes axis style g (rectangles m)
unfolding sizes
sizes-is axis style g m base s first is = is ∙ ap (λ b. fold (grown_for axis style g) b (in_order axis g (rectangles m))) first

-- ---- lists of what a function gives

pub is-each : (f : ℕ → ℕ) (n : ℕ) (xs : List ℕ) → length xs ≡ n → ((j : ℕ) → j < n → get_or xs j 0 ≡ f j) → xs ≡ each n (λ j. f j ∷ [])
is-each f n xs long same = ext_get_or 0 xs (each n (λ j. f j ∷ [])) (long ∙ sym (length-singles f n)) (λ i h. same i (omega (arith, h, long)) ∙ sym (get-singles f n i 0 (omega (arith, h, long))))

-- ---- the largest of numbers

pub largest-same : (low : ℕ) (f h : ℕ → ℕ) (n : ℕ) → ((k : ℕ) → k < n → f k ≡ h k) → largest low n f ≡ largest low n h
largest-same low f h zero same = refl
largest-same low f h (suc n) same = ap₂ max (largest-same low f h n (λ k less. same k (omega (arith, less)))) (same n (omega arith))

largest-zero : (low n : ℕ) → largest low n (λ k. 0) ≡ low
largest-zero low zero = refl
largest-zero low (suc n) = ap (λ a. max a 0) (largest-zero low n) ∙ max-zero low
  where
    max-zero : (a : ℕ) → max a 0 ≡ a
    max-zero a = grind (arith, nat_tests)

-- one of the numbers is raised from 0
largest-raised : (low : ℕ) (f h : ℕ → ℕ) (n x : ℕ) → x < n → f x ≡ 0 → ((k : ℕ) → k ≢ x → h k ≡ f k) → largest low n h ≡ max (largest low n f) (h x)
largest-raised low f h zero x less none same = absurd (omega (arith, less))
largest-raised low f h (suc n) x less none same = grind (arith, nat_tests, largest-same, largest-raised low f h n x)

-- ---- places of lines

pub in-line : (axis : Axis) (k x : ℕ) (p : Position) → place_in axis k x ≡ p → (k ≡ line_of axis p) × (x ≡ line_of (across axis) p)
in-line axis k x p h1 = grind (arith, nat_tests)

pub line-within : (axis : Axis) (g : Grid (List ℕ)) (i j : ℕ) → i < g.rows → j < g.columns → line_of axis (place i j) < count_along axis g
line-within axis g i j h1 h2 = grind (arith, nat_tests)

pub place-within : (axis : Axis) (g : Grid (List ℕ)) (k x : ℕ) → k < count_along axis g → x < count_along (across axis) g → ((place_in axis k x).row < g.rows) × ((place_in axis k x).col < g.columns)
place-within axis g k x h1 h2 = grind (arith, nat_tests)

-- ---- sizes as they are measured

module _ (axis : Axis) (g : Grid (List ℕ)) (es : List Rectangle) where
  -- what is asked by the text at a place, if it has been asked
  asked_at : ℕ → ℕ → ℕ → ℕ → ℕ
  asked_at i j k x = cond (is_before (place_in axis k x) (place i j)) (own axis g es (place_in axis k x)) 0

  pub measured-none : (sizes : List ℕ) → sizes ≡ replicate (count_along axis g) (least axis) → Measured axis g es 0 0 sizes
  unfolding asked_at
  measured-none sizes is = record {
    long = ap length is ∙ length-replicate (count_along axis g) (least axis);
    each = λ k h. ap (λ (xs : List ℕ). get_or xs k 0) is ∙ get_or-replicate (count_along axis g) k (least axis) 0 h ∙ sym (largest-same (least axis) (asked_at 0 0 k) (λ x. 0) (count_along (across axis) g) (λ x less. cond-false _ _ _ (before-none (place_in axis k x))) ∙ largest-zero (least axis) (count_along (across axis) g));
  }

  pub measured-row : (i j : ℕ) (sizes : List ℕ) → j ≡ g.columns → Measured axis g es i j sizes → Measured axis g es (i + 1) 0 sizes
  unfolding asked_at
  measured-row i j sizes e was = grind (arith, nat_tests, largest-same, asked_at, before-row, place-within)

  pub measured-all : (i : ℕ) (sizes : List ℕ) → i ≡ g.rows → Measured axis g es i 0 sizes → sizes ≡ own_sizes axis g es
  unfolding asked_at own-size
  measured-all i sizes e was = is-each (own-size axis g es) (count_along axis g) sizes was.long
      (λ k h. was.each k h ∙ (largest-same (least axis) (asked_at i 0 k) (λ x. own axis g es (place_in axis k x)) (count_along (across axis) g) (λ x less. cond-true _ _ _ (before-from (place_in axis k x) (place i 0) (inl (omega (arith, (place-within axis g k x h less).0, e)))))))

  module _ (i j : ℕ) (h : i < g.rows) (w : j < g.columns) (sizes : List ℕ) (was : Measured axis g es i j sizes) where
    pub p : Position
    p = place i j

    pub line : ℕ
    line = line_of axis p

    -- another place is asked no more than before
    other : (k x : ℕ) → place_in axis k x ≢ p → asked_at i (j + 1) k x ≡ asked_at i j k x
    unfolding asked_at p
    other k x apart = grind (arith, nat_tests, cases_before, asked_at, before-next, before-from, after-next, after-from)

    here : largest (least axis) (count_along (across axis) g) (asked_at i (j + 1) line) ≡ max (largest (least axis) (count_along (across axis) g) (asked_at i j line)) (own axis g es p)
    unfolding asked_at p line
    here =
        let x = line_of (across axis) p in
        let at : place_in axis line x ≡ p = place_is axis p in
        let none : asked_at i j line x ≡ 0 = cond-false _ _ _ (ap (λ q. is_before q (place i j)) at ∙ after-from p (place i j) (inr (refl, omega arith))) in
        let now : asked_at i (j + 1) line x ≡ own axis g es p = cond-true _ _ _ (ap (λ q. is_before q (place i (j + 1))) at ∙ here-next i j p refl) ∙ ap (own axis g es) at in
        largest-raised (least axis) (asked_at i j line) (asked_at i (j + 1) line) (count_along (across axis) g) x (line-within (across axis) g i j h w) none (λ k apart. other line k (λ e. apart (in-line axis line k p e).1))
        ∙ ap (max (largest (least axis) (count_along (across axis) g) (asked_at i j line))) now

    pub measured-more : (new : List ℕ) → new ≡ set sizes line (max (get_or sizes line 0) (own axis g es p)) → Measured axis g es i (j + 1) new
    unfolding asked_at p line
    measured-more new is = record {
      long = ap length is ∙ length-set sizes line _ ∙ was.long;
      each = λ k less. ap (λ (xs : List ℕ). get_or xs k 0) is ∙ asked-at-place k less (cases_eq k line);
    }
      where
        apart : (k : ℕ) → k < count_along axis g → k ≢ line → get_or (set sizes line (max (get_or sizes line 0) (own axis g es p))) k 0 ≡ largest (least axis) (count_along (across axis) g) (asked_at i (j + 1) k)
        apart k less ne = get_or-set_other sizes line k _ 0 ne ∙ was.each k less ∙ (largest-same (least axis) (asked_at i j k) (asked_at i (j + 1) k) (count_along (across axis) g) (λ x within. sym (other k x (λ e. ne (in-line axis k x p e).0))))

        asked-at-place : (k : ℕ) → k < count_along axis g → (k ≡ line) ⊎ (k ≢ line) → get_or (set sizes line (max (get_or sizes line 0) (own axis g es p))) k 0 ≡ largest (least axis) (count_along (across axis) g) (asked_at i (j + 1) k)
        asked-at-place k less (inr ne) = apart k less ne
        asked-at-place k less (inl same) =
            let within : line < length sizes = omega (arith, was.long, line-within axis g i j h w) in
            ap (λ z. get_or (set sizes line (max (get_or sizes line 0) (own axis g es p))) z 0) same ∙ get_or-set_same sizes line _ 0 within
            ∙ ap (λ a. max a (own axis g es p)) (was.each line (line-within axis g i j h w)) ∙ sym here ∙ ap (λ z. largest (least axis) (count_along (across axis) g) (asked_at i (j + 1) z)) (sym same)

    -- sizes that are raised to what the text of the place asks, by its owner
    pub measured-raised : (new : List ℕ) (o : Option Rectangle) → o ≡ Some (owner_in es (place i j)) → new ≡ raised axis g sizes o (place i j) → Measured axis g es i (j + 1) new
    unfolding p line
    measured-raised new o owned is = measured-more new (is ∙ ap (λ (x : Option Rectangle). raised axis g sizes x p) owned)

-- ---- tables that are laid out

module _ (axis : Axis) (g : Grid (List ℕ)) (es : List Rectangle) where
  pub none-asked : (n : ℕ) (s : List ℕ) → n ≡ count_along axis g → s ≡ replicate n (least axis) → Measured axis g es 0 0 s
  none-asked n s same is = measured-none axis g es s (is ∙ ap (λ k. replicate k (least axis)) same)

  pub own-long : (s : List ℕ) → s ≡ own_sizes axis g es → length s ≡ count_along axis g
  own-long s is = ap length is ∙ length-own axis g es

pub edges-of : (style : Style) (g : Grid (List ℕ)) (m : SpanMap) (ws edges : List ℕ) → ws ≡ sizes Columns style g (rectangles m) → length edges ≡ length ws + 1 → ((k : ℕ) → k < length ws + 1 → get_or edges k 0 ≡ start_of Columns (line_size style.columns (length ws)) ws k) → AreEdges (plan_of style g (rectangles m)) edges
edges-of style g m ws edges is long each-is =
    let many : length ws ≡ g.columns = ap length is ∙ length-sizes Columns style g (rectangles m) in
    record {
      long = long ∙ ap (λ n. n + 1) many;
      each = λ k h. each-is k (omega (arith, h, many)) ∙ ap₂ (λ n (s : List ℕ). start_of Columns (line_size style.columns n) s k) many is;
    }

-- a table of what a function makes of cells is as large
pub count-map : {A B : Type 0} (axis : Axis) (f : A → B) (g : Grid A) → count_along axis (map_grid f g) ≡ count_along axis g
count-map Rows f g = refl
count-map Columns f g = refl

-- what a text asks, of rows and of columns
pub both-asked : (axis : Axis) (s : Size) (text : List ℕ) → s.height ≡ asks Rows text → s.width ≡ asks Columns text → lines_in axis s ≡ asks axis text
both-asked Rows s text high wide = high
both-asked Columns s text high wide = wide
