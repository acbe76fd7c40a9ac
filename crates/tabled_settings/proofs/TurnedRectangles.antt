-- Where the rectangles of a table go that is turned, and merged cells turned to the left and back.
use Rattle.std.proofs.lemmas.Grind.{common_steps}
use Rattle.tabled_settings.proofs.Common.{◌+◌, ◌-◌, ◌<◌, ◌≡◌, ◌≤◌, ◌⊎◌, Axis, Bottom, Carries, Columns, Fits, HasArea, In, Left, LiesInside, Position, Rectangle, Right, Rotate, Rows, SpanMap, Takes, Top, across, across_is, ap, ap₂, arith, carried, carried_back, count_of, inl, inr, line_is, line_of, place, place_in, quarter_of, rectangle, refl, rotated, sized, span_at, subst, sym, upside_down, ℕ}
use Rattle.tabled_settings.proofs.AlongLines.{LiesAlong, is_along, is_in, lies_along}
use Rattle.tabled_settings.proofs.MirroredSpans.{lines_carry}
use Rattle.tabled_settings.proofs.Rotated.{taken_turned, takes_turned, as_wide, left_leads_back}
use Rattle.tabled_settings.proofs.ThereAndBack.{lines_lead_back}

-- the rectangle that one inside the table goes to
abbrev pub turned : Rotate → ℕ → ℕ → Rectangle → Rectangle
turned Left rows columns e = rectangle (place (columns - (e.first.col + e.size.width)) e.first.row) (sized e.size.width e.size.height)
turned Right rows columns e = rectangle (place e.first.col (rows - (e.first.row + e.size.height))) (sized e.size.width e.size.height)
turned Top rows columns e = rectangle (place (rows - (e.first.row + e.size.height)) e.first.col) e.size
turned Bottom rows columns e = rectangle (place (rows - (e.first.row + e.size.height)) e.first.col) e.size

-- it is known by its place
pub turned_left : (rows columns : ℕ) (e : Rectangle) (p : Position) → p.row ≡ columns - (e.first.col + e.size.width) → p.col ≡ e.first.row → rectangle p (sized e.size.width e.size.height) ≡ turned Left rows columns e
turned_left rows columns e p row col = ap (λ (x : Position). rectangle x (sized e.size.width e.size.height)) (ap₂ place row col)

pub turned_right : (rows columns : ℕ) (e : Rectangle) (p : Position) → p.row ≡ e.first.col → p.col ≡ rows - (e.first.row + e.size.height) → rectangle p (sized e.size.width e.size.height) ≡ turned Right rows columns e
turned_right rows columns e p row col = ap (λ (x : Position). rectangle x (sized e.size.width e.size.height)) (ap₂ place row col)

pub turned_over : (turn : Rotate) (rows columns : ℕ) (e : Rectangle) (p : Position) → (turn ≡ Top) ⊎ (turn ≡ Bottom) → p.row ≡ rows - (e.first.row + e.size.height) → p.col ≡ e.first.col → rectangle p e.size ≡ turned turn rows columns e
turned_over turn rows columns e p (inl is) row col = rw is (ap (λ (x : Position). rectangle x e.size) (ap₂ place row col))
turned_over turn rows columns e p (inr is) row col = rw is (ap (λ (x : Position). rectangle x e.size) (ap₂ place row col))

pub turned_full : (turn : Rotate) (rows columns : ℕ) (e : Rectangle) → HasArea e → HasArea (turned turn rows columns e)
turned_full Left rows columns e full = record { height = full.width; width = full.height }
turned_full Right rows columns e full = record { height = full.width; width = full.height }
turned_full Top rows columns e full = record { height = full.height; width = full.width }
turned_full Bottom rows columns e full = record { height = full.height; width = full.width }

-- by its lines, where rows and columns are exchanged and then those along an axis are reversed
record IsTurned (axis : Axis) (rows columns : ℕ) (e f : Rectangle) : Type 0 where
  line : line_of axis f.first ≡ count_of (across axis) rows columns - (line_of (across axis) e.first + count_of (across axis) e.size.height e.size.width)
  beside : line_of (across axis) f.first ≡ line_of axis e.first
  lines : count_of axis f.size.height f.size.width ≡ count_of (across axis) e.size.height e.size.width
  wide : count_of (across axis) f.size.height f.size.width ≡ count_of axis e.size.height e.size.width

is_turned : (axis : Axis) (rows columns : ℕ) (e : Rectangle) → IsTurned axis rows columns e (turned (quarter_of axis) rows columns e)
is_turned Rows rows columns e = record { line = refl; beside = refl; lines = refl; wide = refl }
is_turned Columns rows columns e = record { line = refl; beside = refl; lines = refl; wide = refl }

module _ (axis : Axis) (rows columns : ℕ) (e : Rectangle) (high : e.first.row + e.size.height ≤ rows) (far : e.first.col + e.size.width ≤ columns) where
  abbrev n : ℕ
  n = count_of (across axis) rows columns

  abbrev f : Rectangle
  f = turned (quarter_of axis) rows columns e

  room : LiesAlong axis rows columns e
  room = lies_along axis rows columns e high far

  is : IsTurned axis rows columns e (turned (quarter_of axis) rows columns e)
  is = is_turned axis rows columns e

  all : (q : Position) → In e q → (p : Position) × Takes (rotated (quarter_of axis) rows columns) p q
  all q holds =
      let h = is_along axis e q holds in
      let i = n - 1 - line_of (across axis) q in
      let at = line_is axis i (line_of axis q) in
      let beside = across_is axis i (line_of axis q) in (
        place_in axis i (line_of axis q),
        takes_turned rows columns (place_in axis i (line_of axis q)) q axis (record { within = omega (arith, at, h.to, room.across); across_within = omega (arith, beside, h.last, room.lines); line = beside; far = omega (arith, at, h.to, room.across) }),
      )

  only : (p q : Position) → Takes (rotated (quarter_of axis) rows columns) p q → In e q → In (turned (quarter_of axis) rows columns e) p
  only p q t holds = grind (arith, common_steps, is_along, taken_turned, is_in, is, room)

  back : (p : Position) → In (turned (quarter_of axis) rows columns e) p → (q : Position) × In e q × Takes (rotated (quarter_of axis) rows columns) p q
  back p holds =
      let h = is_along axis f p holds in
      let j = n - 1 - line_of axis p in
      let at = line_is axis (line_of (across axis) p) j in
      let beside = across_is axis (line_of (across axis) p) j in
      let q = place_in axis (line_of (across axis) p) j in (
        q,
        is_in axis e q (record { first = omega (arith, at, is.beside, h.from); last = omega (arith, at, is.beside, is.wide, h.to); from = omega (arith, beside, is.line, is.lines, h.first, h.last, room.across); to = omega (arith, beside, is.line, is.lines, h.first, h.last, room.across) }),
        takes_turned rows columns p q axis (record { within = omega (arith, is.line, is.lines, h.last, room.across); across_within = omega (arith, is.beside, is.wide, h.to, room.lines); line = sym at; far = omega (arith, beside, is.line, is.lines, h.last, room.across) }),
      )

  quarter_carries : Carries (rotated (quarter_of axis) rows columns) e (turned (quarter_of axis) rows columns e)
  quarter_carries = record { all = all; only = only; from = back }

upside_down_carries : (rows columns : ℕ) (e : Rectangle) → e.first.row + e.size.height ≤ rows → e.first.col + e.size.width ≤ columns → Carries (upside_down rows columns) e (turned Top rows columns e)
upside_down_carries rows columns e high far = lines_carry Rows (λ i. rows - 1 - i) rows columns (λ i h. omega (arith, h)) e.first e.size high far

pub turned_carries : (turn : Rotate) (rows columns : ℕ) (e : Rectangle) → e.first.row + e.size.height ≤ rows → e.first.col + e.size.width ≤ columns → Carries (rotated turn rows columns) e (turned turn rows columns e)
turned_carries Left rows columns e high far = quarter_carries Rows rows columns e high far
turned_carries Right rows columns e high far = quarter_carries Columns rows columns e high far
turned_carries Top rows columns e high far = upside_down_carries rows columns e high far
turned_carries Bottom rows columns e high far = upside_down_carries rows columns e high far

pub turned_to : (turn : Rotate) (rows columns : ℕ) (e f : Rectangle) → e.first.row + e.size.height ≤ rows → e.first.col + e.size.width ≤ columns → f ≡ turned turn rows columns e → Carries (rotated turn rows columns) e f
turned_to turn rows columns e f high far is = subst (λ (h : Rectangle). Carries (rotated turn rows columns) e h) (sym is) (turned_carries turn rows columns e high far)

-- a cell that goes to a place is a cell of the table
upside_down_from : (rows columns : ℕ) (p q : Position) → Takes (upside_down rows columns) p q → (q.row < rows) × (q.col < columns)
upside_down_from rows columns p q t = grind (arith, common_steps, lines_lead_back)

turned_from : (turn : Rotate) (rows columns : ℕ) (p q : Position) → Takes (rotated turn rows columns) p q → (q.row < rows) × (q.col < columns)
turned_from Left rows columns p q t = let d = taken_turned rows columns p q Rows t in (omega (arith, d.line, d.across_within), omega (arith, d.far))
turned_from Right rows columns p q t = let d = taken_turned rows columns p q Columns t in (omega (arith, d.far), omega (arith, d.line, d.across_within))
turned_from Top rows columns p q t = upside_down_from rows columns p q t
turned_from Bottom rows columns p q t = upside_down_from rows columns p q t

-- a rectangle of which each cell goes to a place lies inside the table
pub turned_inside : (turn : Rotate) (rows columns : ℕ) (e f : Rectangle) → HasArea e → Carries (rotated turn rows columns) e f → LiesInside rows columns e
turned_inside turn rows columns e f full c =
    let q : Position = place (e.first.row + e.size.height - 1) (e.first.col + e.size.width - 1) in
    let last : In e q = record { top = omega (arith, full.height); bottom = omega (arith, full.height); left = omega (arith, full.width); right = omega (arith, full.width) } in
    let p = c.all q last in
    let at = turned_from turn rows columns p.0 q p.1 in
    record { bottom = omega (arith, at.0, full.height); right = omega (arith, at.1, full.width) }

-- turned to the left and then to the right, they are as they were
pub left_then_right_spans : (rows columns : ℕ) → 0 < rows → 0 < columns → (m : SpanMap) → Fits m rows columns → carried (rotated Right columns rows) columns rows (carried (rotated Left rows columns) rows columns m) ≡ m
left_then_right_spans rows columns tall wide m fits =
    subst (λ (n : ℕ). carried (rotated Right columns rows) columns n (carried (rotated Left rows columns) rows columns m) ≡ m) (as_wide columns rows wide)
    (carried_back (rotated Left rows columns) (rotated Right columns rows) (left_leads_back rows columns) m rows columns fits
    (record { each = λ a s h. let size = span_at m a s h in let room = (fits.each (rectangle a s) h).inside in (turned Left rows columns (rectangle a s), turned_carries Left rows columns (rectangle a s) room.bottom room.right, turned_full Left rows columns (rectangle a s) (record { height = size.height; width = size.width })) }))
