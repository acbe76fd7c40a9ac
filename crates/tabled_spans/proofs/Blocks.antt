-- A block of the cells that an entity names, and the neighbours among them.
use Rattle.tabled_spans.proofs.Common.{◌-◌, ◌≡◌, ◌↔◌, ◌<◌, ◌+◌, ◌≤◌, AreInBlock, Axis, Columns, Entity, Grid, In, IsBand, IsInside, IsNamed, List, MergesRuns, NamesNoNeighbours, Position, Rectangle, Rows, SpanMap, across, ap₂, arith, further, in_line, inr, line_of, lines_in, map_grid, names, place, rectangle, refl, resized, true, Size, ℕ}
use Rattle.tabled_grid.specs.declared.config.entity.Entity.TheVariants.{Global}
use Rattle.tabled_spans.specs.Lines.{line_at}

-- where an entity names the cells of a block among those of a shape, it does so in each table of that shape
pub named_block : (e : Entity) (g : Grid (List ℕ)) (rows columns : ℕ) (block : Rectangle) → g.rows ≡ rows → g.columns ≡ columns → ((p : Position) → In block p ↔ ((names e p ≡ true) × (p.row < rows) × (p.col < columns))) → AreInBlock e g block
named_block e g rows columns block high wide is p = (
  (λ named. (is p).1 (named.named, omega (arith, named.inside.row, high), omega (arith, named.inside.col, wide))),
  (λ here. let at = (is p).0 here in record { inside = record { row = omega (arith, at.1, high); col = omega (arith, at.2, wide) }; named = at.0 }),
)

-- the places of a block's line from one of its places on
pub in_along : (axis : Axis) (block : Rectangle) (p : Position) (k : ℕ) → In block p → line_of axis p ≤ k → k < line_of axis block.first + lines_in axis block.size → In block (in_line axis p k)
in_along Rows block p k at from to = record { top = omega (arith, at.top); bottom = to; left = at.left; right = at.right }
in_along Columns block p k at from to = record { top = at.top; bottom = at.bottom; left = omega (arith, at.left); right = to }

-- the place before one of a block that isn't in its first line is in the block, too
pub back_in : (axis : Axis) (block : Rectangle) (p : Position) → In block p → (line_of axis p ≡ line_of axis block.first → ⊥) → (further axis 1 (in_line axis p (line_of axis p - 1)) ≡ p) × In block (in_line axis p (line_of axis p - 1))
back_in Rows block p h other = (ap₂ place (omega (arith, h.top, other)) refl, record { top = omega (arith, h.top, other); bottom = omega (arith, h.bottom); left = h.left; right = h.right })
back_in Columns block p h other = (ap₂ place refl (omega (arith, h.left, other)), record { top = h.top; bottom = h.bottom; left = omega (arith, h.left, other); right = omega (arith, h.right) })

-- a block of two lines with cells has neighbours
pub neighbours : {A : Type 0} (f : A → List ℕ) (axis : Axis) (e : Entity) (g : Grid A) (block : Rectangle) → AreInBlock e (map_grid f g) block → (2 ≤ lines_in axis block.size) × (1 ≤ lines_in (across axis) block.size) → NamesNoNeighbours axis e g → ⊥
neighbours f axis e g block is some none = none block.first (here block.first ((is block.first).1 (first axis some.0 some.1))) (here (further axis 1 block.first) ((is (further axis 1 block.first)).1 (second axis some.0 some.1)))
  where
    here : (p : Position) → IsNamed e (map_grid f g) p → IsNamed e g p
    here p h = record { inside = record { row = h.inside.row; col = h.inside.col }; named = h.named }

    first : (x : Axis) → 2 ≤ lines_in x block.size → 1 ≤ lines_in (across x) block.size → In block block.first
    first Rows h k = record { top = omega arith; bottom = omega (arith, h); left = omega arith; right = omega (arith, k) }
    first Columns h k = record { top = omega arith; bottom = omega (arith, k); left = omega arith; right = omega (arith, h) }

    second : (x : Axis) → 2 ≤ lines_in x block.size → 1 ≤ lines_in (across x) block.size → In block (further x 1 block.first)
    second Rows h k = record { top = omega arith; bottom = omega (arith, h); left = omega arith; right = omega (arith, k) }
    second Columns h k = record { top = omega arith; bottom = omega (arith, k); left = omega arith; right = omega (arith, h) }

module _ (axis : Axis) (e : Entity) (g : Grid (List ℕ)) (block : Rectangle) (is : AreInBlock e g block) where
  -- so it names no cell beside the block
  pub block_band : IsBand axis e g block
  block_band = record { named = λ p. (is p).1; next = λ p at. (is (further axis 1 p)).0; back = λ p at. (is p).0 }

  -- without neighbours the map stays
  pub none_merged : (m : SpanMap) → (2 ≤ lines_in axis block.size → 1 ≤ lines_in (across axis) block.size → ⊥) → MergesRuns axis e g m m
  none_merged m never = record { each = λ p. inr (λ many run. let j = run.joins 0 (omega (arith, run.some)) in lone axis (further axis 0 p) ((is (further axis 0 p)).0 j.here) ((is (further axis 1 (further axis 0 p))).0 j.next) never, refl) }
    where
      lone : (x : Axis) (p : Position) → In block p → In block (further x 1 p) → (2 ≤ lines_in x block.size → 1 ≤ lines_in (across x) block.size → ⊥) → ⊥
      lone Rows p a b none = none (omega (arith, a.top, b.bottom)) (omega (arith, a.left, a.right))
      lone Columns p a b none = none (omega (arith, a.left, b.right)) (omega (arith, a.top, a.bottom))

-- some lines of a table, as a block of its cells
abbrev pub lines_block : Axis → Size → ℕ → ℕ → Rectangle
lines_block axis size line many = rectangle (in_line (across axis) (place 0 0) line) (resized (across axis) size many)

pub lines_bottom : (axis : Axis) (size : Size) (line many : ℕ) → line + many ≤ lines_in (across axis) size → (lines_block axis size line many).first.row + (lines_block axis size line many).size.height ≤ size.height
lines_bottom Rows size line many within = omega arith
lines_bottom Columns size line many within = within

pub lines_right : (axis : Axis) (size : Size) (line many : ℕ) → line + many ≤ lines_in (across axis) size → (lines_block axis size line many).first.col + (lines_block axis size line many).size.width ≤ size.width
lines_right Rows size line many within = within
lines_right Columns size line many within = omega arith

module _ (g : Grid (List ℕ)) (size : Size) (high : g.rows ≡ size.height) (wide : g.columns ≡ size.width) (line many : ℕ) where
  pub lines_band : (axis : Axis) → line + many ≤ lines_in (across axis) size → IsBand axis Global g (lines_block axis size line many)
  lines_band Rows within = record {
    named = λ p at. record { inside = record { row = omega (arith, at.bottom, high); col = omega (arith, at.right, within, wide) }; named = refl };
    next = λ p at h. record { top = omega arith; bottom = omega (arith, h.inside.row, high); left = at.left; right = at.right };
    back = λ p at h. record { top = omega arith; bottom = omega (arith, h.inside.row, high); left = at.left; right = at.right };
  }
  lines_band Columns within = record {
    named = λ p at. record { inside = record { row = omega (arith, at.bottom, within, high); col = omega (arith, at.right, wide) }; named = refl };
    next = λ p at h. record { top = at.top; bottom = at.bottom; left = omega arith; right = omega (arith, h.inside.col, wide) };
    back = λ p at h. record { top = at.top; bottom = at.bottom; left = omega arith; right = omega (arith, h.inside.col, wide) };
  }

  pub lines_hold : (axis : Axis) (p : Position) → IsInside g p → line ≤ line_at axis p → line_at axis p < line + many → In (lines_block axis size line many) p
  lines_hold Rows p at from to = record { top = omega arith; bottom = omega (arith, at.row, high); left = from; right = to }
  lines_hold Columns p at from to = record { top = from; bottom = to; left = omega arith; right = omega (arith, at.col, wide) }
