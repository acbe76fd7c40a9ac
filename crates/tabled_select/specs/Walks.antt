-- Where iterators stand. Only their own contracts speak of this.
use Rattle.std.specs.Prelude.{◌≡◌, ◌<◌, ℕ, ◌+◌, ◌-◌, ◌/◌, true, List, Option, None, Some, drop}
use Rattle.std.specs.Iterator.{Count, SkipsThenYields, at_most, count_map}
use Rattle.std.specs.List.{filter}
use Rattle.tabled_grid.specs.Entity.{block, place}
use Rattle.tabled_grid.specs.declared.config.position.Position.{Position}
use Rattle.tabled_select.specs.Selectors.{on_edge}

-- where a walk over a block stands, and where it ends
pub record Sector : Type 0 where
  pub row : ℕ
  pub end_row : ℕ
  pub col : ℕ
  pub first_col : ℕ
  pub end_col : ℕ

-- the places that are left of a walk over a block
abbrev pub sector_left : Sector → List Position
sector_left s = drop (s.col - s.first_col) (block s.row s.end_row s.first_col s.end_col)

-- where a walk over the edge of a table stands
pub record FrameWalk : Type 0 where
  pub rows : ℕ
  pub columns : ℕ
  pub row : ℕ
  pub col : ℕ

-- the places that are left of a walk over the edge of a table
abbrev pub frame_left : FrameWalk → List Position
frame_left s = filter (on_edge s.rows s.columns) (drop s.col (block s.row s.rows 0 s.columns))

-- a walk over the edge of a table stands there until it ends
abbrev pub StandsOnEdge : ℕ → ℕ → ℕ → ℕ → Type 0
StandsOnEdge rows columns row col = row < rows → 0 < columns → (col < columns) × (on_edge rows columns (place row col) ≡ true)

-- where an iterator stands that passes over some items of another one now, and over a gap each time from then on; that one may not be there
pub record Hops (S : Type 0) : Type 0 where
  pub source : Option S
  pub ahead : ℕ
  pub gap : ℕ

-- a call that passes over what is ahead, and leaves a gap to be passed over by the next
abbrev pub HopsOver : {S A : Type 0} → (S → Option A → S → Type 0) → ℕ → S × ℕ → Option A → S × ℕ → Type 0
HopsOver steps gap old item new = SkipsThenYields steps old.0 old.1 item new.0 × (new.1 ≡ gap)

-- the same, and nothing comes where no iterator is there
abbrev pub HopsIfAny : {S A : Type 0} → (S → Option A → S → Type 0) → Hops S → Option A → Hops S → Type 0
HopsIfAny {S} {A} steps old item new = (new.gap ≡ old.gap) × from old.source
  where
    from : Option S → Type 0
    from None = (item ≡ None) × (new.source ≡ None)
    from (Some s) = (left : S) × (new.source ≡ Some left) × HopsOver steps old.gap (s, old.ahead) item (left, new.ahead)

-- how much comes at most
abbrev pub hops_left : {S : Type 0} → (S → Count) → Option S → ℕ → ℕ → Count
hops_left left None ahead gap = at_most 0
hops_left left (Some s) ahead gap = count_map (λ n. (n - ahead + gap) / (gap + 1)) (left s)
