-- Where the number of anchors that hide each cell of a block stands.
use Rattle.std.specs.Prelude.{◌≡◌, ◌≤◌, ◌^◌, ℕ, List, length, take}
use Rattle.tabled_grid.specs.Covers.{IsNumbered, area}
use Rattle.tabled_grid.specs.declared.config.cover_map.CellCounts.{CellCounts}
use Rattle.tabled_grid.specs.declared.config.cover_map.CellCounts.TheVariants.{Few, Many}
use Rattle.tabled_grid.specs.declared.config.rectangle.Rectangle.{Rectangle}

-- the first n numbers
abbrev pub counts_of : ℕ → CellCounts → List ℕ
counts_of n (Few counts) = take n counts
counts_of n (Many counts) = counts.items

-- eight numbers, of which some stand for the cells of a block
pub record IsFew (counts : List ℕ) (cells : Rectangle) : Type 0 where
  pub size : length counts ≡ 8
  pub few : area cells.size ≤ 8
  pub fits : IsNumbered (2 ^ 128) cells

-- a number for each cell of a block
pub record IsMany (counts : List ℕ) (cells : Rectangle) : Type 0 where
  pub size : length counts ≡ area cells.size
  pub fits : IsNumbered (2 ^ 64) cells

-- there is a number for each cell of a block, and it is never too small
abbrev pub CountsBlock : CellCounts → Rectangle → Type 0
CountsBlock (Few counts) = IsFew counts
CountsBlock (Many counts) = IsMany counts.items
