-- The owners of places: the merged cells that hold them, or the places themselves.
use Rattle.std.specs.Prelude.{◌≡◌, ◌+◌, ◌-◌, ◌<◌, ◌&&◌, if◌then◌else◌, ℕ, Bool, false, true, List, [], ◌∷◌, Option, None, Some, length, nat_le, nat_lt, slice_index_or, suc}
use Rattle.std.specs.Option.{unwrap_or}
use Rattle.tabled_grid.specs.Entity.{place, same_place}
use Rattle.tabled_grid.specs.Order.{is_before}
use Rattle.tabled_grid.specs.Owners.{owner_in}
use Rattle.tabled_grid.specs.Rectangles.{holds}
use Rattle.tabled_grid.specs.declared.config.position.Position.{Position}
use Rattle.tabled_grid.specs.declared.config.rectangle.Rectangle.{Rectangle}

-- what holds a place: a merged cell or the place itself; outside the table there is none
abbrev pub Owner : Type 0
Owner = Option Rectangle

-- the owner of a place in row i and column j, which count from 1: outside the table there is none
unfoldable pub owner : ℕ → ℕ → List Rectangle → ℕ → ℕ → Owner
owner rows columns es i j =
    if (nat_lt 0 i && nat_le i rows) && (nat_lt 0 j && nat_le j columns)
    then Some (owner_in es (place (i - 1) (j - 1)))
    else None

-- ---- rows of owners, and how they are found

-- the owners of the places of a row, which counts from 1, with none on both sides
pub record IsOwnerRow (rows columns : ℕ) (es : List Rectangle) (i : ℕ) (row : List Owner) : Type 0 where
  pub long : length row ≡ columns + 2
  pub each : (j : ℕ) → j < columns + 2 → slice_index_or row j None ≡ owner rows columns es i j

-- how many of the first anchors of a list stand before row i's column j
abbrev pub count_before : ℕ → ℕ → List Rectangle → ℕ
count_before i j [] = 0
count_before i j (e ∷ es) = if is_before e.first (place i j) then suc (count_before i j es) else 0

-- an owner's rectangle holds a place
abbrev pub is_held_by : Owner → Position → Bool
is_held_by None p = false
is_held_by (Some o) p = holds o p

-- an owner begins at a place
abbrev pub begins_at : Owner → Position → Bool
begins_at None p = false
begins_at (Some o) p = same_place o.first p

-- in row i each owner between those at both ends begins at its own place
abbrev pub BeginHere : ℕ → List Owner → Type 0
BeginHere i row = (j : ℕ) → j + 2 < length row → begins_at (slice_index_or row (j + 1) None) (place i j) ≡ true

-- the owner before a place, if it holds it, else the one above, if that does, else what begins there
abbrev pub chosen : Owner → Owner → Rectangle → Position → Rectangle
chosen before above begins p =
    if is_held_by before p then unwrap_or before begins
    else if is_held_by above p then unwrap_or above begins
    else begins
