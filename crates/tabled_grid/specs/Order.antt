-- The order of places: row by row.
use Rattle.std.specs.Prelude.{◌≡◌, ◌<◌, ◌≤◌, ◌⊎◌, ◌==◌, ◌&&◌, ◌||◌, Bool, nat_lt}
use Rattle.tabled_grid.specs.declared.config.position.Position.{Position}

-- the place comes before another one, row by row
abbrev pub is_before : Position → Position → Bool
is_before p q = nat_lt p.row q.row || ((p.row == q.row) && nat_lt p.col q.col)

-- it is in a row before, or further left in the same row
abbrev pub IsBefore : Position → Position → Type 0
IsBefore p q = (p.row < q.row) ⊎ ((p.row ≡ q.row) × (p.col < q.col))

-- the place is another one or comes after it, row by row
abbrev pub IsFrom : Position → Position → Type 0
IsFrom p q = (q.row < p.row) ⊎ ((p.row ≡ q.row) × (q.col ≤ p.col))
