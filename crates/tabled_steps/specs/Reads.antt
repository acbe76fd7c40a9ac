-- Tables of texts, each text by its place.
use Rattle.std.specs.Prelude.{ℕ, ◌+◌, ◌&&◌, if◌then◌else◌, List, [], map, max, nat_lt}
use Rattle.std.specs.List.{range_with_len}
use Rattle.std.specs.Option.{option_and_then, unwrap_or}
use Rattle.tabled_grid.specs.Entity.{place}
use Rattle.tabled_grid.specs.Grid.{Grid, cell_at}
use Rattle.tabled_grid.specs.declared.config.position.Position.{Position}
use Rattle.tabled_grid.specs.declared.records.axis.Axis.{Axis}
use Rattle.tabled_select.specs.Locators.{text_at}
use Rattle.tabled_settings.specs.Joined.{corner_of, joined_text}
use Rattle.tabled_grid.specs.Places.{Places}

-- r rows and c columns of texts, each by its place
abbrev pub texts_by_place : ℕ → ℕ → (Position → List ℕ) → Grid (List ℕ)
texts_by_place rows columns text = record { rows = rows; columns = columns; cells = map (λ (i : ℕ). map (λ (j : ℕ). text (place i j)) (range_with_len 0 columns)) (range_with_len 0 rows) }

-- the texts that a map of places takes from a table
abbrev pub read : Places → Grid (List ℕ) → Grid (List ℕ)
read places g = texts_by_place places.size.height places.size.width (λ (p : Position). unwrap_or (option_and_then (cell_at g) (places.old_place p)) [])

-- a table with a second one below it or right of it, with a default text where there is none of either
abbrev pub joined_tables : Axis → Grid (List ℕ) → List ℕ → Grid (List ℕ) → Grid (List ℕ)
joined_tables axis second default g = let corner = corner_of axis g.rows g.columns in
    texts_by_place (max g.rows (corner.row + second.rows)) (max g.columns (corner.col + second.columns)) (λ (p : Position). if nat_lt p.row g.rows && nat_lt p.col g.columns then text_at g p else joined_text corner second default p.row p.col)
