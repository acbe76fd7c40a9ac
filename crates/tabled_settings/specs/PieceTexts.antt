-- Cells with a text.
use Rattle.std.specs.Prelude.{◌≡◌, ◌<◌, ◌≤◌, ℕ, Bool, true, false, List, [], unwrap_or}
use Rattle.tabled_grid.specs.Axis.{place_in}
use Rattle.tabled_grid.specs.Grid.{Grid, cell_at}
use Rattle.tabled_grid.specs.declared.config.position.Position.{Position}
use Rattle.tabled_grid.specs.declared.records.axis.Axis.{Axis}
use Rattle.tabled_settings.specs.Pieces.{is_text}

-- the text at a place isn't empty
abbrev pub has_text : Grid (List ℕ) → Position → Bool
has_text g p = is_text (unwrap_or (cell_at g p) [])

-- some of the cells a, a + 1 and so on before b of a line have a text
abbrev pub SomeText : Grid (List ℕ) → Axis → ℕ → ℕ → ℕ → Type 0
SomeText g axis line a b = (j : ℕ) × (a ≤ j) × (j < b) × (has_text g (place_in axis line j) ≡ true)

-- none of them has one
abbrev pub NoText : Grid (List ℕ) → Axis → ℕ → ℕ → ℕ → Type 0
NoText g axis line a b = (j : ℕ) → a ≤ j → j < b → has_text g (place_in axis line j) ≡ false
