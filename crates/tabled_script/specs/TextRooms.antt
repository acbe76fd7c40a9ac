-- How the texts of a table are wrapped, row by row.
use Rattle.std.specs.Prelude.{◌≡◌, ◌<◌, ℕ, List, [], ◌∷◌, length}
use Rattle.tabled_draw.specs.Each.{each}
use Rattle.tabled_grid.specs.Entity.{place}
use Rattle.tabled_grid.specs.Fitting.{Fits}
use Rattle.tabled_grid.specs.Grid.{Grid}
use Rattle.tabled_grid.specs.declared.config.position.Position.{Position}
use Rattle.tabled_script.specs.Narrow.{Room, at_widest_piece, at_widest_word, in_columns, wrapped_at}
use Rattle.tabled_script.specs.declared.text_rooms.Columns.{Columns}
use Rattle.tabled_script.specs.declared.text_rooms.TextRoom.{TextRoom}
use Rattle.tabled_script.specs.declared.text_rooms.TextRoom.TheVariants.{Cell, WidestPiece, WidestWord}

-- the room of the text at a place in columns
abbrev pub room_in : Columns → Position → ℕ
room_in c p = in_columns c.lines c.spans.now c.widths.now p []

-- how many columns a text may have
abbrev pub room_of : TextRoom → Room
room_of WidestWord = at_widest_word
room_of WidestPiece = at_widest_piece
room_of (Cell c) = in_columns c.lines c.spans.now c.widths.now

-- these are the columns of a table, whose merged cells fit
pub record AreColumns (c : Columns) (rows columns : ℕ) : Type 0 where
  pub fits : Fits c.spans.now rows columns
  pub each : 0 < rows → length c.widths.now ≡ columns

-- the columns of cells are those of a table
abbrev pub HasColumns : TextRoom → ℕ → ℕ → Type 0
HasColumns WidestWord rows columns = Unit {0}
HasColumns WidestPiece rows columns = Unit {0}
HasColumns (Cell c) rows columns = AreColumns c rows columns

-- the texts of a row
abbrev pub wrapped_row : Room → Grid (List ℕ) → ℕ → List (List ℕ)
wrapped_row room g i = each g.columns (λ j. wrapped_at room g (place i j) ∷ [])

-- the texts of all rows
abbrev pub wrapped_rows : Room → Grid (List ℕ) → List (List (List ℕ))
wrapped_rows room g = each g.rows (λ i. wrapped_row room g i ∷ [])
