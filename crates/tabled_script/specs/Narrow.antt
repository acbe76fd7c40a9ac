-- Tables whose pictures have at most n columns.
use Rattle.std.specs.Prelude.{◌≡◌, ◌≤◌, ℕ, Bool, true, List, [], ◌∷◌, Option, None, Some, if◌then◌else◌, chars, length, max, nat_le, not}
use Rattle.std.specs.Io.KnownBytes.{Appends}
use Rattle.std.specs.List.{AllByRecursion}
use Rattle.tabled_draw.specs.Borders.{line_size}
use Rattle.tabled_draw.specs.Each.{each}
use Rattle.tabled_draw.specs.Marks.{IsFine}
use Rattle.tabled_draw.specs.Picture.{drawn_with, picture}
use Rattle.tabled_draw.specs.Sizes.{room, text_of_cell}
use Rattle.tabled_draw.specs.Texts.{text_width}
use Rattle.tabled_draw.specs.Width.{column_widths, picture_width}
use Rattle.tabled_draw.specs.declared.alignment.Alignment.{Alignment}
use Rattle.tabled_draw.specs.declared.style.Lines.{Lines}
use Rattle.tabled_draw.specs.declared.style.Style.{Style}
use Rattle.tabled_grid.specs.Entity.{place}
use Rattle.tabled_grid.specs.Fitting.{fitting, keep_fitting}
use Rattle.tabled_grid.specs.Grid.{Grid, grid_of}
use Rattle.tabled_grid.specs.Spans.{SpanMap, rectangles, size_at}
use Rattle.tabled_grid.specs.declared.config.position.Position.{Position}
use Rattle.tabled_grid.specs.declared.records.axis.Axis.TheVariants.{Columns}
use Rattle.tabled_script.specs.Limits.{limits}
use Rattle.tabled_width.specs.Pieces.{widest_piece, widest_word}
use Rattle.tabled_width.specs.Wraps.{wrapped}

-- how many columns a text may have, by its place
abbrev pub Room : Type 0
Room = Position → List ℕ → ℕ

-- the text at a place, wrapped between words to the columns that it may have: pieces of more columns stay whole
abbrev pub wrapped_at : Room → Grid (List ℕ) → Position → List ℕ
wrapped_at room g p = wrapped (max (room p (text_of_cell g p)) 1, true) (text_of_cell g p)

-- a table whose texts are wrapped
unfoldable pub wrapped_by : Room → Grid (List ℕ) → Grid (List ℕ)
wrapped_by room g = grid_of (each g.rows (λ i. each g.columns (λ j. wrapped_at room g (place i j) ∷ []) ∷ []))

-- each text has the columns of its widest word
abbrev pub at_widest_word : Room
at_widest_word p text = widest_word (chars text)

-- each text has the columns of its widest piece
abbrev pub at_widest_piece : Room
at_widest_piece p text = widest_piece (chars text)

-- each text has the columns of its cell, which may be merged, where columns have these widths
abbrev pub in_columns : Lines → SpanMap → List ℕ → Room
in_columns lines spans widths p text = room Columns (line_size lines (length widths)) widths p.col (size_at spans p).width

-- a table whose texts are cut as far as may be, each to its widest piece
abbrev pub at_widest_pieces : Grid (List ℕ) → Grid (List ℕ)
at_widest_pieces g = wrapped_by at_widest_piece g

-- the widths that the columns of a table are cut to
abbrev pub limits_of : ℕ → Style → SpanMap → Grid (List ℕ) → List ℕ
limits_of n style m g =
    limits n style.columns (column_widths style g m) (column_widths style (wrapped_by at_widest_word g) m) (column_widths style (at_widest_pieces g) m)

-- a table whose texts are cut to these widths
unfoldable pub cut_to : ℕ → Style → SpanMap → Grid (List ℕ) → Grid (List ℕ)
cut_to n style m g = wrapped_by (in_columns style.columns (keep_fitting g.rows g.columns m) (limits_of n style m g)) g

-- the picture of a table has at most n columns
abbrev pub fits : ℕ → Style → SpanMap → Grid (List ℕ) → Bool
fits n style m g = nat_le (picture_width style g m) n

-- the table that is drawn in at most n columns: as it is, or with its texts cut to the widths for n, or cut as far as may be; none where that is wider
unfoldable pub narrowed : ℕ → Style → SpanMap → Grid (List ℕ) → Option (Grid (List ℕ))
narrowed n style m g =
    if fits n style m g then Some g
    else if not (fits n style m (at_widest_pieces g)) then None
    else if fits n style m (cut_to n style m g) then Some (cut_to n style m g)
    else Some (at_widest_pieces g)

-- no line of a picture takes more than n columns, where no character of its borders takes more than one
abbrev pub HasNarrowLines : ℕ → Style → List Alignment → Grid (List ℕ) → SpanMap → Type 0
HasNarrowLines n style aligns g m = IsFine style → AllByRecursion (λ line. text_width line ≤ n) (picture style aligns g (fitting g.rows g.columns (rectangles m)))

-- the bytes of the picture of a table in at most n columns
pub record IsNarrowPicture (n : ℕ) (style : Style) (aligns : List Alignment) (g : Grid (List ℕ)) (m : SpanMap) (bytes : List ℕ) : Type 0 where
  pub table : Grid (List ℕ)
  pub narrowed : narrowed n style m g ≡ Some table
  pub narrow : HasNarrowLines n style aligns table m
  pub drawn : bytes ≡ drawn_with style aligns table m

-- such a picture was written
abbrev pub WritesNarrowPicture : ℕ → Style → List Alignment → Grid (List ℕ) → SpanMap → Option (List ℕ) → Option (List ℕ) → Type 0
WritesNarrowPicture n style aligns g m old new = (bytes : List ℕ) × IsNarrowPicture n style aligns g m bytes × Appends old new bytes
