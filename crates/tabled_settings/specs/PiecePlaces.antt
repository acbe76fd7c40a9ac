-- Where the cells of pieces come from, and pieces glued together.
use Rattle.std.specs.Prelude.{◌≡◌, ◌<◌, ℕ, if◌then◌else◌, Bool, false, List, [], Some, count_by, length, map, slice_index_or, take}
use Rattle.std.specs.Int.{div_ceil}
use Rattle.std.specs.List.{filter, flat_map, range_with_len}
use Rattle.tabled_grid.specs.Flat.{joined}
use Rattle.tabled_grid.specs.Grid.{Grid, map_grid}
use Rattle.tabled_grid.specs.Axis.{across, count_of, in_line, line_of}
use Rattle.tabled_grid.specs.Pieces.{cut_places, piece_index}
use Rattle.tabled_grid.specs.Places.{FillsThrough, Places}
use Rattle.tabled_grid.specs.Spans.{SpanMap, sized}
use Rattle.tabled_grid.specs.declared.config.position.Position.{Position}
use Rattle.tabled_grid.specs.declared.records.axis.Axis.{Axis}
use Rattle.tabled_grid.specs.declared.records.piece_order.PieceOrder.{PieceOrder}
use Rattle.tabled_grid.specs.declared.records.pieces.LinePieces.{LinePieces}
use Rattle.tabled_options.specs.Does.{Change}
use Rattle.tabled_settings.specs.declared.split.Display.{Display}
use Rattle.tabled_settings.specs.declared.split.Display.TheVariants.{Clean, Retain}
use Rattle.tabled_settings.specs.declared.split.Split.{Split}
use Rattle.tabled_settings.specs.Pieces.{clean_split, has_pieces, is_text, split, staying, oriented}
use Rattle.tabled_settings.specs.Rearranged.{carried_if}

-- each place keeps its cell
abbrev pub same_places : ℕ → ℕ → Places
same_places rows columns = record { size = sized rows columns; old_place = λ (p : Position). Some p }

-- some lines alone, in order: the t-th one is the t-th of these
abbrev pub thinned : Axis → List ℕ → Places → Places
thinned axis kept places = record {
  size = sized (count_of axis (length kept) places.size.height) (count_of axis places.size.width (length kept));
  old_place = λ (p : Position). places.old_place (in_line axis p (slice_index_or kept (line_of axis p) 0));
}

-- the lines that are shown: all of them, or those that are kept
abbrev pub shown_lines : Display → Axis → List ℕ → Places → Places
shown_lines Retain axis kept places = places
shown_lines Clean axis kept places = thinned axis kept places

-- the numbers of the pieces of rows that stay, in order
abbrev pub staying_pieces : Split → Grid (List ℕ) → List ℕ
staying_pieces s g = staying s (div_ceil g.columns s.index) g.cells

-- the pieces of lines that a clean split keeps
abbrev pub clean_pieces : LinePieces → Grid (List ℕ) → List ℕ
clean_pieces pieces g = staying_pieces (clean_split pieces) (oriented pieces.axis g)

-- where the cells of the pieces that stay come from, in a grid of these texts
abbrev pub split_places : Split → Grid (List ℕ) → Places
split_places s g = if has_pieces s g.rows g.columns then shown_lines s.display s.lines (staying_pieces s (oriented s.lines g)) (cut_places s.lines s.behavior s.index (count_of s.lines g.rows g.columns) (count_of (across s.lines) g.rows g.columns)) else same_places g.rows g.columns

-- the texts are those of the pieces that stay, each cell is the old one of its place or a blank, and where there are no pieces the grid is as it was
pub record Splits {A : Type 0} (is_blank : A → Type 0) (text_of : A → List ℕ) (s : Split) (old new : Grid A) : Type 0 where
  pub texts : map_grid text_of new ≡ split s (map_grid text_of old)
  pub cells : FillsThrough is_blank (split_places s (map_grid text_of old)) old new
  pub unsplit : has_pieces s old.rows old.columns ≡ false → new ≡ old

-- the merged cells of a table of these texts, once its lines are cut: as they were where there are no pieces
abbrev pub spans_of_split : Split → Grid (List ℕ) → SpanMap → SpanMap
spans_of_split s g m = carried_if (has_pieces s g.rows g.columns) (split_places s g) g.rows g.columns m

-- the lines of a table are cut, and the merged cells are carried along
abbrev pub SplitsTable : {A : Type 0} → (A → Type 0) → (A → List ℕ) → Split → Change A SpanMap
SplitsTable is_blank text_of s old cfg new new_cfg = Splits is_blank text_of s old new × (new_cfg ≡ spans_of_split s (map_grid text_of old) cfg)

-- the pieces of line i, one after the other, cut at a width
abbrev pub glued_line : {A : Type 0} → PieceOrder → ℕ → ℕ → ℕ → List (List A) → ℕ → List A
glued_line order lines pieces width rows i = take width (flat_map (λ (k : ℕ). slice_index_or rows (piece_index order lines pieces i k) []) (range_with_len 0 pieces))

-- r rows of c cells, from the rows that are their pieces
abbrev pub glue_rows : {A : Type 0} → Split → ℕ → ℕ → Grid A → Grid A
glue_rows s lines width h = record { rows = lines; columns = width; cells = map (glued_line s.behavior lines (div_ceil width s.index) width h.cells) (range_with_len 0 lines) }

-- a table of r rows and c columns, from the rows, or the columns, that are the pieces of its own
abbrev pub glued : {A : Type 0} → Split → ℕ → ℕ → Grid A → Grid A
glued s rows columns h = oriented s.lines (glue_rows s (count_of s.lines rows columns) (count_of (across s.lines) rows columns) (oriented s.lines h))

-- a table with a row and a column is the pieces of its split glued together, where all were kept
abbrev pub IsGluedBack : Split → Grid (List ℕ) → Grid (List ℕ) → Type 0
IsGluedBack s old new = 0 < old.rows → 0 < old.columns → 0 < s.index → s.display ≡ Retain → glued s old.rows old.columns new ≡ old

-- the texts that aren't empty, row by row or column by column
abbrev pub texts_along : Axis → Grid (List ℕ) → List (List ℕ)
texts_along axis g = filter is_text (joined (oriented axis g).cells)

-- how many of these pass a test
abbrev pub count_texts : (List ℕ → Bool) → Axis → Grid (List ℕ) → ℕ
count_texts p axis g = count_by p (texts_along axis g)

-- a table that is split, with all pieces kept
abbrev pub all_pieces : Split → Grid (List ℕ) → Grid (List ℕ)
all_pieces s g = split (record s { display = Retain }) g
