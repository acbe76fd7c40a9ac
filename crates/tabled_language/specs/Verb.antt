-- The verbs of the language: the words that a line may begin with, and what each says.
use Rattle.std.specs.Prelude.{ℕ, ◌*◌, Bool, true, false, List, [], ◌∷◌, codes, if◌then◌else◌, None, Some, Result, Ok, Err, take, drop, map, length, nat_le}
use Rattle.std.specs.List.{range_with_len}
use Rattle.std.specs.Str.{bytes_eq}
use Rattle.tabled_grid.specs.Grid.{Grid}
use Rattle.tabled_grid.specs.declared.config.offset.Offset.{Offset}
use Rattle.tabled_grid.specs.declared.config.offset.Offset.TheVariants.{End, Start}
use Rattle.tabled_grid.specs.declared.records.axis.Axis.{Axis}
use Rattle.tabled_grid.specs.declared.records.axis.Axis.TheVariants.{Columns, Rows}
use Rattle.tabled_settings.specs.declared.rotate.Rotate.{Rotate}
use Rattle.tabled_settings.specs.declared.rotate.Rotate.TheVariants.{Bottom, Left, Right, Top}
use Rattle.tabled_grid.specs.declared.records.piece_order.PieceOrder.{PieceOrder}
use Rattle.tabled_grid.specs.declared.config.rectangle.Rectangle.{Rectangle}
use Rattle.tabled_grid.specs.declared.records.piece_order.PieceOrder.TheVariants as order
use Rattle.tabled_settings.specs.declared.split.Display.{Display}
use Rattle.tabled_settings.specs.declared.split.Display.TheVariants as display
use Rattle.tabled_spans.specs.Widths as widths
use Rattle.tabled_settings.specs.Sorted.{text_order}
use Rattle.tabled_settings.specs.declared.sort.SortKeys.{SortKeys}
use Rattle.tabled_settings.specs.declared.sort.SortKeys.TheVariants.{Numbers, Texts}
use Rattle.tabled_steps.specs.Rearrangements.{extract, keep, remove_named, remove_range, sort_rows, turn}
use Rattle.tabled_steps.specs.States.{State, cut_lines, duplicate, join, merge, merge_all, on_each, put_panel, rearrange, recode, replace, reverse, set, span, truncate, wrap}
use Rattle.tabled_language.specs.declared.fault.Fault.{Fault}
use Rattle.tabled_language.specs.declared.fault.Fault.TheVariants.{WordCount}
use Rattle.tabled_language.specs.LineNames.{columns_told, reads_column, reads_named_lines, rows_told}
use Rattle.tabled_language.specs.Selectors.{reads_cells}
use Rattle.tabled_language.specs.Sizes.{reads_anchor, reads_shape}
use Rattle.tabled_language.specs.Words.{Choices, Reading, behind, gives, kept, then_reads, reads_or, reads_positive_number, reads_integer, reads_length, reads_number, reads_one_of, reads_text, reads_two, whole}

-- what a line says: nothing, a table's shape, a record, an anchor, what it makes of a table's state, or a fault.
-- A shape and an anchor stand with the fault of their words: the line may be out of place before these are read
pub data Line : Type 0 where
  EmptyLine : Line
  ShapeLine : Result (ℕ × ℕ) Fault → Line
  RecordLine : List (List ℕ) → Line
  SpanLine : Result Rectangle Fault → Line
  StepLine : (State → State) → Line
  FaultyLine : Fault → Line

-- a step that was read, or the fault in its words
abbrev pub step_line : Result (State → State) Fault → Line
step_line (Ok step) = StepLine step
step_line (Err fault) = FaultyLine fault

-- `rows` or `columns`
abbrev pub reads_lines : Reading Axis
reads_lines = reads_one_of ((codes "rows", gives Rows) ∷ (codes "columns", gives Columns) ∷ [])

-- `start` or `end`, and a number from there
abbrev pub offsets : Choices Offset
offsets = (codes "start", then_reads reads_number (λ n. gives (Start n))) ∷ (codes "end", then_reads reads_number (λ n. gives (End n))) ∷ []

-- an offset
abbrev pub reads_offset : Reading Offset
reads_offset = reads_one_of offsets

-- `column`, which cuts rows, or `row`, which cuts columns
abbrev pub reads_cut_lines : Reading Axis
reads_cut_lines = reads_one_of ((codes "column", gives Rows) ∷ (codes "row", gives Columns) ∷ [])

-- `zip` or `concat`
abbrev pub reads_behavior : Reading PieceOrder
reads_behavior = reads_one_of ((codes "zip", gives order.Zip) ∷ (codes "concat", gives order.Concat) ∷ [])

-- `clean` or `retain`
abbrev pub reads_display : Reading Display
reads_display = reads_one_of ((codes "clean", gives display.Clean) ∷ (codes "retain", gives display.Retain) ∷ [])

-- a quarter turn, or upside down
abbrev pub reads_rotate : Reading Rotate
reads_rotate = reads_one_of ((codes "left", gives Left) ∷ (codes "right", gives Right) ∷ (codes "top", gives Top) ∷ (codes "bottom", gives Bottom) ∷ [])

-- `vertical`, which joins below, or `horizontal`, which joins on the right
abbrev pub reads_side : Reading Axis
reads_side = reads_one_of ((codes "vertical", gives Rows) ∷ (codes "horizontal", gives Columns) ∷ [])

-- r rows of c texts
abbrev pub rows_of_texts : ℕ → ℕ → List (List ℕ) → Grid (List ℕ)
rows_of_texts rows columns texts = record { rows = rows; columns = columns; cells = map (λ (i : ℕ). take columns (drop (i * columns) texts)) (range_with_len 0 rows) }

-- these rows, where there are words enough
abbrev pub reads_rows : ℕ → ℕ → Reading (Grid (List ℕ))
reads_rows rows columns = kept (record {
  reads = λ texts. if nat_le (rows * columns) (length texts) then Ok (rows_of_texts rows columns texts, drop (rows * columns) texts) else Err WordCount;
  asks = λ texts. false;
})

-- a table of at least one row and one column: how many, and then its texts, row by row
abbrev pub reads_table : Reading (Grid (List ℕ))
reads_table = then_reads reads_positive_number (λ rows. then_reads reads_positive_number (λ columns. reads_rows rows columns))

-- a selector and a text to write
abbrev pub reads_set : Reading (State → State)
reads_set = then_reads reads_cells (λ named. then_reads reads_text (λ text. gives (on_each (set text) named)))

-- a destination and a source
abbrev pub reads_dup : Reading (State → State)
reads_dup = then_reads reads_cells (λ destination. then_reads reads_cells (λ source. gives (duplicate destination source)))

-- a selector of texts to clean
abbrev pub reads_clean : Reading (State → State)
reads_clean = then_reads reads_cells (λ named. gives (on_each (recode (true, None)) named))

-- how many spaces a tab becomes, and a selector
abbrev pub reads_tabs : Reading (State → State)
reads_tabs = then_reads reads_number (λ n. then_reads reads_cells (λ named. gives (on_each (recode (false, Some n)) named)))

-- how many columns a line has at most, and a selector of texts, cut between words
abbrev pub reads_wrap : Reading (State → State)
reads_wrap = then_reads reads_number (λ n. then_reads reads_cells (λ named. gives (on_each (wrap (n, true)) named)))

-- how many columns a line has at most, and a selector of texts, cut there, with an ellipsis
abbrev pub reads_truncate : Reading (State → State)
reads_truncate = then_reads reads_number (λ n. then_reads reads_cells (λ named. gives (on_each (truncate n (0xE2 ∷ 0x80 ∷ 0xA6 ∷ [])) named)))

-- a part of texts, what is in its place then, and a selector
abbrev pub reads_replace : Reading (State → State)
reads_replace = then_reads reads_text (λ from. then_reads reads_text (λ to. then_reads reads_cells (λ named. gives (on_each (replace from to) named))))

-- a size and a selector
abbrev pub reads_span : Axis → Reading (State → State)
reads_span axis = then_reads reads_integer (λ size. then_reads reads_cells (λ named. gives (on_each (span axis size) named)))

-- `vertical` or `horizontal`, and a selector of cells whose equal neighbours are merged
abbrev pub reads_merge : Reading (State → State)
reads_merge = then_reads reads_side (λ axis. then_reads reads_cells (λ named. gives (on_each (merge axis) named)))

-- the text of a row above all others
abbrev pub reads_header : Reading (State → State)
reads_header = then_reads reads_text (λ text. gives (put_panel Rows 0 text))

-- the text of a row below all others
abbrev pub reads_footer : Reading (State → State)
reads_footer = then_reads reads_text (λ text. gives (λ s. put_panel Rows s.texts.rows text s))

-- a row or a column, and a text
abbrev pub reads_panel : Axis → Reading (State → State)
reads_panel axis = then_reads reads_number (λ n. then_reads reads_text (λ text. gives (put_panel axis n text)))

-- a column, a width and a text
abbrev pub reads_cut_panel : Reading (State → State)
reads_cut_panel = then_reads reads_number (λ n. then_reads reads_number (λ width. then_reads reads_text (λ text. gives (put_panel Columns n (widths.cut width text)))))

-- a way to turn
abbrev pub reads_turn : Reading (State → State)
reads_turn = then_reads reads_rotate (λ how. gives (rearrange (turn how)))

-- rows or columns, the first of them and the limit
abbrev pub reads_reverse : Reading (State → State)
reads_reverse = then_reads reads_lines (λ axis. then_reads reads_number (λ start. then_reads reads_offset (λ limit. gives (reverse (record { axis = axis; start = start; limit = limit })))))

-- a range of rows and one of columns
abbrev pub reads_extract : Reading (State → State)
reads_extract = then_reads (reads_two reads_number) (λ rows. then_reads (reads_two reads_number) (λ columns. gives (rearrange (extract rows.0 rows.1 columns.0 columns.1))))

-- what `remove` takes away: rows or columns of a range, or columns with a name
abbrev pub removals : Choices (State → State)
removals =
    (codes "rows", then_reads (reads_two reads_number) (λ two. gives (rearrange (remove_range Rows two.0 two.1))))
    ∷ (codes "columns", then_reads (reads_two reads_number) (λ two. gives (rearrange (remove_range Columns two.0 two.1))))
    ∷ (codes "named", then_reads reads_text (λ name. gives (rearrange (remove_named name))))
    ∷ []

-- what `keep` keeps: rows or columns, each once, in the order in which they are named
abbrev pub keeps : Choices (State → State)
keeps =
    (codes "rows", then_reads (reads_named_lines rows_told) (λ lines. gives (rearrange (keep Rows lines))))
    ∷ (codes "columns", then_reads (reads_named_lines columns_told) (λ lines. gives (rearrange (keep Columns lines))))
    ∷ []

-- `text` or `number`
abbrev pub reads_keys : Reading SortKeys
reads_keys = reads_one_of ((codes "text", gives Texts) ∷ (codes "number", gives Numbers) ∷ [])

-- `down`, or nothing
abbrev pub reads_descending : Reading Bool
reads_descending = reads_or false (reads_one_of ((codes "down", gives true) ∷ []))

-- the row from which on rows are sorted, the column that they are sorted by, as what, and whether the largest comes first
abbrev pub reads_row_sort : Reading (State → State)
reads_row_sort = then_reads reads_length (λ from. then_reads reads_column (λ column. then_reads reads_keys (λ keys. then_reads reads_descending (λ descending. gives (rearrange (sort_rows from (text_order keys descending) column))))))

-- what `sort` sorts: rows
abbrev pub sorts : Choices (State → State)
sorts = (codes "rows", reads_row_sort) ∷ []

-- a side, a default text and a table
abbrev pub reads_concat : Reading (State → State)
reads_concat = then_reads reads_side (λ axis. then_reads reads_text (λ default. then_reads reads_table (λ second. gives (join axis second default))))

-- what is cut, into how many, the order of the pieces and which of them stay
abbrev pub reads_split : Reading (State → State)
reads_split = then_reads reads_cut_lines (λ lines. then_reads reads_number (λ index. then_reads reads_behavior (λ pieces. then_reads reads_display (λ shown. gives (cut_lines (record { lines = lines; behavior = pieces; display = shown; index = index }))))))

-- the verbs of steps, and what is read after each
abbrev pub steps : Choices (State → State)
steps =
    (codes "set", reads_set)
    ∷ (codes "dup", reads_dup)
    ∷ (codes "clean", reads_clean)
    ∷ (codes "tabs", reads_tabs)
    ∷ (codes "wrap", reads_wrap)
    ∷ (codes "truncate", reads_truncate)
    ∷ (codes "replace", reads_replace)
    ∷ (codes "cspan", reads_span Columns)
    ∷ (codes "rspan", reads_span Rows)
    ∷ (codes "vmerge", gives (merge_all Rows))
    ∷ (codes "hmerge", gives (merge_all Columns))
    ∷ (codes "merge", reads_merge)
    ∷ (codes "header", reads_header)
    ∷ (codes "footer", reads_footer)
    ∷ (codes "hpanel", reads_panel Rows)
    ∷ (codes "vpanel", reads_panel Columns)
    ∷ (codes "vpanelw", reads_cut_panel)
    ∷ (codes "rotate", reads_turn)
    ∷ (codes "reverse", reads_reverse)
    ∷ (codes "extract", reads_extract)
    ∷ (codes "remove", reads_one_of removals)
    ∷ (codes "keep", reads_one_of keeps)
    ∷ (codes "sort", reads_one_of sorts)
    ∷ (codes "concat", reads_concat)
    ∷ (codes "split", reads_split)
    ∷ []

-- what the texts after `shape` say
abbrev pub says_shape : List (List ℕ) → Line
says_shape texts = ShapeLine (whole reads_shape texts)

-- what the texts after `span` say
abbrev pub says_span : List (List ℕ) → Line
says_span texts = SpanLine (whole reads_anchor texts)

-- what the texts after the verb of a step say
abbrev pub says_step : List ℕ → List (List ℕ) → Line
says_step verb texts = step_line (whole (behind steps verb) texts)

-- what any verb but `row` says with the texts after it
abbrev pub says_verb : List ℕ → List (List ℕ) → Line
says_verb verb texts =
    if bytes_eq verb (codes "shape") then says_shape texts
    else (if bytes_eq verb (codes "span") then says_span texts
    else says_step verb texts)

-- what a verb says with the texts after it
abbrev pub says : List ℕ → List (List ℕ) → Line
says verb texts = if bytes_eq verb (codes "row") then RecordLine texts else says_verb verb texts
