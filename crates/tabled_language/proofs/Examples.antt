-- Scripts with shapes and spans, read.
use Rattle.tabled_language.proofs.Common.{[], ◌∙◌, ◌∷◌, ◌≡◌, AreAnchors, Err, List, Ok, Rectangle, ap, codes, listed-spans, pairs, parse, place, print, refl, sized, start, ℕ, rectangle, rectangles, rectangles-map_of, from_rectangles}
use Rattle.std.specs.Str.{chars, is_utf8}
use Rattle.std.specs.Fmt.{digits}
use Rattle.tabled_language.specs.declared.fault.Fault.TheVariants as fault
use Rattle.tabled_language.proofs.BackToAnchors.{sorted_map}

-- a shape without columns, and one of nothing
no_columns : parse (codes "shape\t2\t0\nrow\nrow\n") ≡ Ok (record { records = [] ∷ [] ∷ []; spans = from_rectangles []; steps = [] })
unfolding is_utf8 chars lib.Utf8.encode
no_columns = refl

no_rows : parse (codes "shape\t0\t0\n") ≡ Ok (record { records = []; spans = from_rectangles []; steps = [] })
unfolding is_utf8 chars lib.Utf8.encode
no_rows = refl

-- a rectangle that leaves the table, one cell, and no table
leaves : parse (codes "row\ta\tb\nspan\t0\t1\t1\t2\n") ≡ Err (2, fault.SpanMisfits)
unfolding is_utf8 chars lib.Utf8.encode
leaves = refl

one_cell : parse (codes "row\ta\tb\nspan\t0\t0\t1\t1\n") ≡ Err (2, fault.NumberRange)
unfolding is_utf8 chars lib.Utf8.encode
one_cell = refl

no_table : parse (codes "span\t0\t0\t1\t2") ≡ Err (1, fault.SpanMisfits)
unfolding is_utf8 chars lib.Utf8.encode
no_table = refl

-- a shape that differs, and a fault of a line before it
differs : parse (codes "shape\t1\t3\nrow\ta\tb\n") ≡ Err (1, fault.ShapeDiffers)
unfolding is_utf8 chars lib.Utf8.encode
differs = refl

unknown : parse (codes "shape\t2\t1\nspin\n") ≡ Err (2, fault.UnknownWord)
unfolding is_utf8 chars lib.Utf8.encode
unknown = refl

-- lines out of place
span_behind_step : parse (codes "row\ta\nvmerge\nspan\t0\t0\t1\t2\n") ≡ Err (3, fault.OutOfPlace)
unfolding is_utf8 chars lib.Utf8.encode
span_behind_step = refl

shape_behind_row : parse (codes "row\ta\nshape\t1\t1\n") ≡ Err (2, fault.OutOfPlace)
unfolding is_utf8 chars lib.Utf8.encode
shape_behind_row = refl

-- merged cells
spanned : parse (codes "row\ta\tb\nspan\t0\t0\t1\t2\n") ≡ Ok (record { records = (codes "a" ∷ codes "b" ∷ []) ∷ []; spans = from_rectangles (rectangle (place 0 0) (sized 1 2) ∷ []); steps = [] })
unfolding is_utf8 chars lib.Utf8.encode
spanned = refl

-- Places come before words, and words before checks of the whole.
place_first : parse (codes "row\ta\nshape\tx\n") ≡ Err (2, fault.OutOfPlace)
unfolding is_utf8 chars lib.Utf8.encode
place_first = refl

words_first : parse (codes "row\ta\nspan\t0\t1\t1\t2\nspan\t0\t0\t2\n") ≡ Err (3, fault.WordCount)
unfolding is_utf8 chars lib.Utf8.encode
words_first = refl

shape_before_span : parse (codes "shape\t2\t2\nrow\ta\tb\nspan\t5\t5\t1\t2\n") ≡ Err (1, fault.ShapeDiffers)
unfolding is_utf8 chars lib.Utf8.encode
shape_before_span = refl

-- The later of two lines that share a cell is at fault, wherever its anchor stands.
later_is_at_fault : parse (codes "row\ta\tb\tc\nspan\t0\t1\t1\t2\nspan\t0\t0\t1\t2\n") ≡ Err (3, fault.SpanMisfits)
unfolding is_utf8 chars lib.Utf8.encode
later_is_at_fault = refl

twice : parse (codes "row\ta\tb\nspan\t0\t0\t1\t2\nspan\t0\t0\t1\t2\n") ≡ Err (3, fault.SpanMisfits)
unfolding is_utf8 chars lib.Utf8.encode
twice = refl

-- `usize::MAX` is a number, and one more is none.
largest : parse (codes "shape\t18446744073709551615\t0018446744073709551615\n") ≡ Err (1, fault.ShapeDiffers)
unfolding is_utf8 chars lib.Utf8.encode
largest = refl

too_large : parse (codes "shape\t18446744073709551616\t0\n") ≡ Err (1, fault.NumberRange)
unfolding is_utf8 chars lib.Utf8.encode
too_large = refl

-- the order within a line: one cell is found at the width, before a word that is left over
at_width : parse (codes "row\ta\tb\nspan\t0\t0\t1\t1\t9\n") ≡ Err (2, fault.NumberRange)
unfolding is_utf8 chars lib.Utf8.encode
at_width = refl

-- a span may stand before any step, and a shape after empty lines
shape_behind_nothing : parse (codes "\n\nshape\t1\t1\n\nrow\ta\n") ≡ Ok (record { records = (codes "a" ∷ []) ∷ []; spans = from_rectangles []; steps = [] })
unfolding is_utf8 chars lib.Utf8.encode
shape_behind_nothing = refl

row_behind_span : parse (codes "row\ta\tb\nspan\t0\t0\t1\t2\nrow\tc\n") ≡ Err (3, fault.OutOfPlace)
unfolding is_utf8 chars lib.Utf8.encode
row_behind_span = refl

twice_a_shape : parse (codes "shape\t0\t0\nshape\t0\t0\n") ≡ Err (2, fault.OutOfPlace)
unfolding is_utf8 chars lib.Utf8.encode
twice_a_shape = refl

-- a table, printed, and read
printed : List ℕ
printed = codes "shape\t4\t4\nrow\tN\t\t\t\nrow\t0\tS\t1\t2\nrow\t1\t\t2\t3\nrow\t4\t\t5\t6\nspan\t0\t0\t1\t4\nspan\t1\t1\t3\t1\n"

rows : List (List (List ℕ))
rows =
    (codes "N" ∷ [] ∷ [] ∷ [] ∷ [])
    ∷ (codes "0" ∷ codes "S" ∷ codes "1" ∷ codes "2" ∷ [])
    ∷ (codes "1" ∷ [] ∷ codes "2" ∷ codes "3" ∷ [])
    ∷ (codes "4" ∷ [] ∷ codes "5" ∷ codes "6" ∷ [])
    ∷ []

anchors : List Rectangle
anchors = rectangle (place 0 0) (sized 1 4) ∷ rectangle (place 1 1) (sized 3 1) ∷ []

table_read : parse printed ≡ Ok (record { records = rows; spans = from_rectangles anchors; steps = [] })
unfolding is_utf8 chars lib.Utf8.encode printed rows anchors
table_read = refl

anchors_valid : AreAnchors anchors
unfolding anchors
anchors_valid = record { sorted = tt; sizes = listed-spans (pairs anchors) refl }

anchors_again : rectangles (from_rectangles anchors) ≡ anchors
anchors_again = ap rectangles (sorted_map anchors anchors_valid) ∙ rectangles-map_of anchors anchors_valid

-- it is written again
table_again : print (start (record { records = rows; spans = from_rectangles anchors; steps = [] })) ≡ printed
unfolding digits printed rows anchors
table_again = rw anchors_again refl

-- another one
blank_cell : parse (codes "shape\t2\t2\nrow\ta\tx\nrow\tc\t\nspan\t1\t0\t1\t2\n") ≡ Ok (record { records = (codes "a" ∷ codes "x" ∷ []) ∷ (codes "c" ∷ [] ∷ []) ∷ []; spans = from_rectangles (rectangle (place 1 0) (sized 1 2) ∷ []); steps = [] })
unfolding is_utf8 chars lib.Utf8.encode
blank_cell = refl

abbrev blank_cell_anchors : List Rectangle
blank_cell_anchors = rectangle (place 1 0) (sized 1 2) ∷ []

blank_cell_anchors_again : rectangles (from_rectangles blank_cell_anchors) ≡ blank_cell_anchors
blank_cell_anchors_again =
    let valid : AreAnchors blank_cell_anchors = record { sorted = tt; sizes = listed-spans (pairs blank_cell_anchors) refl } in
    ap rectangles (sorted_map blank_cell_anchors valid) ∙ rectangles-map_of blank_cell_anchors valid

blank_cell_again : print (start (record { records = (codes "a" ∷ codes "x" ∷ []) ∷ (codes "c" ∷ [] ∷ []) ∷ []; spans = from_rectangles (rectangle (place 1 0) (sized 1 2) ∷ []); steps = [] })) ≡ codes "shape\t2\t2\nrow\ta\tx\nrow\tc\t\nspan\t1\t0\t1\t2\n"
unfolding digits
blank_cell_again = rw blank_cell_anchors_again refl
