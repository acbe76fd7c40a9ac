-- Worked rows of carried rectangles.
use Rattle.tabled_carry.proofs.Common.{[], ◌-◌, ◌∷◌, ◌≡◌, List, Places, Position, Rectangle, Rows, Some, cut_places, fitting, images, place, rectangle, refl, sized, slice_index_or, ℕ}
use Rattle.std.specs.Prelude.{length}
use Rattle.tabled_grid.specs.declared.records.piece_order.PieceOrder.TheVariants.{Concat, Zip}

-- a turn to the left
abbrev left : ℕ → ℕ → Places
left rows columns = record { size = sized columns rows; old_place = λ (p : Position). Some (place p.col (columns - 1 - p.row)) }

-- upside down
abbrev top : ℕ → ℕ → Places
top rows columns = record { size = sized rows columns; old_place = λ (p : Position). Some (place (rows - 1 - p.row) p.col) }

-- all columns in the opposite order
abbrev mirrored : ℕ → ℕ → Places
mirrored rows columns = record { size = sized rows columns; old_place = λ (p : Position). Some (place p.row (columns - 1 - p.col)) }

-- the columns of a list alone
abbrev columns_of : List ℕ → ℕ → ℕ → Places
columns_of kept rows columns = record { size = sized rows columns; old_place = λ (p : Position). Some (place p.row (slice_index_or kept p.col 0)) }

-- the anchors of what becomes of those of a list
abbrev after : Places → ℕ → ℕ → List Rectangle → List Rectangle
after places rows columns es = images places (fitting rows columns es)

rotated_left : after (left 2 3) 2 3 (rectangle (place 0 0) (sized 1 2) ∷ []) ≡ rectangle (place 1 0) (sized 2 1) ∷ []
rotated_left = refl

reversed_columns : after (mirrored 2 3) 2 3 (rectangle (place 0 0) (sized 2 1) ∷ []) ≡ rectangle (place 0 2) (sized 2 1) ∷ []
reversed_columns = refl

extracted_columns : after (columns_of (1 ∷ 2 ∷ []) 2 2) 2 3 (rectangle (place 0 1) (sized 1 2) ∷ []) ≡ rectangle (place 0 0) (sized 1 2) ∷ []
extracted_columns = refl

removed_column : after (columns_of (0 ∷ 2 ∷ []) 2 2) 2 3 (rectangle (place 0 0) (sized 1 3) ∷ []) ≡ []
removed_column = refl

split_between : after (cut_places Rows Zip 2 1 4) 1 4 (rectangle (place 0 0) (sized 1 2) ∷ rectangle (place 0 2) (sized 1 2) ∷ []) ≡ rectangle (place 0 0) (sized 1 2) ∷ rectangle (place 1 0) (sized 1 2) ∷ []
split_between = refl

split_through : after (cut_places Rows Zip 2 1 4) 1 4 (rectangle (place 0 1) (sized 1 2) ∷ []) ≡ []
split_through = refl

split_turns : after (cut_places Rows Zip 1 1 3) 1 3 (rectangle (place 0 0) (sized 1 2) ∷ []) ≡ rectangle (place 0 0) (sized 2 1) ∷ []
split_turns = refl

top_of_overlapping : after (top 1 3) 1 3 (rectangle (place 0 0) (sized 1 2) ∷ rectangle (place 0 1) (sized 1 2) ∷ []) ≡ []
top_of_overlapping = refl

fitting_of_overlapping : fitting 1 3 (rectangle (place 0 0) (sized 1 2) ∷ rectangle (place 0 1) (sized 1 2) ∷ []) ≡ []
fitting_of_overlapping = refl

-- part of a rectangle that crosses the end of what is reversed can still come to a rectangle
crossing_window : after (columns_of (1 ∷ 0 ∷ 2 ∷ []) 1 3) 1 3 (rectangle (place 0 0) (sized 1 3) ∷ []) ≡ rectangle (place 0 0) (sized 1 3) ∷ []
crossing_window = refl

-- the lines of a list alone, of those of a map of places whose lines are rows
abbrev thinned : List ℕ → Places → Places
thinned kept places = record { size = sized (length kept) places.size.width; old_place = λ (p : Position). places.old_place (place (slice_index_or kept p.row 0) p.col) }

-- `a b _ _` cut after two: without its empty second piece
clean_split : after (thinned (0 ∷ []) (cut_places Rows Zip 2 1 4)) 1 4 (rectangle (place 0 0) (sized 1 2) ∷ rectangle (place 0 2) (sized 1 2) ∷ []) ≡ rectangle (place 0 0) (sized 1 2) ∷ []
clean_split = refl

-- two rows cut, the first pieces first: a rectangle over both stays one
concat_split : after (cut_places Rows Concat 2 2 4) 2 4 (rectangle (place 0 2) (sized 2 2) ∷ []) ≡ rectangle (place 2 0) (sized 2 2) ∷ []
concat_split = refl

-- the same cut row by row: it is torn
zip_split : after (cut_places Rows Zip 2 2 4) 2 4 (rectangle (place 0 2) (sized 2 2) ∷ []) ≡ []
zip_split = refl

-- one that lies outside takes the one that it meets with it
both_gone : fitting 1 2 (rectangle (place 0 0) (sized 1 2) ∷ rectangle (place 0 1) (sized 2 1) ∷ []) ≡ []
both_gone = refl
