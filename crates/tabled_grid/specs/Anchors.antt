-- Lists of rectangles, row by row.
use Rattle.std.specs.Prelude.{◌+◌, ◌&&◌, ◌||◌, ◌==◌, Bool, if◌then◌else◌, List, [], ◌∷◌, map, nat_le, not}
use Rattle.std.specs.FinMap.Entries.{put}
use Rattle.std.specs.List.{filter, fold, list_any}
use Rattle.std.specs.Ordering.{eq_by_cmp, is_eq}
use Rattle.tabled_grid.specs.declared.config.position.Position.{Position}
use Rattle.tabled_grid.specs.Rectangles.{holds}
use Rattle.tabled_grid.specs.Entity.{same_place}
use Rattle.tabled_grid.specs.Spans.{is_cell, of_pairs, pairs, position_cmp, rectangle, sized}
use Rattle.tabled_grid.specs.declared.config.rectangle.Rectangle.{Rectangle}

-- the rectangles of a list that are anchored at other places
abbrev pub elsewhere : Position → List Rectangle → List Rectangle
elsewhere p es = filter (λ (e : Rectangle). not (eq_by_cmp position_cmp p e.first)) es

-- the rectangles with one more, in place of that at its anchor, where one of one cell is none
abbrev pub with_size_in : List Rectangle → Rectangle → List Rectangle
with_size_in es e = if is_cell e.size then elsewhere e.first es else of_pairs (put position_cmp e.first e.size (pairs es))

-- the rectangles with one more after another
abbrev pub with_sizes_in : List Rectangle → List Rectangle → List Rectangle
with_sizes_in es sizes = fold with_size_in es sizes

-- a rectangle, of which one of one cell is none
abbrev pub anchor_of : Rectangle → List Rectangle
anchor_of e = if is_cell e.size then [] else e ∷ []

-- sorted anchors without the first one, if that is at a place
abbrev pub without_first_at : Position → List Rectangle → List Rectangle
without_first_at p [] = []
without_first_at p (e ∷ es) = if is_eq (position_cmp e.first p) then es else e ∷ es

-- another anchor's rectangle holds the place
abbrev pub is_hidden_in : List Rectangle → Position → Bool
is_hidden_in es p = list_any (λ (e : Rectangle). holds e p && not (same_place e.first p)) es

-- the anchors that are not hidden
abbrev pub dropped : List Rectangle → List Rectangle
dropped es = filter (λ (e : Rectangle). not (is_hidden_in es e.first)) es

-- the anchor, with an empty size where another's rectangle holds it
abbrev pub unless_held : Rectangle → Rectangle → Rectangle
unless_held by e = if holds by e.first then rectangle e.first (sized 0 0) else e

-- the anchors, with an empty size where the rectangle of one before holds them
abbrev pub marked : List Rectangle → List Rectangle
marked [] = []
marked (e ∷ es) = e ∷ map (unless_held e) (marked es)

-- the place comes after all cells of the rectangle
abbrev pub is_past : Rectangle → Position → Bool
is_past a p = nat_le a.first.row p.row && (nat_le (a.first.row + a.size.height) p.row || ((a.first.row + a.size.height == p.row + 1) && nat_le (a.first.col + a.size.width) p.col))
