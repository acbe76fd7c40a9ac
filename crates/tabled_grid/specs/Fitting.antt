-- Where merged cells fit a table, and which of them do.
use Rattle.std.specs.Prelude.{◌≡◌, ◌&&◌, ◌||◌, ℕ, Bool, true, List, Some, [], ◌∷◌, not}
use Rattle.std.specs.List.{filter, list_all}
use Rattle.tabled_grid.specs.Anchors.{elsewhere}
use Rattle.tabled_grid.specs.Rectangles.{In, LiesInside, lies_inside, meets}
use Rattle.tabled_grid.specs.Spans.{SpanMap, get, map_of, rectangles}
use Rattle.tabled_grid.specs.declared.config.position.Position.{Position}
use Rattle.tabled_grid.specs.declared.config.rectangle.Rectangle.{Rectangle}

-- a rectangle lies inside a table, and shares no cell with others
abbrev pub fits_among : ℕ → ℕ → List Rectangle → Rectangle → Bool
fits_among rows columns others e = lies_inside rows columns e && list_all (λ (f : Rectangle). not (meets e f)) others

-- it does so among those of a map that are anchored elsewhere
pub record FitsAmong (m : SpanMap) (rows columns : ℕ) (e : Rectangle) : Type 0 where
  pub inside : LiesInside rows columns e
  pub alone : (f : Rectangle) (p : Position) → get m f.first ≡ Some f.size → In e p → In f p → e.first ≡ f.first

-- each rectangle of a list fits among those after it
abbrev pub all_fit : ℕ → ℕ → List Rectangle → Bool
all_fit rows columns [] = true
all_fit rows columns (e ∷ es) = fits_among rows columns es e && all_fit rows columns es

-- the rectangles of a list fit some table: no two of them share a cell
abbrev pub AreApart : List Rectangle → Type 0
AreApart es = (rows : ℕ) × (columns : ℕ) × (all_fit rows columns es ≡ true)

-- each rectangle of a map fits among the others
pub record Fits (m : SpanMap) (rows columns : ℕ) : Type 0 where
  pub each : (e : Rectangle) → get m e.first ≡ Some e.size → FitsAmong m rows columns e

-- the rectangles of a list that fit among the others
abbrev pub fitting : ℕ → ℕ → List Rectangle → List Rectangle
fitting rows columns es = filter (λ (e : Rectangle). fits_among rows columns (elsewhere e.first es) e) es

-- a mark for each anchor of a list, set where another's rectangle meets it
abbrev pub with_met : Rectangle → List Rectangle → List Bool → List Bool
with_met by [] marks = marks
with_met by (e ∷ es) [] = []
with_met by (e ∷ es) (m ∷ marks) = (m || meets by e) ∷ with_met by es marks

-- the map without the rectangles that do not lie inside a table or that share a cell with another one
abbrev pub keep_fitting : ℕ → ℕ → SpanMap → SpanMap
keep_fitting rows columns m = map_of (fitting rows columns (rectangles m))
