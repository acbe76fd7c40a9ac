-- Merged cells, carried along when cells move.
use Rattle.std.specs.Prelude.{◌≡◌, ◌<◌, ◌≤◌, ℕ, ◌+◌, ◌-◌, ◌&&◌, if◌then◌else◌, Bool, false, List, Option, None, Some, map, not}
use Rattle.std.specs.List.{filter, flat_map, list_all, list_any}
use Rattle.tabled_grid.specs.Entity.{block, same_place}
use Rattle.tabled_grid.specs.Fitting.{keep_fitting}
use Rattle.tabled_grid.specs.Places.{Places}
use Rattle.tabled_grid.specs.Rectangles.{HasArea, In, holds}
use Rattle.tabled_grid.specs.Spans.{SpanMap, from_rectangles, get, rectangle, rectangles, sized}
use Rattle.tabled_grid.specs.declared.config.position.Position.{Position}
use Rattle.tabled_grid.specs.declared.config.rectangle.Rectangle.{Rectangle}
use Rattle.tabled_grid.specs.declared.config.size.Size.{Size}

-- the cells of a rectangle, row by row
abbrev pub cells_in : Rectangle → List Position
cells_in e = block e.first.row (e.first.row + e.size.height) e.first.col (e.first.col + e.size.width)

-- an old place that passes a test
abbrev pub old_place_passes : (Position → Bool) → Option Position → Bool
old_place_passes test None = false
old_place_passes test (Some q) = test q

-- two tests answer alike
abbrev pub alike : Bool → Bool → Bool
alike a b = if a then b else not b

-- the new places of all cells of one rectangle are the cells of another one
abbrev pub carries : Places → Rectangle → Rectangle → Bool
carries places e f =
    list_all (λ (p : Position). alike (old_place_passes (holds e) (places.old_place p)) (holds f p)) (block 0 places.size.height 0 places.size.width)
    && list_all (λ (q : Position). list_any (λ (p : Position). old_place_passes (same_place q) (places.old_place p)) (cells_in f)) (cells_in e)

-- the rectangles inside a table
abbrev pub rectangles_inside : ℕ → ℕ → List Rectangle
rectangles_inside rows columns = flat_map (λ (p : Position). map (λ (last : Position). rectangle p (sized (last.row + 1) (last.col + 1))) (block 0 (rows - p.row) 0 (columns - p.col))) (block 0 rows 0 columns)

-- the rectangles of a new table that carry one of the old ones
abbrev pub images : Places → List Rectangle → List Rectangle
images places es = filter (λ (f : Rectangle). list_any (λ (e : Rectangle). carries places e f) es) (rectangles_inside places.size.height places.size.width)

-- the map of these
abbrev pub image : Places → SpanMap → SpanMap
image places m = from_rectangles (images places (rectangles m))

-- what becomes of merged cells when the cells of a table of r rows and c columns move
abbrev pub carried : Places → ℕ → ℕ → SpanMap → SpanMap
carried places rows columns m = image places (keep_fitting rows columns m)

-- the cell at a new place comes from an old place
pub record Takes (places : Places) (p q : Position) : Type 0 where
  pub row : p.row < places.size.height
  pub col : p.col < places.size.width
  pub from : places.old_place p ≡ Some q

-- all cells of a rectangle have new places, and these are the cells of another one
pub record Carries (places : Places) (e f : Rectangle) : Type 0 where
  pub all : (q : Position) → In e q → (p : Position) × Takes places p q
  pub only : (p q : Position) → Takes places p q → In e q → In f p
  pub from : (p : Position) → In f p → (q : Position) × In e q × Takes places p q

-- the new map has just the rectangles that carry one of the old map
pub record IsImage (places : Places) (old new : SpanMap) : Type 0 where
  pub comes : (b : Position) (t : Size) → get new b ≡ Some t → (a : Position) × (s : Size) × (get old a ≡ Some s) × Carries places (rectangle a s) (rectangle b t) × HasArea (rectangle b t)
  pub goes : (a b : Position) (s t : Size) → get old a ≡ Some s → Carries places (rectangle a s) (rectangle b t) → HasArea (rectangle b t) → get new b ≡ Some t

-- what goes from a place comes back to it
pub record LeadsBack (there back : Places) : Type 0 where
  pub to : (p q : Position) → Takes there p q → Takes back q p
  pub from : (p q : Position) → Takes back q p → Takes there p q

-- each rectangle of a map is carried to one
pub record CarriesAll (places : Places) (m : SpanMap) : Type 0 where
  pub each : (a : Position) (s : Size) → get m a ≡ Some s → (f : Rectangle) × Carries places (rectangle a s) f × HasArea f

-- the cells of a table of r rows and c columns keep their places, and no other cell comes to one
pub record KeepsPlaces (places : Places) (rows columns : ℕ) : Type 0 where
  pub stays : (p : Position) → p.row < rows → p.col < columns → Takes places p p
  pub alone : (p q : Position) → Takes places p q → p ≡ q
