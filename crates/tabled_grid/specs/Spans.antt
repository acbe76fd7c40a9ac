-- Merged cells: a finite map from anchors to the sizes of their rectangles.
use Rattle.std.specs.Prelude.{◌≡◌, ◌<◌, ◌≤◌, ◌⊎◌, ◌==◌, ◌&&◌, ◌||◌, if◌then◌else◌, ℕ, Bool, true, false, T, List, [], ◌∷◌, Option, map, nat_le, nat_lt, not}
use Rattle.std.proofs.Common.{refl, subst, sym}
use Rattle.std.specs.Coded.{Coded, code_by, coded×, coded_ℕ}
use Rattle.std.specs.FinMap as finite
use Rattle.std.specs.FinMap.{FinMap, entries, entries-from_sorted, from_sorted, is_sorted}
use Rattle.std.specs.FinMap.Entries.{put}
use Rattle.std.specs.List.{AllByRecursion, filter, fold, list_all}
use Rattle.std.specs.Option.{unwrap_or}
use Rattle.std.specs.Ordering.{eq_by_cmp, nat_cmp, ordering_then}
use base.Stored.{coded_via}
use mathlib.Core.Bool.{Bool-set}
use mathlib.Core.HLevel.{Σ_prop_path}
use Rattle.std.specs.declared.cmp.Ordering.{Ordering}
use Rattle.tabled_grid.specs.declared.config.position.Position.{Position}
use Rattle.tabled_grid.specs.declared.config.rectangle.Rectangle.{Rectangle}
use Rattle.tabled_grid.specs.declared.config.size.Size.{Size}

-- by row, and then by column
abbrev pub position_cmp : Position → Position → Ordering
position_cmp p q = ordering_then (nat_cmp p.row q.row) (nat_cmp p.col q.col)

-- a height and a width
abbrev pub sized : ℕ → ℕ → Size
sized h w = record { height = h; width = w }

-- one row and one column
abbrev pub is_cell : Size → Bool
is_cell size = (size.height == 1) && (size.width == 1)

-- the rectangle of a size that is anchored at a place
abbrev pub rectangle : Position → Size → Rectangle
rectangle p size = record { first = p; size = size }

-- the anchors of rectangles with their sizes, as pairs
abbrev pub pairs : List Rectangle → List (Position × Size)
pairs es = map (λ (e : Rectangle). (e.first, e.size)) es

-- the rectangles of anchors with their sizes
abbrev pub of_pairs : List (Position × Size) → List Rectangle
of_pairs ps = map (λ (p : Position × Size). rectangle p.0 p.1) ps

-- rectangles in the order of their anchors, row by row, with one at each
abbrev pub AreSorted : List Rectangle → Type 0
AreSorted es = T (is_sorted position_cmp (pairs es))

-- the size is that of more than one cell
abbrev pub is_span : Size → Bool
is_span size = (nat_le 1 size.height && nat_le 1 size.width) && (nat_lt 1 size.height || nat_lt 1 size.width)

-- a height and a width of at least 1, one of which is more
pub record IsSpan (size : Size) : Type 0 where
  pub height : 1 ≤ size.height
  pub width : 1 ≤ size.width
  pub merges : (1 < size.height) ⊎ (1 < size.width)

-- all sizes of a list are those of more than one cell
abbrev pub have_spans : List (Position × Size) → Bool
have_spans ps = list_all (λ (p : Position × Size). is_span p.1) ps

-- anchors, and the size of the rectangle of each, which is that of more than one cell
pub record SpanMap : Type 0 where
  pub anchors : FinMap position_cmp Size
  pub proper : have_spans (entries anchors) ≡ true

-- a place is stored as the pair of its row and its column
abbrev pub position_code : Coded Position
position_code = code_by (ℕ × ℕ) (coded× coded_ℕ coded_ℕ) (λ p. (p.row, p.col)) (λ pair. record { row = pair.0; col = pair.1 }) (λ _. refl)

-- a size is stored as the pair of its height and its width
abbrev pub size_code : Coded Size
size_code = code_by (ℕ × ℕ) (coded× coded_ℕ coded_ℕ) (λ s. (s.height, s.width)) (λ pair. sized pair.0 pair.1) (λ _. refl)

-- maps with the same anchors and sizes are one
pub same_spans : (m n : SpanMap) → m.anchors ≡ n.anchors → m ≡ n
same_spans m n e =
    let both : ◌≡◌ {A = (a : FinMap position_cmp Size) × (have_spans (entries a) ≡ true)} (m.anchors, m.proper) (n.anchors, n.proper) = Σ_prop_path (λ a. Bool-set _ _) e in
    λ i. record { anchors = (both i).0; proper = (both i).1 }

-- a map is stored as its anchors with their sizes
abbrev pub span_code : Coded SpanMap
span_code = coded_via (finite.code position_code size_code) (λ (m : SpanMap). m.anchors) same_spans

-- nothing is merged
pub empty : SpanMap
empty = record { anchors = from_sorted []; proper = subst (λ ps. have_spans ps ≡ true) (sym (entries-from_sorted position_cmp [] tt)) refl }

checked : (a : FinMap position_cmp Size) (b : Bool) → have_spans (entries a) ≡ b → SpanMap
checked a true e = record { anchors = a; proper = e }
checked a false e = empty

-- the map of anchors and sizes, where each is that of more than one cell, and else the empty one
pub spans_of : FinMap position_cmp Size → SpanMap
spans_of a = checked a _ refl

anchors-checked : (a : FinMap position_cmp Size) (b : Bool) (e : have_spans (entries a) ≡ b) → T b → (checked a b e).anchors ≡ a
unfolding checked
anchors-checked a true e h = refl
anchors-checked a false e h = absurd h

-- that map has them where each is
pub anchors-spans_of : (a : FinMap position_cmp Size) → have_spans (entries a) ≡ true → (spans_of a).anchors ≡ a
unfolding spans_of
anchors-spans_of a h = anchors-checked a _ refl (subst T (sym h) tt)

-- the empty one is the map of none
pub empty-is : empty ≡ spans_of (from_sorted [])
unfolding empty
empty-is = same_spans _ _ (sym (anchors-spans_of (from_sorted []) (empty.proper)))

-- all rectangles, row by row
abbrev pub rectangles : SpanMap → List Rectangle
rectangles m = of_pairs (entries m.anchors)

-- the map of rectangles of more than one cell each, which are given row by row
abbrev pub map_of : List Rectangle → SpanMap
map_of es = spans_of (from_sorted (pairs es))

-- the size of the rectangle that is anchored at a place
abbrev pub get : SpanMap → Position → Option Size
get m p = finite.get m.anchors p

-- the size at a place, that of one cell where there is no anchor
abbrev pub size_at : SpanMap → Position → Size
size_at m p = unwrap_or (get m p) (sized 1 1)

-- rectangles of more than one cell each, row by row
pub record AreAnchors (anchors : List Rectangle) : Type 0 where
  pub sorted : AreSorted anchors
  pub sizes : AllByRecursion (λ (anchor : Rectangle). IsSpan anchor.size) anchors

-- the map with a size of more than one cell at a place
abbrev pub insert : SpanMap → Position → Size → SpanMap
insert m p size = map_of (of_pairs (put position_cmp p size (pairs (rectangles m))))

-- the map of rectangles of more than one cell each, of which the first one at a place counts
abbrev pub from_rectangles : List Rectangle → SpanMap
from_rectangles [] = empty
from_rectangles (e ∷ es) = insert (from_rectangles es) e.first e.size

-- the map with those anchors alone whose places pass a test
abbrev pub retain : SpanMap → (Position → Bool) → SpanMap
retain m test = map_of (filter (λ (e : Rectangle). test e.first) (rectangles m))

-- the map without an anchor at a place
abbrev pub remove : SpanMap → Position → SpanMap
remove m p = retain m (λ q. not (eq_by_cmp position_cmp p q))

-- the map with a size at a place, where only the size of more than one cell is an anchor
abbrev pub with_size : SpanMap → Position → Size → SpanMap
with_size m p size = if is_span size then insert m p size else remove m p

-- the map with one size after another, of which the later ones count
abbrev pub with_sizes : SpanMap → List Rectangle → SpanMap
with_sizes m sizes = fold (λ (k : SpanMap) (e : Rectangle). with_size k e.first e.size) m sizes

-- the map with a width at a place, of which 0 changes nothing
abbrev pub with_column_span : SpanMap → Position → ℕ → SpanMap
with_column_span m p width = if width == 0 then m else with_size m p (sized (size_at m p).height width)

-- the map with a height at a place, of which 0 changes nothing
abbrev pub with_row_span : SpanMap → Position → ℕ → SpanMap
with_row_span m p height = if height == 0 then m else with_size m p (sized height (size_at m p).width)
