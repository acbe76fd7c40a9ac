-- A table with merged cells is tiled by the owners of its places, and the written rows are those of that tiling.
use Rattle.std.proofs.Common.{◌++◌, eqb, map, nat_lt, unwrap_or}
use Rattle.std.proofs.lemmas.Bool.Decides.{nat_tests}
use Rattle.std.proofs.lemmas.List.{map-append}
use Rattle.std.specs.List.{AllByRecursion}
use Rattle.std.specs.Option.{option_map}
use Rattle.tabled_grid.proofs.Common.{[], ◌+◌, In, not, ◌-◌, ◌<◌, ◌∙◌, ◌∷◌, ◌≡◌, ◌≤◌, ◌⊎◌, Bool, Fits, Grid, List, None, Option, Some, SpanMap, all-append, and_from, and_parts, ap, ap₂, arith, cases_lt, cond, cond-false, cond-true, crosses_line, eq-eqb, false, false_from_ne_true, false≢true, get, inl, inr, is_crossed, is_hidden, leb-true, lt-ltb, place, rectangle, rectangles, refl, size_at, subst, suc, sym, true, zero, ℕ}
use Rattle.tabled_grid.proofs.Grids.{cell_at-map_grid}
use Rattle.tabled_grid.proofs.Members.{Member, any-from, member-get}
use Rattle.tabled_grid.proofs.SpanMaps.{size_at-none, size_at-some}
use Rattle.tabled_grid.specs.Grid.{IsEmptyWithoutRows, cell_at, map_grid}
use Rattle.tabled_grid.specs.declared.config.position.Position.{Position}
use Rattle.tabled_grid.specs.declared.config.rectangle.Rectangle.{Rectangle}
use Rattle.tabled_grid.specs.declared.config.size.Size.{Size}
use Rattle.tabled_grid.specs.declared.records.axis.Axis.TheVariants.{Rows}
use Rattle.tabled_html.proofs.Ends.{hidden-apart}
use Rattle.tabled_html.proofs.Attributes.{cell-apart, cell-plain, cell-spans, class-apart, class-plain, colspan-is, rowspan-is}
use Rattle.tabled_grid.proofs.Owners.{AnchorsFit, anchors-fit, owned, owner-begins, owner-holds, owner-lies, owner-self, owner-shared}
use Rattle.tabled_grid.proofs.Owners.Owned.{alone, held}
use Rattle.tabled_html.proofs.Within.{written-fits, written-within}
use Rattle.tabled_html.specs.Elements.{begun_at, element, element_at, fragment, group, groups_of, has_head, row_of, rows_of, table, text_of_cell}
use Rattle.tabled_html.specs.Laws.{IsFormed, Shows, area_of, element_of, own_area, shown_look}
use Rattle.tabled_html.specs.Limits.{AreWithinLimits, keep_written}
use Rattle.tabled_html.specs.Looks.{Look, alignment_in}
use Rattle.tabled_html.specs.Written.{Written, written_as}
use Rattle.tabled_grid.specs.Owners.{owner_in}
use Rattle.tabled_html_reading.proofs.Formed.{body-formed, head-and-body-formed}
use Rattle.tabled_html_reading.proofs.Parsed.{table-parsed}
use Rattle.tabled_html_reading.specs.Areas.{EndWithin, IsTiled, Tiles, as_body, as_head_and_body, begins, elements_at, rows_between, series}
use Rattle.tabled_html_reading.specs.Elements.{Group}
use Rattle.tabled_html_reading.specs.Escaping.{shown}
use Rattle.tabled_html_reading.specs.Forming.{forming_a_table}
use Rattle.tabled_html_reading.specs.Showing.{AreWritable, IsTableWritable, IsWritable, shown_element, shown_group, shown_table}

-- ---- lists

series-same : {A : Type 0} (n : ℕ) (f g : ℕ → List A) → ((k : ℕ) → k < n → f k ≡ g k) → series n f ≡ series n g
series-same zero f g same = refl
series-same (suc n) f g same = ap₂ (λ xs ys. xs ++ ys) (series-same n f g (λ k less. same k (omega (arith, less)))) (same n (omega arith))

-- ---- the tiling

module _ (g : Grid (List ℕ)) (m : SpanMap) (look : Look) (fits : Fits m g.rows g.columns) where
  abbrev w : Written
  w = written_as g m look

  fit : AnchorsFit g.rows g.columns (rectangles m)
  fit = anchors-fit m g.rows g.columns fits

  module _ (limits : AreWithinLimits m) where
    narrow : (p : Position) → (owner_in (rectangles m) p).size.width ≤ 1000
    narrow p = elim (owned (rectangles m) p) [
      | held member h ↦ (limits.each _ (member-get m (owner_in (rectangles m) p) member)).width
      | alone is never ↦ omega (arith, ap (λ (o : Rectangle). o.size.width) is)
    ]

    low : (p : Position) → (owner_in (rectangles m) p).size.height ≤ 65534
    low p = elim (owned (rectangles m) p) [
      | held member h ↦ (limits.each _ (member-get m (owner_in (rectangles m) p) member)).height
      | alone is never ↦ omega (arith, ap (λ (o : Rectangle). o.size.height) is)
    ]

    tiles : Tiles g.columns g.rows (own_area m) (element_of g look)
    tiles = record {
      holds = λ x y h k. (let i = owner-holds (rectangles m) (place y x) in record { left = i.left; right = i.right; top = i.top; bottom = i.bottom });
      shared = λ x y u v h k h' k' i. ap area_of (owner-shared fit (place y x) (place v u) (record { top = i.top; bottom = i.bottom; left = i.left; right = i.right }));
      across = λ x y h k. (owner-lies fit (place y x) k h).1.right;
      down = λ x y h k. (owner-lies fit (place y x) k h).1.bottom;
      wide = λ x y h k. colspan-is _ _ _ (text_of_cell g (place (own_area m x y).y (own_area m x y).x)) (owner-lies fit (place y x) k h).0.width (narrow (place y x)) (low (place y x));
      high = λ x y h k. rowspan-is _ _ _ (text_of_cell g (place (own_area m x y).y (own_area m x y).x)) (owner-lies fit (place y x) k h).0.height (narrow (place y x)) (low (place y x));
    }

  -- ---- the written rows

  at-place : (i j : ℕ) → elements_at (own_area m) (element_of g look) i j ≡ begun_at w (place i j)
  at-place i j = of-place (is_hidden m (place i j)) refl
    where
      o : Rectangle
      o = owner_in (rectangles m) (place i j)

      here : (a b : ℕ) → eqb a b ≡ true → a ≡ b
      here a b t = grind (arith, nat_tests)

      of-hidden : is_hidden m (place i j) ≡ true → elements_at (own_area m) (element_of g look) i j ≡ []
      of-hidden hidden = cond-false _ _ _ (false_from_ne_true (begins (own_area m) j i) (λ t. (let parts = and_parts _ _ t in hidden-apart {w = w} refl fits (place i j) hidden (ap₂ place (here o.first.row i parts.1) (here o.first.col j parts.0)))))

      of-seen : is_hidden m (place i j) ≡ false → elements_at (own_area m) (element_of g look) i j ≡ element_at g look (place i j) (size_at m (place i j)) ∷ []
      of-seen seen =
          let first : o.first ≡ place i j = owner-self (rectangles m) (place i j) seen in
          let is : rectangle (place i j) (size_at m (place i j)) ≡ o = owner-begins m (place i j) first in
          cond-true _ _ _ (and_from _ _ (eq-eqb _ _ (ap (λ (p : Position). p.col) first)) (eq-eqb _ _ (ap (λ (p : Position). p.row) first)))
          ∙ ap (λ (e : Rectangle). element_of g look (area_of e) ∷ []) (sym is)

      of-place : (b : Bool) → is_hidden m (place i j) ≡ b → elements_at (own_area m) (element_of g look) i j ≡ cond b [] (element_at g look (place i j) (size_at m (place i j)) ∷ [])
      of-place true hidden = of-hidden hidden
      of-place false seen = of-seen seen

  rows-are : (first count : ℕ) → rows_between g.columns (own_area m) (element_of g look) first count ≡ rows_of w first count
  rows-are first count = series-same count _ _ (λ k low. ap (λ cells. cells ∷ []) (series-same g.columns _ _ (λ j far. at-place (first + k) j)))

  pub body-is : as_body g.columns g.rows (own_area m) (element_of g look) ≡ group false (rows_of w 0 g.rows) ∷ []
  body-is = ap (λ rows. group false rows ∷ []) (rows-are 0 g.rows)

  pub head-is : as_head_and_body g.columns g.rows (own_area m) (element_of g look) look.header ≡ group true (rows_of w 0 look.header) ∷ group false (rows_of w look.header (g.rows - look.header)) ∷ []
  head-is = ap₂ (λ head rows. group true head ∷ group false rows ∷ []) (rows-are 0 look.header) (rows-are look.header (g.rows - look.header))

  -- where no merged cell crosses the end of the header, the owners of its places end in it
  ends-within : is_crossed Rows look.header m ≡ false → EndWithin g.columns (own_area m) look.header
  ends-within free x y h k = elim (owned (rectangles m) (place y x)) [
    | held member inside ↦ of-end member inside (cases_lt look.header (o.first.row + o.size.height))
    | alone is never ↦ omega (arith, ap (λ (e : Rectangle). e.first.row + e.size.height) is, k)
  ]
    where
      o : Rectangle
      o = owner_in (rectangles m) (place y x)

      of-end : Member o (rectangles m) → In o (place y x) → (look.header < o.first.row + o.size.height) ⊎ (o.first.row + o.size.height ≤ look.header) → o.first.row + o.size.height ≤ look.header
      of-end member inside (inr most) = most
      of-end member inside (inl over) = absurd (false≢true (sym free ∙ any-from (crosses_line Rows look.header) o (rectangles m) member (and_from _ _ (lt-ltb _ _ (omega (arith, inside.top, k))) (lt-ltb _ _ over))))

  pub formed : IsEmptyWithoutRows g → AreWithinLimits m → IsFormed g m look (forming_a_table (groups_of w))
  formed empty limits = of-head (has_head g.rows m look.header) refl
    where
      as-grid : (groups : List Group) → IsTiled g.columns g.rows (own_area m) (element_of g look) (forming_a_table groups) → IsFormed g m look (forming_a_table groups)
      as-grid groups is = record { columns = is.across; rows = is.down; apart = is.apart; slots = is.slots; outside = is.outside; anchors = is.anchors }

      of-head : (b : Bool) → has_head g.rows m look.header ≡ b → IsFormed g m look (forming_a_table (cond b (group true (rows_of w 0 look.header) ∷ group false (rows_of w look.header (g.rows - look.header)) ∷ []) (group false (rows_of w 0 g.rows) ∷ [])))
      of-head true has =
          let parts = and_parts _ _ has in
          let free : is_crossed Rows look.header m ≡ false = not-so (is_crossed Rows look.header m) parts.1 in
          subst (λ groups. IsFormed g m look (forming_a_table groups)) head-is (as-grid _ (head-and-body-formed g.columns g.rows (own_area m) (element_of g look) (tiles limits) look.header (leb-true _ _ (and_parts _ _ parts.0).1) (ends-within free) empty))
        where
          not-so : (c : Bool) → not c ≡ true → c ≡ false
          not-so true h = cc
          not-so false h = refl
      of-head false has = subst (λ groups. IsFormed g m look (forming_a_table groups)) body-is (as-grid _ (body-formed g.columns g.rows (own_area m) (element_of g look) empty (tiles limits)))

-- ---- what is shown

map-series : {A B : Type 0} (f : A → B) (n : ℕ) (h : ℕ → List A) → map f (series n h) ≡ series n (λ k. map f (h k))
map-series f zero h = refl
map-series f (suc n) h = map-append f (series n h) (h n) ∙ ap (λ xs. xs ++ map f (h n)) (map-series f n h)

text-shown : (g : Grid (List ℕ)) (p : Position) → text_of_cell (map_grid shown g) p ≡ shown (text_of_cell g p)
text-shown g p = ap (λ (o : Option (List ℕ)). unwrap_or o []) (cell_at-map_grid shown g p) ∙ of-cell (cell_at g p)
  where
    of-cell : (o : Option (List ℕ)) → unwrap_or (option_map shown o) [] ≡ shown (unwrap_or o [])
    of-cell None = refl
    of-cell (Some text) = refl

module _ (w : Written) where
  abbrev seen : Written
  seen = record w { texts = map_grid shown w.texts }

  begun-shown : (p : Position) → map shown_element (begun_at w p) ≡ begun_at seen p
  begun-shown p = of-place (is_hidden w.merged p)
    where
      of-place : (b : Bool) → map shown_element (cond b [] (element_at w.texts w.look p (size_at w.merged p) ∷ [])) ≡ cond b [] (element_at seen.texts w.look p (size_at w.merged p) ∷ [])
      of-place true = refl
      of-place false = ap (λ text. element (nat_lt p.row w.look.header) (alignment_in w.look.alignments p.col) (size_at w.merged p) text ∷ []) (sym (text-shown w.texts p))

  rows-shown : (first count : ℕ) → map (map shown_element) (rows_of w first count) ≡ rows_of seen first count
  rows-shown first count =
      map-series (map shown_element) count (λ k. row_of w (first + k) ∷ [])
      ∙ series-same count _ _ (λ k low. ap (λ cells. cells ∷ []) (map-series shown_element w.texts.columns (λ j. begun_at w (place (first + k) j)) ∙ series-same w.texts.columns _ _ (λ j far. begun-shown (place (first + k) j))))

  groups-shown : map shown_group (groups_of w) ≡ groups_of seen
  groups-shown = of-head (has_head w.texts.rows w.merged w.look.header)
    where
      of-head : (b : Bool) → map shown_group (cond b (group true (rows_of w 0 w.look.header) ∷ group false (rows_of w w.look.header (w.texts.rows - w.look.header)) ∷ []) (group false (rows_of w 0 w.texts.rows) ∷ [])) ≡ cond b (group true (rows_of seen 0 w.look.header) ∷ group false (rows_of seen w.look.header (w.texts.rows - w.look.header)) ∷ []) (group false (rows_of seen 0 w.texts.rows) ∷ [])
      of-head true = ap₂ (λ head rows. group true head ∷ group false rows ∷ []) (rows-shown 0 w.look.header) (rows-shown w.look.header (w.texts.rows - w.look.header))
      of-head false = ap (λ rows. group false rows ∷ []) (rows-shown 0 w.texts.rows)

  table-shown : shown_table (table w) ≡ table (record seen { look = shown_look w.look })
  table-shown = ap (λ groups. record (table (record seen { look = shown_look w.look })) { groups = groups }) groups-shown

-- ---- the attributes are plain, and numbers

all-series : {A : Type 0} (P : A → Type 0) (n : ℕ) (h : ℕ → List A) → ((k : ℕ) → AllByRecursion P (h k)) → AllByRecursion P (series n h)
all-series P zero h all = tt
all-series P (suc n) h all = all-append P (series n h) (h n) (all-series P n h all) (all n)

module _ (w : Written) (limits : AreWithinLimits w.merged) where
  size-few : (p : Position) → ((size_at w.merged p).width ≤ 1000) × ((size_at w.merged p).height ≤ 65534)
  size-few p = of-size (get w.merged p) refl
    where
      of-size : (o : Option Size) → get w.merged p ≡ o → ((size_at w.merged p).width ≤ 1000) × ((size_at w.merged p).height ≤ 65534)
      of-size None e = let is = size_at-none w.merged p e in (omega (arith, ap (λ (s : Size). s.width) is), omega (arith, ap (λ (s : Size). s.height) is))
      of-size (Some size) e = let is = size_at-some w.merged p size e in let within = limits.each (rectangle p size) e in (omega (arith, ap (λ (s : Size). s.width) is, within.width), omega (arith, ap (λ (s : Size). s.height) is, within.height))

  begun-writable : (p : Position) → AllByRecursion IsWritable (begun_at w p)
  begun-writable p = of-place (is_hidden w.merged p)
    where
      of-place : (b : Bool) → AllByRecursion IsWritable (cond b [] (element_at w.texts w.look p (size_at w.merged p) ∷ []))
      of-place true = tt
      of-place false = let few = size-few p in (record { plain = cell-plain _ _ (size_at w.merged p) few.0 few.1; apart = cell-apart _ _ (size_at w.merged p); spans = cell-spans _ _ (size_at w.merged p) few.0 few.1 }, tt)

  rows-writable : (first count : ℕ) → AreWritable (rows_of w first count)
  rows-writable first count = all-series (AllByRecursion IsWritable) count (λ k. row_of w (first + k) ∷ []) (λ k. (all-series IsWritable w.texts.columns (λ j. begun_at w (place (first + k) j)) (λ j. begun-writable (place (first + k) j)), tt))

  table-writable : IsTableWritable (table w)
  table-writable = record { attributes = class-plain w.look.class; apart = class-apart w.look.class; groups = of-head (has_head w.texts.rows w.merged w.look.header) }
    where
      of-head : (b : Bool) → AllByRecursion (λ (x : Group). AreWritable x.rows) (cond b (group true (rows_of w 0 w.look.header) ∷ group false (rows_of w w.look.header (w.texts.rows - w.look.header)) ∷ []) (group false (rows_of w 0 w.texts.rows) ∷ []))
      of-head true = (rows-writable 0 w.look.header, (rows-writable w.look.header (w.texts.rows - w.look.header), tt))
      of-head false = (rows-writable 0 w.texts.rows, tt)

-- what is read of the bytes of the table forms the grid of what is shown: the merged cells that are written fit, and are
-- within the limits
pub html-shows : (g : Grid (List ℕ)) (m : SpanMap) (look : Look) → IsEmptyWithoutRows g → Shows g (keep_written g.rows g.columns m) look (fragment g m look)
html-shows g m look empty =
    let w : Written = written_as g (keep_written g.rows g.columns m) look in
    let limits = written-within g.rows g.columns m in
    record {
      read = table-parsed (table w) (table-writable w limits) ∙ ap Some (table-shown w);
      formed = formed (map_grid shown g) w.merged look (written-fits g.rows g.columns m) empty limits;
    }
