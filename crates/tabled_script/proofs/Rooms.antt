-- Where merged cells lie in a table.
use Rattle.std.proofs.lemmas.Slice.Zip.{length-zip}
use Rattle.std.specs.List.{zip}
use Rattle.tabled_draw.proofs.Common.{[], ◌+◌, ◌<◌, ◌∙◌, ◌∷◌, ◌≡◌, ◌≤◌, Columns, Fits, Grid, List, None, Option, Position, Size, Some, SpanMap, ap, ap₂, arith, cond_both, fitting, get, keep_fitting, length, length-map, map, place, rectangle, rectangles, refl, size_at, subst, sym, ℕ}
use Rattle.tabled_draw.proofs.Each.{all-each, length-singles}
use Rattle.tabled_draw.proofs.Sizes.{length-sizes}
use Rattle.tabled_draw.specs.Width.{column_widths}
use Rattle.tabled_draw.specs.declared.style.Lines.{Lines}
use Rattle.tabled_draw.specs.declared.style.Style.{Style}
use Rattle.tabled_grid.specs.Evenness.{AreWide}
use Rattle.tabled_grid.specs.Grid.{IsEven, grid_of, map_grid, width_of}
use Rattle.tabled_script.specs.TextRooms.{wrapped_row, wrapped_rows}
use Rattle.tabled_script.specs.Limits.{come_to, larger_of, levelled, limits}
use Rattle.tabled_script.specs.Narrow.{Room, at_widest_piece, at_widest_pieces, at_widest_word, cut_to, in_columns, limits_of, wrapped_at, wrapped_by}

-- a merged cell that fits ends inside the table
pub ends-inside : (m : SpanMap) (rows columns : ℕ) → Fits m rows columns → (p : Position) → p.col < columns → p.col + (size_at m p).width ≤ columns
ends-inside m rows columns fits p inside = cases (get m p) refl
  where
    cases : (found : Option Size) → get m p ≡ found → p.col + (size_at m p).width ≤ columns
    cases None is = rw is (omega arith)
    cases (Some size) is = rw is (fits.each (rectangle p size) is).inside.right

-- ---- tables by their rows

-- the grid of the texts of rows
pub grid-is : {A : Type 0} (f : A → List ℕ) (rows : List (List A)) → map_grid f (grid_of rows) ≡ grid_of (map (map f) rows)
grid-is f [] = refl
grid-is f (row ∷ rows) = ap₂ (λ r c. record { rows = r; columns = c; cells = map (map f) (row ∷ rows) }) (sym (length-map (row ∷ rows) (map f))) (sym (length-map row f))

-- rows of n cells each are the rows of a grid
pub even-wide : {A : Type 0} (n : ℕ) (rows : List (List A)) → AreWide n rows → IsEven (grid_of rows)
even-wide n [] wide = record { tall = refl; wide = tt }
even-wide n (row ∷ rows) wide = record { tall = refl; wide = subst (λ k. AreWide k (row ∷ rows)) (sym wide.0) wide }

-- ---- how many columns a table has whose texts are wrapped

-- rows that are all c wide, of which there is one, are c wide
wide-rows : (c : ℕ) (rows : List (List (List ℕ))) → AreWide c rows → 0 < length rows → width_of rows ≡ c
wide-rows c [] wide some = absurd (omega arith)
wide-rows c (row ∷ rows) wide some = wide.0

pub columns-wrapped : (room : Room) (g : Grid (List ℕ)) → 0 < g.rows → (wrapped_by room g).columns ≡ g.columns
unfolding wrapped_by
columns-wrapped room g some =
    wide-rows g.columns (wrapped_rows room g)
    (all-each (λ (row : List (List ℕ)). length row ≡ g.columns) (λ i. wrapped_row room g i ∷ []) g.rows (λ i less. (length-singles (λ j. wrapped_at room g (place i j)) g.columns, tt)))
    (omega (arith, length-singles (λ i. wrapped_row room g i) g.rows))

length-widths : (style : Style) (g : Grid (List ℕ)) (m : SpanMap) → length (column_widths style g m) ≡ g.columns
length-widths style g m = length-sizes Columns style g (fitting g.rows g.columns (rectangles m))

length-both : (f : ℕ × ℕ → ℕ) (xs ys : List ℕ) (n : ℕ) → length xs ≡ n → length ys ≡ n → length (map f (zip xs ys)) ≡ n
length-both f xs ys n is_xs is_ys = omega (arith, length-map (zip xs ys) f, length-zip xs ys, is_xs, is_ys)

-- there is a limit for each column
pub length-limits : (n : ℕ) (lines : Lines) (of_lines of_words of_pieces : List ℕ) (c : ℕ) → length of_lines ≡ c → length of_words ≡ c → length of_pieces ≡ c → length (limits n lines of_lines of_words of_pieces) ≡ c
unfolding limits
length-limits n lines of_lines of_words of_pieces c is_lines is_words is_pieces =
    let larger = larger_of of_words of_pieces in
    let words : length larger ≡ c = length-both _ of_words of_pieces c is_words is_pieces in
    let whole : length (levelled n lines larger of_lines) ≡ c = length-both _ larger of_lines c words is_lines in
    let parts : length (levelled n lines of_pieces larger) ≡ c = length-both _ of_pieces larger c is_pieces words in
    cond_both (come_to n lines larger) _ _ (λ (ws : List ℕ). length ws ≡ c) (λ fits. whole) (λ wide. parts)

pub length-limits-of : (n : ℕ) (style : Style) (m : SpanMap) (g : Grid (List ℕ)) → 0 < g.rows → length (limits_of n style m g) ≡ g.columns
length-limits-of n style m g some =
    length-limits n style.columns _ _ _ g.columns (length-widths style g m) (length-widths style (wrapped_by at_widest_word g) m ∙ columns-wrapped at_widest_word g some) (length-widths style (at_widest_pieces g) m ∙ columns-wrapped at_widest_piece g some)

-- ---- a table that is cut to its limits

module _ (n : ℕ) (style : Style) (m : SpanMap) (g : Grid (List ℕ)) where
  -- limits by lists that are those of the table, each read by a reference
  pub limits-are : (lines words pieces a b c limited d : List ℕ) (cut : Grid (List ℕ)) → lines ≡ column_widths style g m → words ≡ column_widths style (wrapped_by at_widest_word g) m → cut ≡ at_widest_pieces g → pieces ≡ column_widths style cut m → a ≡ lines → b ≡ words → c ≡ pieces → limited ≡ limits n style.columns a b c → d ≡ limited → d ≡ limits_of n style m g
  limits-are lines words pieces a b c limited d cut is_lines is_words is_cut is_pieces is_a is_b is_c is_limited is_d =
      is_d ∙ is_limited ∙ ap (λ ws. limits n style.columns ws b c) (is_a ∙ is_lines) ∙ ap₂ (λ ws ps. limits n style.columns (column_widths style g m) ws ps) (is_b ∙ is_words) (is_c ∙ is_pieces ∙ ap (λ t. column_widths style t m) is_cut)

  pub cut-is : (rows columns : ℕ) (kept : SpanMap) (widths : List ℕ) → rows ≡ g.rows → columns ≡ g.columns → kept ≡ keep_fitting rows columns m → widths ≡ limits_of n style m g → wrapped_by (in_columns style.columns kept widths) g ≡ cut_to n style m g
  unfolding cut_to
  cut-is rows columns kept widths is_rows is_columns is_kept is_widths =
      ap₂ (λ spans ws. wrapped_by (in_columns style.columns spans ws) g) (is_kept ∙ ap₂ (λ r c. keep_fitting r c m) is_rows is_columns) is_widths
