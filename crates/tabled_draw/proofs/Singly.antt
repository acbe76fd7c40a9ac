-- Rows of texts that are made one after another.
use Rattle.std.proofs.lemmas.List.{map-append}
use Rattle.std.specs.Global.{Vec}
use Rattle.tabled_draw.proofs.Common.{Grid, List, SpanMap, [], all-append, ap, ap₂, each, fitting, keep_fitting, length, map, rectangles, subst, sym, ℕ, ◌++◌, ◌+◌, ◌∙◌, ◌∷◌, ◌≡◌}
use Rattle.tabled_draw.proofs.Each.{each-more}
use Rattle.tabled_draw.proofs.Fitting.{kept-rectangles}
use Rattle.tabled_draw.specs.Markdown.{rows_apart}
use Rattle.tabled_grid.specs.Evenness.{AreWide}
use Rattle.tabled_grid.specs.Grid.{map_items}

module _ {A : Type 0} (f : A → List ℕ) where
  -- one more text of a row
  pub text-more : (xs : List A) (x : A) (n : ℕ) (h : ℕ → List ℕ) → map f xs ≡ each n (λ j. h j ∷ []) → f x ≡ h n → map f (xs ++ (x ∷ [])) ≡ each (n + 1) (λ j. h j ∷ [])
  text-more xs x n h was is = map-append f xs (x ∷ []) ∙ ap₂ (λ ys y. ys ++ (y ∷ [])) was is ∙ sym (each-more (λ j. h j ∷ []) n)

  -- one more row
  pub row-more : (vs : List (Vec A)) (v : Vec A) (n : ℕ) (h : ℕ → List (List ℕ)) → map (map f) (map_items vs) ≡ each n (λ i. h i ∷ []) → map f v.items ≡ h n → map (map f) (map_items (vs ++ (v ∷ []))) ≡ each (n + 1) (λ i. h i ∷ [])
  row-more vs v n h was is =
      ap (map (map f)) (map-append (λ (w : Vec A). w.items) vs (v ∷ [])) ∙ map-append (map f) (map_items vs) (v.items ∷ []) ∙ ap₂ (λ ys y. ys ++ (y ∷ [])) was is ∙ sym (each-more (λ i. h i ∷ []) n)

module _ {A : Type 0} where
  -- one more row of n cells
  pub wide-more : (vs : List (Vec A)) (v : Vec A) (n : ℕ) → AreWide n (map_items vs) → length v.items ≡ n → AreWide n (map_items (vs ++ (v ∷ [])))
  wide-more vs v n was is = subst (AreWide n) (sym (map-append (λ (w : Vec A). w.items) vs (v ∷ []))) (all-append (λ (row : List A). length row ≡ n) (map_items vs) (v.items ∷ []) was (is, tt))

-- the cells of a table as Markdown has them are the same by the merged cells that are kept
pub kept-apart : (g : Grid (List ℕ)) (m kept : SpanMap) (rows columns : ℕ) → rows ≡ g.rows → columns ≡ g.columns → kept ≡ keep_fitting rows columns m → rows_apart g (rectangles kept) ≡ rows_apart g (fitting g.rows g.columns (rectangles m))
kept-apart g m kept rows columns is_rows is_columns is = ap (rows_apart g) (ap rectangles is ∙ ap₂ (λ r c. rectangles (keep_fitting r c m)) is_rows is_columns ∙ kept-rectangles m g.rows g.columns)
