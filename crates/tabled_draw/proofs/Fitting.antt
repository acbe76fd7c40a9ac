-- Merged cells that fit a table, and those that are kept of any.
use Rattle.tabled_draw.proofs.Common.{Alignment, Fits, Grid, HoldsOfPictures, List, Plan, Rectangle, SpanMap, Style, ap, ap₂, bytes_of_lines, fitting, keep_fitting, picture, plan_of, rectangles, rectangles-map_of, rectangles_anchors, subst, sym, ℕ, ◌∙◌, ◌≡◌}
use Rattle.tabled_grid.proofs.Owners.{AnchorsFit, anchors-fit}
use Rattle.tabled_draw.specs.Picture.{drawn_with}
use Rattle.tabled_grid.proofs.Fitting.{anchors-fitting, keep_fitting-all, keep_fitting-fits}

-- the merged cells that are kept are those that fit
pub kept-rectangles : (m : SpanMap) (rows columns : ℕ) → rectangles (keep_fitting rows columns m) ≡ fitting rows columns (rectangles m)
kept-rectangles m rows columns = rectangles-map_of (fitting rows columns (rectangles m)) (anchors-fitting rows columns (rectangles m) (rectangles_anchors m))

pub kept-fit : (m : SpanMap) (rows columns : ℕ) → AnchorsFit rows columns (fitting rows columns (rectangles m))
kept-fit m rows columns = subst (λ (es : List Rectangle). AnchorsFit rows columns es) (kept-rectangles m rows columns) (anchors-fit (keep_fitting rows columns m) rows columns (keep_fitting-fits rows columns m))

-- what holds where the merged cells of a list fit
pub holds : (Says : Plan → List Alignment → Type 0) → ((plan : Plan) (aligns : List Alignment) → AnchorsFit plan.grid.rows plan.grid.columns plan.merged → Says plan aligns) → HoldsOfPictures Says
holds Says each = record {
  where_all_fit = λ style aligns g m fits. each (plan_of style g (rectangles m)) aligns (anchors-fit m g.rows g.columns fits);
  of_drawn = λ style aligns g m. each (plan_of style g (fitting g.rows g.columns (rectangles m))) aligns (kept-fit m g.rows g.columns);
}

-- ---- what is drawn

fitting-all : (m : SpanMap) (rows columns : ℕ) → Fits m rows columns → fitting rows columns (rectangles m) ≡ rectangles m
fitting-all m rows columns fits = sym (kept-rectangles m rows columns) ∙ ap rectangles (keep_fitting-all rows columns m fits)

pub drawn-all : (style : Style) (aligns : List Alignment) (g : Grid (List ℕ)) (m : SpanMap) → Fits m g.rows g.columns → drawn_with style aligns g m ≡ bytes_of_lines (picture style aligns g (rectangles m))
unfolding drawn_with
drawn-all style aligns g m fits = ap (λ es. bytes_of_lines (picture style aligns g es)) (fitting-all m g.rows g.columns fits)

pub drawn-kept : (style : Style) (aligns : List Alignment) (g : Grid (List ℕ)) (m : SpanMap) → drawn_with style aligns g m ≡ drawn_with style aligns g (keep_fitting g.rows g.columns m)
unfolding drawn_with
drawn-kept style aligns g m = ap (λ es. bytes_of_lines (picture style aligns g es)) (sym (kept-rectangles m g.rows g.columns) ∙ sym (fitting-all (keep_fitting g.rows g.columns m) g.rows g.columns (keep_fitting-fits g.rows g.columns m)))

-- ---- tables that are laid out

module _ (g : Grid (List ℕ)) (m kept : SpanMap) (rows columns : ℕ) (is_rows : rows ≡ g.rows) (is_columns : columns ≡ g.columns) (is : kept ≡ keep_fitting rows columns m) where
  pub fits-of : Fits kept g.rows g.columns
  fits-of = rw (is, is_rows, is_columns) (keep_fitting-fits g.rows g.columns m)

  -- the bytes are those of the merged cells that fit
  pub bytes-drawn : (style : Style) (aligns : List Alignment) → bytes_of_lines (picture style aligns g (rectangles kept)) ≡ drawn_with style aligns g m
  unfolding drawn_with
  bytes-drawn style aligns = ap (λ k. bytes_of_lines (picture style aligns g (rectangles k))) (is ∙ ap₂ (λ r c. keep_fitting r c m) is_rows is_columns) ∙ ap (λ es. bytes_of_lines (picture style aligns g es)) (kept-rectangles m g.rows g.columns)
