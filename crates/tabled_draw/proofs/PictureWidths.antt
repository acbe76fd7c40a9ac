-- The width of a picture is where its last edge ends.
use Rattle.tabled_draw.proofs.Common.{Grid, List, SpanMap, Style, ap, ap₂, edge, fitting, keep_fitting, left, line_size, plan_of, rectangles, ℕ, ◌+◌, ◌∙◌, ◌≡◌}
use Rattle.tabled_draw.proofs.Fitting.{kept-rectangles}
use Rattle.tabled_draw.specs.Width.{picture_width}

-- the merged cells that are kept are those that fit the table
pub kept-are-fitting : (g : Grid (List ℕ)) (m kept : SpanMap) (rows columns : ℕ) → rows ≡ g.rows → columns ≡ g.columns → kept ≡ keep_fitting rows columns m → rectangles kept ≡ fitting g.rows g.columns (rectangles m)
kept-are-fitting g m kept rows columns is_rows is_columns is = ap rectangles is ∙ ap₂ (λ r c. rectangles (keep_fitting r c m)) is_rows is_columns ∙ kept-rectangles m g.rows g.columns

pub width-of : (style : Style) (g : Grid (List ℕ)) (m kept : SpanMap) (rows columns before last width : ℕ) → rows ≡ g.rows → columns ≡ g.columns → kept ≡ keep_fitting rows columns m → before ≡ left (plan_of style g (rectangles kept)) columns → last ≡ line_size style.columns columns columns → width ≡ before + last → width ≡ picture_width style g m
unfolding picture_width
width-of style g m kept rows columns before last width is_rows is_columns is edge line sum =
    let es : rectangles kept ≡ fitting g.rows g.columns (rectangles m) = kept-are-fitting g m kept rows columns is_rows is_columns is in
    sum ∙ ap₂ (λ x y. x + y) (edge ∙ ap₂ (λ fs k. left (plan_of style g fs) k) es is_columns) (line ∙ ap (λ n. line_size style.columns n n) is_columns)
