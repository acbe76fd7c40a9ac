-- Lines of tables without merged cells.
use Rattle.tabled_draw.proofs.Common.{ASCII, AreUnmerged, Bool, Fits, Grid, IsOwnerRow, List, None, Option, Rectangle, SpanMap, Style, [], ap, ap₂, are_none, arith, arms, cond, cond-true, corner, corner_if, differ, edge_before, eqb-true, false, get_or, is_drawn, left_of, length, level, line_between, lt-ltb, marked, meeting, nat_lt, nil_from_length, plan_of, rectangles, refl, replicate, size_if, stretch, sym, true, unmerged_arms, unmerged_corner, unmerged_stretch, ℕ, ◌&&◌, ◌++◌, ◌+◌, ◌<◌, ◌==◌, ◌∙◌, ◌∷◌, ◌≡◌, ◌≤◌}
use Rattle.tabled_draw.proofs.Arms.{marked-corner, same-arms}
use Rattle.tabled_draw.proofs.Each.{each-same}
use Rattle.tabled_draw.proofs.LawBorders.{arms-meet}
use Rattle.tabled_grid.proofs.Owners.{anchors-fit}
use Rattle.tabled_draw.specs.Borders.{Arms}
use Rattle.tabled_draw.specs.Lines.{drawn_line}
use Rattle.tabled_draw.specs.Owners.{owner}
use Rattle.tabled_draw.specs.Unmerged.{unmerged_line}
use Rattle.tabled_draw.specs.declared.sheet.Sheet.{Sheet}

with-true : (b : Bool) → b && true ≡ b
with-true true = refl
with-true false = refl

pub none-left : (xs ys : List Rectangle) (b : Bool) → xs ≡ ys → b ≡ (length xs == 0) → b ≡ true → ys ≡ []
none-left xs ys b is empty t = sym is ∙ nil_from_length xs (eqb-true (length xs) 0 (sym empty ∙ t))

-- all lines between two rows are alike
pub between-is : (style : Style) (rows columns i : ℕ) (edges : List ℕ) → 0 < i → i < rows → line_between style columns edges ≡ unmerged_line style rows columns i edges
unfolding unmerged_line
between-is style rows columns i edges some within = ap (λ x. x ++ (10 ∷ [])) (ap₂ (λ x y. x ++ y)
    (each-same (unmerged_stretch style 2 columns 1 edges) (unmerged_stretch style rows columns i edges) columns (λ j less. ap (λ x. x ++ level style (is_drawn style.columns columns j) edges j) (corner-is j)))
    (corner-is columns))
  where
    corner-is : (j : ℕ) → unmerged_corner style 2 columns 1 j ≡ unmerged_corner style rows columns i j
    corner-is j = ap (λ x. marked (is_drawn style.columns columns j) (corner_if style x)) (same-arms _ _ _ _ _ _ _ _ (sym (lt-ltb 0 i some)) refl (sym (lt-ltb i rows within)) refl)

-- where no cells are merged, the arms are those of the table alone
pub unmerged-rows : (g : Grid (List ℕ)) (m : SpanMap) (i rows columns : ℕ) (above below : List (Option Rectangle)) → rows ≡ g.rows → columns ≡ g.columns → Fits m g.rows g.columns → 0 < g.rows → 0 < g.columns → rectangles m ≡ [] → i ≤ g.rows
    → IsOwnerRow g.rows g.columns (rectangles m) i above → IsOwnerRow g.rows g.columns (rectangles m) (i + 1) below → AreUnmerged rows columns i above below
unmerged-rows g m i rows columns above below same_rows same_columns fits high wide none within over under = record { each = λ j less. arms-are j (omega (arith, less, same_columns)) }
  where
    arms-are : (j : ℕ) → j ≤ g.columns → arms (get_or above j None) (get_or above (j + 1) None) (get_or below j None) (get_or below (j + 1) None) ≡ unmerged_arms rows columns i j
    arms-are j less =
        let first : arms (get_or above j None) (get_or above (j + 1) None) (get_or below j None) (get_or below (j + 1) None) ≡ arms (owner g.rows g.columns (rectangles m) i j) (owner g.rows g.columns (rectangles m) i (j + 1)) (owner g.rows g.columns (rectangles m) (i + 1) j) (owner g.rows g.columns (rectangles m) (i + 1) (j + 1)) =
        rw (over.each j (omega (arith, less)), over.each (j + 1) (omega (arith, less)), under.each j (omega (arith, less)), under.each (j + 1) (omega (arith, less))) refl in
        first
        ∙ arms-meet (plan_of ASCII g (rectangles m)) [] (anchors-fit m g.rows g.columns fits) (record { row = high; col = wide }) i j within less
        ∙ ap (λ es. meeting g es i j) none
        ∙ same-arms _ _ _ _ _ _ _ _ (with-true (nat_lt 0 i)) (with-true (nat_lt j g.columns) ∙ ap (nat_lt j) (sym same_columns)) (with-true (nat_lt i g.rows) ∙ ap (nat_lt i) (sym same_rows)) (with-true (nat_lt 0 j))

module _ (rows columns i : ℕ) (above below : List (Option Rectangle)) (unmerged : AreUnmerged rows columns i above below) where
  apart : (j : ℕ) → j < columns → differ (get_or above (j + 1) None) (get_or below (j + 1) None) ≡ true
  apart j less = ap (λ (x : Arms). x.right) (unmerged.each j (omega (arith, less))) ∙ lt-ltb j columns less

  -- a border lies above each column, so no text is cut
  pub left-unmerged : (j : ℕ) (text : List ℕ) → j < columns → text ≡ left_of j (get_or above (j + 1) None) (get_or below (j + 1) None) text
  left-unmerged j text less = sym (cond-true _ _ _ (apart j less))

  pub unmerged-is : (sheet : Sheet) (texts : List (List ℕ)) → unmerged_line sheet.look.style rows columns i sheet.edges.now ≡ drawn_line sheet false above below columns texts
  unfolding drawn_line unmerged_line
  unmerged-is sheet texts = ap (λ x. x ++ (10 ∷ [])) (ap₂ (λ x y. x ++ y)
      (each-same (unmerged_stretch sheet.look.style rows columns i sheet.edges.now) (stretch sheet false above below columns texts) columns (λ j less. ap₂ (λ x y. x ++ y) (corner-is j (omega (arith, less))) (sym (cond-true _ _ _ (apart j less)))))
      (corner-is columns (omega arith)))
    where
      corner-is : (j : ℕ) → j ≤ columns → unmerged_corner sheet.look.style rows columns i j ≡ edge_before sheet false above below columns j
      corner-is j less = sym (marked-corner sheet.look.style (is_drawn sheet.look.style.columns columns j) (unmerged_arms rows columns i j)) ∙ ap (λ (x : Arms). cond (are_none x) [] (replicate (size_if (is_drawn sheet.look.style.columns columns j)) (corner sheet.look.style x))) (sym (unmerged.each j less))
