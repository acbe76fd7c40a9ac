-- The lines and the characters of styles: computed, for each set of arms.
use Rattle.tabled_draw.proofs.Common.{Alignment, Arms, List, Plan, Style, [], are_none, arith, cond, cond-false, cond-true, corner, meeting, nat_tests, sym, ℕ, ◌∙◌, ◌∷◌, ◌≡◌}
use Rattle.tabled_draw.proofs.Arms.{all_arms, equal-arms}
use Rattle.tabled_draw.proofs.LawBorders.{are-met, stand-between}
use Rattle.tabled_grid.proofs.Owners.{AnchorsFit}
use Rattle.tabled_draw.specs.Borders.{are_one}
use Rattle.tabled_draw.specs.BoxCharacters.{arms_of, horizontal, vertical}
use Rattle.tabled_draw.specs.StyleLaws.{AreDrawn, HasArmsAtCorners, HasEnds, IsBox, IsMadeOf, all_lines, inner_lines, line_of_header, no_lines, outer_lines, outer_lines_and_header}
use Rattle.tabled_draw.specs.declared.style.TheConstants.Lines.{ALL, FRAME, FRAME_AND_HEADER, HEADER, INNER, NONE}

-- ---- lines

pub all-drawn : AreDrawn all_lines ALL
all-drawn n k h = grind (arith, nat_tests)

pub none-drawn : AreDrawn no_lines NONE
none-drawn n k h = grind (arith, nat_tests)

pub inner-drawn : AreDrawn inner_lines INNER
inner-drawn n k h = grind (arith, nat_tests)

pub header-drawn : AreDrawn line_of_header HEADER
header-drawn n k h = grind (arith, nat_tests)

pub outer-drawn : AreDrawn outer_lines FRAME
outer-drawn n k h = grind (arith, nat_tests)

pub outer-and-header-drawn : AreDrawn outer_lines_and_header FRAME_AND_HEADER
outer-and-header-drawn n k h = grind (arith, nat_tests)

-- ---- characters

pub is-box : (characters : List (ℕ × Arms)) (style : Style) → arms_of characters style.horizontal ≡ horizontal → arms_of characters style.vertical ≡ vertical
    → all_arms (λ a. cond (are_one a) a (arms_of characters (corner style a))) ≡ all_arms (λ a. a) → IsBox characters style
is-box characters style level upright corners = record {
  level = level;
  upright = upright;
  corners = λ a h. sym (cond-false (are_one a) a (arms_of characters (corner style a)) h) ∙ equal-arms (λ a. cond (are_one a) a (arms_of characters (corner style a))) (λ a. a) corners a;
}

pub has-ends : (characters : List (ℕ × Arms)) (style : Style) → all_arms (λ a. cond (are_one a) (arms_of characters (corner style a)) a) ≡ all_arms (λ a. a) → HasEnds characters style
has-ends characters style ends a h = sym (cond-true (are_one a) (arms_of characters (corner style a)) a h) ∙ equal-arms (λ a. cond (are_one a) (arms_of characters (corner style a)) a) (λ a. a) ends a

pub is-made : (level upright : List ℕ) (corner_of : Arms → List ℕ) (style : Style) → style.horizontal ∷ [] ≡ level → style.vertical ∷ [] ≡ upright
    → all_arms (λ a. cond (are_none a) [] (corner style a ∷ [])) ≡ all_arms (λ a. cond (are_none a) [] (corner_of a)) → IsMadeOf level upright corner_of style
is-made level upright corner_of style is_level is_upright corners = record {
  level = is_level;
  upright = is_upright;
  corners = λ a h. sym (cond-false (are_none a) [] (corner style a ∷ []) h) ∙ equal-arms (λ a. cond (are_none a) [] (corner style a ∷ [])) (λ a. cond (are_none a) [] (corner_of a)) corners a ∙ cond-false (are_none a) [] (corner_of a) h;
}

-- ---- corners in pictures

pub arms-at-corners : (plan : Plan) (aligns : List Alignment) → AnchorsFit plan.grid.rows plan.grid.columns plan.merged → HasArmsAtCorners plan aligns
arms-at-corners plan aligns fit characters box fine some i j low far drawn_row drawn_column apart = record {
  character = corner plan.style (meeting plan.grid plan.merged i j);
  has_arms = box.corners (meeting plan.grid plan.merged i j) ((are-met plan aligns fit some).none_alone i j low far);
  stands = (stand-between plan aligns fit some fine).around i j low far drawn_row drawn_column apart;
}
