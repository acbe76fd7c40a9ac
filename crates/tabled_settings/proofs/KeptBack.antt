-- Lines in an order, and back in the one that undoes it.
use Rattle.tabled_settings.proofs.Common.{◌<◌, ◌∙◌, ◌≡◌, Axis, Columns, Fits, Grid, IsEven, LeadsBack, List, Places, Position, ReadsThrough, Rows, SpanMap, Takes, ap, arith, carried, carried_back, columns_if, cond, count_along, count_of, eqb, false, get_or, in_line, kept_lines, length, line_of, lines_from, ne_eqb, refl, subst, sym, ℕ}
use Rattle.tabled_carry.specs.Images.{CarriesAll}
use Rattle.tabled_settings.proofs.AlongLines.{taken, takes}
use Rattle.tabled_settings.proofs.LineReads.{counted}
use Rattle.tabled_settings.proofs.ThereAndBack.{as_it_was}
use Rattle.tabled_settings.specs.Kept.{AreInverse, TellPlaces, spans_kept}

-- all lines in an order make a table of the same shape
whole : (axis : Axis) (xs : List ℕ) (rows columns : ℕ) → 0 < rows → length xs ≡ count_of axis rows columns → kept_lines axis xs rows columns ≡ lines_from axis (λ (i : ℕ). get_or xs i 0) rows columns
whole Rows xs rows columns some many =
    let filled : eqb rows 0 ≡ false = ne_eqb rows 0 (λ none. absurd (omega (arith, none, some))) in
    ap (λ (n : ℕ). lines_from Rows (λ (i : ℕ). get_or xs i 0) n (columns_if n columns)) many ∙ ap (λ b. lines_from Rows (λ (i : ℕ). get_or xs i 0) rows (cond b 0 columns)) filled
whole Columns xs rows columns some many = ap (lines_from Columns (λ (i : ℕ). get_or xs i 0) rows) many

-- what goes to a place comes back from it
goes_back : (axis : Axis) (xs ys : List ℕ) (rows columns : ℕ) (p q : Position) → TellPlaces xs ys (count_of axis rows columns) → Takes (lines_from axis (λ (i : ℕ). get_or xs i 0) rows columns) p q → Takes (lines_from axis (λ (i : ℕ). get_or ys i 0) rows columns) q p
goes_back axis xs ys rows columns p q told t =
    let a = taken (λ (i : ℕ). get_or xs i 0) rows columns p q axis t in
    takes (λ (i : ℕ). get_or ys i 0) rows columns q p axis (record {
      within = omega (arith, a.line, told.below (line_of axis p) a.within);
      across_within = omega (arith, a.across_within, a.same);
      line = ap (λ (i : ℕ). get_or ys i 0) (sym a.line) ∙ told.back (line_of axis p) a.within;
      same = sym a.same;
    })

module _ (axis : Axis) (xs ys : List ℕ) (rows columns : ℕ) (t : AreInverse xs ys (count_of axis rows columns)) where
  abbrev there : Places
  there = lines_from axis (λ (i : ℕ). get_or xs i 0) rows columns

  abbrev back : Places
  back = lines_from axis (λ (i : ℕ). get_or ys i 0) rows columns

  leads : LeadsBack there back
  leads = record { to = λ p q. goes_back axis xs ys rows columns p q t.there; from = λ p q. goes_back axis ys xs rows columns q p t.back }

  pub cells_back : {A : Type 0} (g h l : Grid A) → IsEven g → rows ≡ g.rows → columns ≡ g.columns → ReadsThrough there g h → ReadsThrough back h l → l ≡ g
  cells_back g h l even tall wide first second = as_it_was there back leads g h l even tall wide (λ q row col. (in_line axis q (get_or ys (line_of axis q) 0), record { row = row; col = col; from = refl })) first second

  pub merged_back : (m : SpanMap) → Fits m rows columns → CarriesAll there m → carried back rows columns (carried there rows columns m) ≡ m
  merged_back m fits all = carried_back there back leads m rows columns fits all

-- the same of lines that are kept
pub kept_cells_back : {A : Type 0} (axis : Axis) (xs ys : List ℕ) (g h l : Grid A) → IsEven g → AreInverse xs ys (count_along axis g) → 0 < g.rows → ReadsThrough (kept_lines axis xs g.rows g.columns) g h → ReadsThrough (kept_lines axis ys h.rows h.columns) h l → l ≡ g
kept_cells_back axis xs ys g h l even t some first second =
    let told : AreInverse xs ys (count_of axis g.rows g.columns) = subst (AreInverse xs ys) (sym (counted axis g)) t in
    let there = subst (λ (places : Places). ReadsThrough places g h) (whole axis xs g.rows g.columns some told.there.many) first in
    let rows : h.rows ≡ g.rows = there.rows in
    let columns : h.columns ≡ g.columns = there.columns in
    let same = ap (λ (n : ℕ). kept_lines axis ys n h.columns) rows ∙ ap (kept_lines axis ys g.rows) columns ∙ whole axis ys g.rows g.columns some told.back.many in
    cells_back axis xs ys g.rows g.columns told g h l even refl refl there (subst (λ (places : Places). ReadsThrough places h l) same second)

pub kept_merged_back : (axis : Axis) (xs ys : List ℕ) (m : SpanMap) (rows columns : ℕ) → 0 < rows → AreInverse xs ys (count_of axis rows columns) → Fits m rows columns → CarriesAll (kept_lines axis xs rows columns) m → spans_kept axis ys rows columns (spans_kept axis xs rows columns m) ≡ m
kept_merged_back axis xs ys m rows columns some t fits all =
    let there = whole axis xs rows columns some t.there.many in
    let back = whole axis ys rows columns some t.back.many in
    ap (λ (places : Places). carried places rows columns (carried (kept_lines axis xs rows columns) rows columns m)) back
    ∙ ap (λ (places : Places). carried (lines_from axis (λ (i : ℕ). get_or ys i 0) rows columns) rows columns (carried places rows columns m)) there
    ∙ merged_back axis xs ys rows columns t m fits (subst (λ (places : Places). CarriesAll places m) there all)
