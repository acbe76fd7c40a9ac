-- Merged cells when lines are put into the opposite order, once or twice.
use Rattle.std.proofs.lemmas.Grind.{common_steps}
use Rattle.tabled_settings.proofs.Common.{◌+◌, ◌-◌, ◌<◌, ◌∙◌, ◌≡◌, ◌≤◌, ◌⊎◌, Axis, Bool, Carries, Fits, HasArea, LeadsBack, LiesInside, Offset, Places, Position, Rectangle, Rows, Size, SpanMap, Top, ap, arith, carried, carried_back, carried_if, count_of, in_line, limit_end, line_of, lines_from, rectangle, refl, reversed, reversed_index, reverses, rotated, span_at, subst, sym, true, ℕ}
use Rattle.tabled_grid.specs.declared.config.offset.Offset.TheVariants.{End}
use Rattle.tabled_settings.proofs.AlongLines.{lies_along}
use Rattle.tabled_settings.proofs.MirroredParts.{part_mirrored}
use Rattle.tabled_settings.proofs.Reversed.{index_inside}
use Rattle.tabled_settings.proofs.ThereAndBack.{lines_lead_back}

-- lines that come from those as far from the other end
module _ (axis : Axis) (old : ℕ → ℕ) (rows columns : ℕ) (mirrors : (i : ℕ) → i < count_of axis rows columns → old i + i + 1 ≡ count_of axis rows columns) where
  abbrev places : Places
  places = lines_from axis old rows columns

  -- each rectangle inside is carried to the one as far from the other end
  pub lines_carry : (a : Position) (s : Size) → a.row + s.height ≤ rows → a.col + s.width ≤ columns → Carries places (rectangle a s) (rectangle (in_line axis a (count_of axis rows columns - (line_of axis a + count_of axis s.height s.width))) s)
  lines_carry a s high far =
      let n = count_of axis rows columns in
      let inside : (i : ℕ) → 0 ≤ i → i < n → old i ≡ 0 + n - 1 - i = λ i low below. omega (arith, mirrors i below, below) in
      let outside : (i : ℕ) → i < n → (i < 0) ⊎ (n ≤ i) → old i ≡ i = λ i below none. absurd (omega (arith, below, none)) in
      let whole = part_mirrored axis old rows columns 0 n inside outside a s high far (omega arith) (omega arith) (lies_along axis rows columns (rectangle a s) high far).lines in
      let same : 0 + (n - (line_of axis a + count_of axis s.height s.width)) ≡ n - (line_of axis a + count_of axis s.height s.width) = omega arith in
      (rw same at whole)

  leads_back : LeadsBack places places
  leads_back = lines_lead_back axis old rows columns (λ i h. let far = mirrors i h in let within : old i < count_of axis rows columns = omega (arith, far) in (within, omega (arith, far, mirrors (old i) within)))

  moved : (a : Position) (s : Size) → HasArea (rectangle a s) → LiesInside rows columns (rectangle a s) → (f : Rectangle) × Carries places (rectangle a s) f × HasArea f
  moved a s full inside = (rectangle (in_line axis a (count_of axis rows columns - (line_of axis a + count_of axis s.height s.width))) s, lines_carry a s inside.bottom inside.right, record { height = full.height; width = full.width })

  twice : (m : SpanMap) → Fits m rows columns → carried places rows columns (carried places rows columns m) ≡ m
  twice m fits = carried_back places places leads_back m rows columns fits (record { each = λ a s h. let size = span_at m a s h in moved a s (record { height = size.height; width = size.width }) (fits.each (rectangle a s) h).inside })

pub top_twice_spans : (rows columns : ℕ) (m : SpanMap) → Fits m rows columns → carried (rotated Top rows columns) rows columns (carried (rotated Top rows columns) rows columns m) ≡ m
top_twice_spans rows columns = twice Rows (λ i. rows - 1 - i) rows columns (λ i h. omega (arith, h))

pub reversed_twice_spans : (axis : Axis) (rows columns : ℕ) (m : SpanMap) → Fits m rows columns → carried (reversed axis 0 (End 0) rows columns) rows columns (carried (reversed axis 0 (End 0) rows columns) rows columns m) ≡ m
reversed_twice_spans axis rows columns = let n = count_of axis rows columns in
    twice axis (reversed_index 0 (n - 0) n) rows columns (λ i h. rw (index_inside 0 (n - 0) n i (omega arith) (omega arith) (omega (arith, h))) (omega (arith, h)))

-- there are lines to reverse where the end is past the start and not past the table
pub reverses_yes : (axis : Axis) (s : ℕ) (limit : Offset) (rows columns e n : ℕ) → n ≡ count_of axis rows columns → e ≡ limit_end limit s n → s < e → e ≤ n → reverses axis s limit rows columns ≡ true
reverses_yes axis s limit rows columns e n count end some fits = grind (arith, common_steps)

-- they are carried along
pub reversal_carried : (axis : Axis) (s : ℕ) (limit : Offset) (rows columns rows' columns' e n : ℕ) (m k : SpanMap) → rows' ≡ rows → columns' ≡ columns → n ≡ count_of axis rows columns → e ≡ limit_end limit s n → s < e → e ≤ n →
    k ≡ carried (lines_from axis (reversed_index s e (count_of axis rows' columns')) rows' columns') rows' columns' m → k ≡ carried_if (reverses axis s limit rows columns) (reversed axis s limit rows columns) rows columns m
reversal_carried axis s limit rows columns rows' columns' e n m k tall wide count at some fits is =
    let end : e ≡ limit_end limit s (count_of axis rows columns) = at ∙ ap (limit_end limit s) count in
    let yes = reverses_yes axis s limit rows columns e (count_of axis rows columns) refl end some (subst (λ (x : ℕ). e ≤ x) count fits) in
    is
    ∙ ap (λ (r : ℕ). carried (lines_from axis (reversed_index s e (count_of axis r columns')) r columns') r columns' m) tall
    ∙ ap (λ (c : ℕ). carried (lines_from axis (reversed_index s e (count_of axis rows c)) rows c) rows c m) wide
    ∙ ap (λ (x : ℕ). carried (lines_from axis (reversed_index s x (count_of axis rows columns)) rows columns) rows columns m) end
    ∙ sym (ap (λ (b : Bool). carried_if b (reversed axis s limit rows columns) rows columns m) yes)
