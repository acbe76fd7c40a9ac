-- Where borders stand in a picture, and which arms their corners have.
use Rattle.tabled_draw.proofs.Common.{ASCII, Alignment, Arms, Bool, Columns, Grid, IsFine, IsInside, List, Member, None, Option, Plan, Rectangle, Rows, Size, Some, StandBetween, StandsAt, StandsIn, [], and_from, any-from, ap, ap₂, arith, arms, border, cases_Bool, cases_lt, cond, corner, count_along, differ, false, inl, inr, is_amid, is_drawn, is_in_range, is_joined_above, is_joined_around, is_joined_beside, le-leb, left, line_at, line_width, lines_around, list_any, lt-ltb, mark, meeting, nat_lt, nat_tests, not, owner_at, picture, place, plan_of, refl, replicate, same_place-self, sized, subst, sym, top, true, ℕ, ◌&&◌, ◌+◌, ◌-◌, ◌<◌, ◌==◌, ◌||◌, ◌∙◌, ◌∷◌, ◌≡◌, ◌≤◌, ◌⊎◌, false≢true}
use borrow.Author.Tests.{ne_eqb, eq-eqb}
use Rattle.tabled_draw.proofs.Arms.{equal-arms, none-alone, same-arms}
use Rattle.tabled_draw.proofs.Fine.{ascii}
use Rattle.tabled_draw.proofs.LawLines.{IsLineOf, edge-stands, level-stands}
use Rattle.tabled_draw.proofs.Owned.{Inside, Owns, owner-below, owner-both, owner-exists, owner-left, owner-member, owner-owns, owner-right, owner-some, owner-top}
use Rattle.tabled_grid.proofs.Owners.{AnchorsFit, owned}
use Rattle.std.proofs.lemmas.Bool.{and_parts, le-ltb, leb-true, ltb-true, true_from_ne_false}
use Rattle.tabled_grid.proofs.Members.{any-member}
use Rattle.tabled_grid.specs.declared.records.axis.Axis.{Axis}
use Rattle.tabled_grid.proofs.Owners.Owned.{alone, held}
use Rattle.tabled_draw.specs.Borders.{are_one}
use Rattle.tabled_draw.specs.Standing.{AreMet, StandPlain, lies_above, lies_around, lies_beside}
use Rattle.tabled_draw.proofs.LawPicture.{line-above, line-in, stands-at}

among-from : (k at n : ℕ) → at ≤ k → k < at + n → is_in_range k at n ≡ true
among-from k at n low high = and_from _ _ (le-leb at k low) (lt-ltb k (at + n) high)

in-range : (k at n : ℕ) → is_in_range k at n ≡ true → (at ≤ k) × (k < at + n)
in-range k at n t = (let parts = and_parts _ _ t in (leb-true _ _ parts.0, ltb-true _ _ parts.1))

in-amid : (k at n : ℕ) → is_amid k at n ≡ true → (at < k) × (k < at + n)
in-amid k at n t = (let parts = and_parts _ _ t in (ltb-true _ _ parts.0, ltb-true _ _ parts.1))

amid-from : (k at n : ℕ) → at < k → k < at + n → is_amid k at n ≡ true
amid-from k at n low high = and_from _ _ (lt-ltb at k low) (lt-ltb k (at + n) high)

-- there is an arm between two lines of the table, unless a merged cell joins the places at its sides
arm-if : (a b : ℕ) (arm joined : Bool) → (a < b → arm ≡ not joined) → (b ≤ a → arm ≡ false) → arm ≡ nat_lt a b && not joined
arm-if a b arm joined some none = elim (cases_lt a b) [
  | inl less ↦ some less ∙ ap (λ c. c && not joined) (sym (lt-ltb a b less))
  | inr more ↦ none more ∙ ap (λ c. c && not joined) (sym (le-ltb a b more))
]

module _ (plan : Plan) (aligns : List Alignment) (fit : AnchorsFit plan.grid.rows plan.grid.columns plan.merged) (some : IsInside plan.grid (place 0 0)) where
  -- an owner is a merged cell, or takes one place
  merged : (i j : ℕ) (o : Rectangle) → owner_at plan i j ≡ Some o → Member o plan.merged ⊎ (o.size ≡ sized 1 1)
  merged i j o e = elim (owned plan.merged (place s.row s.col)) [
    | held m h ↦ inl (subst (λ (x : Rectangle). Member x plan.merged) (sym s.is) m)
    | alone single never ↦ inr (ap (λ (x : Rectangle). x.size) (s.is ∙ single))
  ]
    where
      s : Inside plan.grid.rows plan.grid.columns plan.merged i j o
      s = owner-some e

  -- no owner has two places, unless a test says so of a merged cell
  crossed : (test : Rectangle → Bool) (i j k l : ℕ) → list_any test plan.merged ≡ false → i + j < k + l → ((o : Rectangle) → Owns plan.grid.rows plan.grid.columns plan.merged i j o → Owns plan.grid.rows plan.grid.columns plan.merged k l o → test o ≡ true)
      → (o : Rectangle) → owner_at plan i j ≡ Some o → owner_at plan k l ≡ Some o → ⊥
  crossed test i j k l clear apart meets o e f =
      let a = owner-owns fit e in
      let b = owner-owns fit f in
      elim (merged i j o e) [
        | inl m ↦ false≢true (sym clear ∙ any-from test o plan.merged m (meets o a b))
        | inr one ↦ let h : o.size.height ≡ 1 = ap (λ (x : Size). x.height) one in let w : o.size.width ≡ 1 = ap (λ (x : Size). x.width) one in omega arith
      ]

  abbrev at : ℕ → ℕ → Option Rectangle
  at i j = owner_at plan i j

  -- where no merged cell lies at both sides of an edge, no owner does
  no-beside : (i j : ℕ) → is_joined_beside plan.merged i j ≡ false → (o : Rectangle) → at (i + 1) j ≡ Some o → at (i + 1) (j + 1) ≡ Some o → ⊥
  no-beside i j clear = crossed (lies_beside i j) (i + 1) j (i + 1) (j + 1) clear (omega arith)
      (λ o a b. and_from _ _ (among-from i o.first.row o.size.height (omega (arith, a.top)) (omega (arith, a.bottom))) (amid-from j o.first.col o.size.width a.left (omega (arith, b.right))))

  no-above : (i j : ℕ) → is_joined_above plan.merged i j ≡ false → (o : Rectangle) → at i (j + 1) ≡ Some o → at (i + 1) (j + 1) ≡ Some o → ⊥
  no-above i j clear = crossed (lies_above i j) i (j + 1) (i + 1) (j + 1) clear (omega arith)
      (λ o a b. and_from _ _ (amid-from i o.first.row o.size.height a.top (omega (arith, b.bottom))) (among-from j o.first.col o.size.width (omega (arith, a.left)) (omega (arith, a.right))))

  no-around : (i j : ℕ) → is_joined_around plan.merged i j ≡ false → (o : Rectangle) → at i j ≡ Some o → at i (j + 1) ≡ Some o → at (i + 1) j ≡ Some o → at (i + 1) (j + 1) ≡ Some o → ⊥
  no-around i j clear o e e' f f' = crossed (lies_around i j) i j (i + 1) (j + 1) clear (omega arith)
      (λ o a b. and_from _ _ (amid-from i o.first.row o.size.height a.top (omega (arith, b.bottom))) (amid-from j o.first.col o.size.width a.left (omega (arith, b.right)))) o e f'

  -- ---- the arms of corners

  differ-one : (a b : Option Rectangle) (e : Rectangle) → a ≡ Some e → b ≡ Some e → differ a b ≡ false
  differ-one a b e f h = ap₂ differ f h ∙ ap not (same_place-self e.first)

  differ-beside : (r j : ℕ) → r < plan.grid.rows → j ≤ plan.grid.columns → differ (at (r + 1) j) (at (r + 1) (j + 1)) ≡ not (is_joined_beside plan.merged r j)
  differ-beside r j h k = elim (cases_Bool (is_joined_beside plan.merged r j)) [
    | inl t ↦ let one = any-member (lies_beside r j) plan.merged t in joined one.0 one.1 one.2 ∙ sym (ap not t)
    | inr f ↦ true_from_ne_false _ (λ same. (let both = owner-both fit (r + 1) j (r + 1) (j + 1) same some_one in no-beside r j f both.0 both.1 both.2)) ∙ sym (ap not f)
  ]
    where
      joined : (e : Rectangle) → Member e plan.merged → lies_beside r j e ≡ true → differ (at (r + 1) j) (at (r + 1) (j + 1)) ≡ false
      joined e m t =
          let rows = in-range r e.first.row e.size.height (and_parts (is_in_range r e.first.row e.size.height) (is_amid j e.first.col e.size.width) t).0 in
          let columns = in-amid j e.first.col e.size.width (and_parts (is_in_range r e.first.row e.size.height) (is_amid j e.first.col e.size.width) t).1 in
          differ-one (at (r + 1) j) (at (r + 1) (j + 1)) e
          (owner-member fit e m (r + 1) j (omega (arith, rows.0)) (omega (arith, rows.1)) columns.0 (omega (arith, columns.1)))
          (owner-member fit e m (r + 1) (j + 1) (omega (arith, rows.0)) (omega (arith, rows.1)) (omega (arith, columns.0)) (omega (arith, columns.1)))

      some_one : at (r + 1) j ≡ None → at (r + 1) (j + 1) ≡ None → ⊥
      some_one none none' = elim (cases_lt j plan.grid.columns) [
        | inl less ↦ owner-exists plan.merged (r + 1) (j + 1) (omega arith) (omega (arith, h)) (omega arith) (omega (arith, less)) none'
        | inr end ↦ owner-exists plan.merged (r + 1) j (omega arith) (omega (arith, h)) (omega (arith, end, some.col)) k none
      ]

  differ-above : (i c : ℕ) → i ≤ plan.grid.rows → c < plan.grid.columns → differ (at i (c + 1)) (at (i + 1) (c + 1)) ≡ not (is_joined_above plan.merged i c)
  differ-above i c h k = elim (cases_Bool (is_joined_above plan.merged i c)) [
    | inl t ↦ let one = any-member (lies_above i c) plan.merged t in joined one.0 one.1 one.2 ∙ sym (ap not t)
    | inr f ↦ true_from_ne_false _ (λ same. (let both = owner-both fit i (c + 1) (i + 1) (c + 1) same some_one in no-above i c f both.0 both.1 both.2)) ∙ sym (ap not f)
  ]
    where
      joined : (e : Rectangle) → Member e plan.merged → lies_above i c e ≡ true → differ (at i (c + 1)) (at (i + 1) (c + 1)) ≡ false
      joined e m t =
          let rows = in-amid i e.first.row e.size.height (and_parts (is_amid i e.first.row e.size.height) (is_in_range c e.first.col e.size.width) t).0 in
          let columns = in-range c e.first.col e.size.width (and_parts (is_amid i e.first.row e.size.height) (is_in_range c e.first.col e.size.width) t).1 in
          differ-one (at i (c + 1)) (at (i + 1) (c + 1)) e
          (owner-member fit e m i (c + 1) rows.0 (omega (arith, rows.1)) (omega (arith, columns.0)) (omega (arith, columns.1)))
          (owner-member fit e m (i + 1) (c + 1) (omega (arith, rows.0)) (omega (arith, rows.1)) (omega (arith, columns.0)) (omega (arith, columns.1)))

      some_one : at i (c + 1) ≡ None → at (i + 1) (c + 1) ≡ None → ⊥
      some_one none none' = elim (cases_lt i plan.grid.rows) [
        | inl less ↦ owner-exists plan.merged (i + 1) (c + 1) (omega arith) (omega (arith, less)) (omega arith) (omega (arith, k)) none'
        | inr end ↦ owner-exists plan.merged i (c + 1) (omega (arith, end, some.row)) h (omega arith) (omega (arith, k)) none
      ]

  -- outside the table no border lies between two places
  arm-up : (i j : ℕ) → i ≤ plan.grid.rows → j ≤ plan.grid.columns → differ (at i j) (at i (j + 1)) ≡ nat_lt 0 i && not (is_joined_beside plan.merged (i - 1) j)
  arm-up i j h k = arm-if 0 i (differ (at i j) (at i (j + 1))) (is_joined_beside plan.merged (i - 1) j)
      (λ low. let same : i ≡ i - 1 + 1 = omega (arith, low) in ap (λ r. differ (at r j) (at r (j + 1))) same ∙ differ-beside (i - 1) j (omega (arith, low, h)) k)
      (λ none. let same : i ≡ 0 = omega (arith, none) in ap (λ r. differ (at r j) (at r (j + 1))) same ∙ ap₂ differ (owner-top _ _ plan.merged j) (owner-top _ _ plan.merged (j + 1)))

  arm-down : (i j : ℕ) → i ≤ plan.grid.rows → j ≤ plan.grid.columns → differ (at (i + 1) j) (at (i + 1) (j + 1)) ≡ nat_lt i plan.grid.rows && not (is_joined_beside plan.merged i j)
  arm-down i j h k = arm-if i plan.grid.rows (differ (at (i + 1) j) (at (i + 1) (j + 1))) (is_joined_beside plan.merged i j) (λ low. differ-beside i j low k)
      (λ none. ap₂ differ (owner-below _ _ plan.merged (i + 1) j (omega (arith, none))) (owner-below _ _ plan.merged (i + 1) (j + 1) (omega (arith, none))))

  arm-left : (i j : ℕ) → i ≤ plan.grid.rows → j ≤ plan.grid.columns → differ (at i j) (at (i + 1) j) ≡ nat_lt 0 j && not (is_joined_above plan.merged i (j - 1))
  arm-left i j h k = arm-if 0 j (differ (at i j) (at (i + 1) j)) (is_joined_above plan.merged i (j - 1))
      (λ low. let same : j ≡ j - 1 + 1 = omega (arith, low) in ap (λ c. differ (at i c) (at (i + 1) c)) same ∙ differ-above i (j - 1) h (omega (arith, low, k)))
      (λ none. let same : j ≡ 0 = omega (arith, none) in ap (λ c. differ (at i c) (at (i + 1) c)) same ∙ ap₂ differ (owner-left _ _ plan.merged i) (owner-left _ _ plan.merged (i + 1)))

  arm-right : (i j : ℕ) → i ≤ plan.grid.rows → j ≤ plan.grid.columns → differ (at i (j + 1)) (at (i + 1) (j + 1)) ≡ nat_lt j plan.grid.columns && not (is_joined_above plan.merged i j)
  arm-right i j h k = arm-if j plan.grid.columns (differ (at i (j + 1)) (at (i + 1) (j + 1))) (is_joined_above plan.merged i j) (λ low. differ-above i j h low)
      (λ none. ap₂ differ (owner-right _ _ plan.merged i (j + 1) (omega (arith, none))) (owner-right _ _ plan.merged (i + 1) (j + 1) (omega (arith, none))))

  -- the arms of a corner are the borders that meet there
  pub arms-meet : (i j : ℕ) → i ≤ plan.grid.rows → j ≤ plan.grid.columns → arms (at i j) (at i (j + 1)) (at (i + 1) j) (at (i + 1) (j + 1)) ≡ meeting plan.grid plan.merged i j
  arms-meet i j h k = same-arms _ _ _ _ _ _ _ _ (arm-up i j h k) (arm-right i j h k) (arm-down i j h k) (arm-left i j h k)

  -- the line above a row, or below the last one, and a line of a row
  line-between : (i : ℕ) → i ≤ plan.grid.rows → IsLineOf plan.grid.rows i (i + 1)
  line-between i h = record { some = some.row; low = omega arith; high = h; next = inr refl }

  line-of : (i : ℕ) → i < plan.grid.rows → IsLineOf plan.grid.rows (i + 1) (i + 1)
  line-of i h = record { some = some.row; low = omega arith; high = omega (arith, h); next = inl refl }

  module _ (fine : IsFine plan.style) where
    pub stand-between : StandBetween plan aligns
    stand-between = record {
      beside = λ i j n h k drawn above below clear.
          stands-at plan aligns n (left plan j) (line_at plan aligns n (i + 1) (i + 1)) (plan.style.vertical ∷ []) (line-in plan aligns some.row some.col i n h above below)
          (subst (λ b. StandsIn (line_at plan aligns n (i + 1) (i + 1)) (left plan j) (mark plan.style b (arms (at (i + 1) j) (at (i + 1) (j + 1)) (at (i + 1) j) (at (i + 1) (j + 1))) ∷ [])) (eq-eqb (i + 1) (i + 1) refl)
          (edge-stands plan aligns fine fit n (i + 1) (i + 1) (line-of i h) some.col j k drawn (λ o e e' f f'. no-beside i j clear o e e')));
      above = λ i j h k drawn clear.
          stands-at plan aligns (top plan i) (left plan j + line_width plan j) (line_at plan aligns (top plan i) i (i + 1)) (replicate (left plan (j + 1) - left plan j - line_width plan j) plan.style.horizontal) (line-above plan aligns some.row some.col i h drawn)
          (level-stands plan aligns fine fit (top plan i) i (i + 1) (line-between i h) some.col j k (no-above i j clear));
      around = λ i j h k drawn drawn' clear.
          stands-at plan aligns (top plan i) (left plan j) (line_at plan aligns (top plan i) i (i + 1)) (corner plan.style (meeting plan.grid plan.merged i j) ∷ []) (line-above plan aligns some.row some.col i h drawn)
          (subst (λ c. StandsIn (line_at plan aligns (top plan i) i (i + 1)) (left plan j) (c ∷ []))
          (ap (λ b. mark plan.style b (arms (at i j) (at i (j + 1)) (at (i + 1) j) (at (i + 1) (j + 1)))) (ne_eqb i (i + 1) (λ same. omega (arith, same))) ∙ ap (corner plan.style) (arms-meet i j h k))
          (edge-stands plan aligns fine fit (top plan i) i (i + 1) (line-between i h) some.col j k drawn' (no-around i j clear)));
    }

  -- ---- no border ends at a corner

  pub are-met : AreMet plan.grid plan.merged
  are-met = record {
    none_alone = λ i j h k. ap are_one (sym (arms-meet i j h k)) ∙ none-alone (at i j) (at i (j + 1)) (at (i + 1) j) (at (i + 1) (j + 1));
    to_right = λ i j h. ap₂ (λ b c. b && not (is_joined_above plan.merged i c)) (lt-ltb j plan.grid.columns h ∙ sym (lt-ltb 0 (j + 1) (omega arith))) (let e : j ≡ j + 1 - 1 = omega arith in e);
    down = λ i j h. ap₂ (λ b r. b && not (is_joined_beside plan.merged r j)) (lt-ltb i plan.grid.rows h ∙ sym (lt-ltb 0 (i + 1) (omega arith))) (let e : i ≡ i + 1 - 1 = omega arith in e);
  }

-- ---- the default look

-- all its lines are drawn, and all its corners alike
plain-border : (axis : Axis) (g : Grid (List ℕ)) (k : ℕ) → k ≤ count_along axis g → border axis ASCII g k ≡ 1
plain-border axis g k within = ap (λ b. cond b 1 0) (drawn axis within)
  where
    all : (n : ℕ) → k ≤ n → (((k == 0) && true) || ((k == n) && true)) || (((k == 1) && true) || ((nat_lt 0 k && nat_lt k n) && true)) ≡ true
    all n h = grind (arith, nat_tests)

    drawn : (axis : Axis) → k ≤ count_along axis g → is_drawn (lines_around axis ASCII) (count_along axis g) k ≡ true
    drawn Rows h = all g.rows h
    drawn Columns h = all g.columns h

plain-corner : (a : Arms) → corner ASCII a ≡ 43
plain-corner a = equal-arms (corner ASCII) (λ a. 43) refl a

pub stand-plain : (g : Grid (List ℕ)) (es : List Rectangle) → AnchorsFit g.rows g.columns es → IsInside g (place 0 0) → StandPlain g es
stand-plain g es fit some =
    let all = stand-between (plan_of ASCII g es) [] fit some ascii in
    record {
      beside = λ i j n h k above below clear. all.beside i j n h k (plain-border Columns g j k) (omega (arith, above, plain-border Rows g i (omega (arith, h)))) below clear;
      above = λ i j h k clear. subst (λ b. StandsAt (picture ASCII [] g es) (top (plan_of ASCII g es) i) (left (plan_of ASCII g es) j + b) (replicate (left (plan_of ASCII g es) (j + 1) - left (plan_of ASCII g es) j - b) 45)) (plain-border Columns g j (omega (arith, k))) (all.above i j h k (plain-border Rows g i h) clear);
      around = λ i j h k clear. subst (λ c. StandsAt (picture ASCII [] g es) (top (plan_of ASCII g es) i) (left (plan_of ASCII g es) j) (c ∷ [])) (plain-corner (meeting g es i j)) (all.around i j h k (plain-border Rows g i h) (plain-border Columns g j k) clear);
    }
