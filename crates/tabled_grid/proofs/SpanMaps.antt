-- What maps of spans have at each place, after each change.
use Rattle.tabled_grid.proofs.Common.{[], ◌&&◌, ◌<◌, ◌∙◌, ◌∷◌, ◌≡◌, ◌≢◌, ◌≤◌, ◌⊎◌, AreSorted, Bool, Equal, Greater, In, Less, List, None, Option, Ordering, Position, Rectangle, Size, Some, SpanMap, and_from, and_parts, ap, ap₂, arith, cases_Bool, cases_lt, common_steps, cond, cond-false, cond-true, drop_hidden, eq-eqb, eq_by_cmp, false, false≢true, get, holds, inl, inr, is_eq, is_hidden, is_span, is_visible, list_any, none-some, not, not_from_false, not_from_true, or_cases, or_left, or_right, place, position_cmp, rectangle, rectangles, refl, same_Some, same_place, size_at, sized, subst, sym, tied_itself, true, unwrap_or, with_size, ℕ}
use Rattle.tabled_grid.specs.Spans as spans
use borrow.Author.Tests.{eqb-true}
pub use Rattle.tabled_grid.proofs.SortedEntries.{both, halves, less}
use Rattle.tabled_grid.proofs.SortedEntries.{Below, above, find_at, get-insert, get-rectangles, get-remove, get-retain, positions_exact, positions_total, rectangles_sorted, span-from, span-true, span_at}
use Rattle.tabled_grid.proofs.Geometry.{Full, Visible, cases_place}
use Rattle.tabled_grid.proofs.Rectangles.{holds-from, holds-true}

pub equal : (o : Ordering) → is_eq o ≡ true → o ≡ Equal
equal Less h = cc
equal Equal h = refl
equal Greater h = cc

-- a place at which a rectangle is found comes after what comes before all
pub found_above : (p x : Position) (es : List Rectangle) (size : Size) → Below x es → find_at p es ≡ Some size → position_cmp x p ≡ Less
found_above p x [] size below is = absurd (none-some size is)
found_above p x (e ∷ es) size below is = at_first (is_eq (position_cmp p e.first)) refl is (found_above p x es size (halves _ _ below).1)
  where
    at_first : (b : Bool) → is_eq (position_cmp p e.first) ≡ b → cond b (Some e.size) (find_at p es) ≡ Some size → (find_at p es ≡ Some size → position_cmp x p ≡ Less) → position_cmp x p ≡ Less
    at_first true t is later = subst (λ y. position_cmp x y ≡ Less) (sym (positions_exact p e.first (equal _ t))) (less _ (halves _ _ below).0)
    at_first false f is later = later is

-- a rectangle that passes a test
pub record Passes (test : Rectangle → Bool) (es : List Rectangle) : Type 0 where
  pub anchor : Position
  pub size : Size
  pub is : find_at anchor es ≡ Some size
  pub passes : test (rectangle anchor size) ≡ true

pub any-found : (test : Rectangle → Bool) (es : List Rectangle) → AreSorted es → list_any test es ≡ true → Passes test es
any-found test [] up any = cc
any-found test (e ∷ es) up any = elim (or_cases (test e) (list_any test es) any) [
  | inl t ↦ record { anchor = e.first; size = e.size; is = ap (λ r. cond (is_eq r) (Some e.size) (find_at e.first es)) (tied_itself positions_total e.first); passes = t }
  | inr later ↦
      let rest = any-found test es (halves _ _ up).1 later in
      let below = found_above rest.anchor e.first es rest.size (halves _ _ up).0 rest.is in
      record { anchor = rest.anchor; size = rest.size; is = ap (λ r. cond (is_eq r) (Some e.size) (find_at rest.anchor es)) (above e.first rest.anchor below) ∙ rest.is; passes = rest.passes }
]

pub found-any : (test : Rectangle → Bool) (es : List Rectangle) (p : Position) (size : Size) → find_at p es ≡ Some size → test (rectangle p size) ≡ true → list_any test es ≡ true
found-any test [] p size is t = absurd (none-some size is)
found-any test (e ∷ es) p size is t = at_first (is_eq (position_cmp p e.first)) refl is (λ h. found-any test es p size h t)
  where
    at_first : (b : Bool) → is_eq (position_cmp p e.first) ≡ b → cond b (Some e.size) (find_at p es) ≡ Some size → (find_at p es ≡ Some size → list_any test es ≡ true) → list_any test (e ∷ es) ≡ true
    at_first true b is later = or_left (test e) (list_any test es) (ap₂ (λ x y. test (rectangle x y)) (sym (positions_exact p e.first (equal _ b))) (same_Some _ _ is) ∙ t)
    at_first false b is later = or_right (test e) (list_any test es) (later is)

pub same_place-true : (a b : Position) → same_place a b ≡ true → a ≡ b
same_place-true a b t = let parts = and_parts _ _ t in ap₂ place (eqb-true _ _ parts.0) (eqb-true _ _ parts.1)

pub same_place-self : (a : Position) → same_place a a ≡ true
same_place-self a = and_from _ _ (eq-eqb a.row a.row refl) (eq-eqb a.col a.col refl)

pub same_place-apart : (a b : Position) → a ≢ b → same_place a b ≡ false
same_place-apart a b apart = grind (arith, common_steps, cases_Bool, same_place-true)

-- another anchor whose rectangle holds a place
pub record HiddenBy (m : SpanMap) (p : Position) : Type 0 where
  pub anchor : Position
  pub size : Size
  pub has : get m anchor ≡ Some size
  pub holds : In (rectangle anchor size) p
  pub other : anchor ≢ p

hides : Position → Rectangle → Bool
hides p e = holds e p && not (same_place e.first p)

pub hidden_by : (m : SpanMap) (p : Position) → is_hidden m p ≡ true → HiddenBy m p
unfolding hides
hidden_by m p h =
    let found = any-found (hides p) (rectangles m) (rectangles_sorted m) h in
    let parts = and_parts _ _ found.passes in
    record {
      anchor = found.anchor;
      size = found.size;
      has = get-rectangles m found.anchor ∙ found.is;
      holds = holds-true (rectangle found.anchor found.size) p parts.0;
      other = λ e. false≢true (sym (not_from_true (same_place found.anchor p) (subst (λ (x : Position). same_place found.anchor x ≡ true) e (same_place-self found.anchor))) ∙ parts.1);
    }

pub hidden-from : (m : SpanMap) (a p : Position) (size : Size) → get m a ≡ Some size → In (rectangle a size) p → a ≢ p → is_hidden m p ≡ true
unfolding hides
hidden-from m a p size has holds other =
    found-any (hides p) (rectangles m) a size (sym (get-rectangles m a) ∙ has)
    (and_from _ _ (holds-from (rectangle a size) p holds) (not_from_false _ (same_place-apart a p other)))

-- the size at a place is that of its anchor
pub size_at-some : (m : SpanMap) (a : Position) (size : Size) → get m a ≡ Some size → size_at m a ≡ size
size_at-some m a size has = ap (λ (s : Option Size). unwrap_or s (sized 1 1)) has

pub size_at-none : (m : SpanMap) (a : Position) → get m a ≡ None → size_at m a ≡ (sized 1 1)
size_at-none m a has = ap (λ (s : Option Size). unwrap_or s (sized 1 1)) has

-- a place has an anchor or has none
pub data At (m : SpanMap) (a : Position) : Type 0 where
  none : get m a ≡ None → At m a
  some : (size : Size) → get m a ≡ Some size → At m a

pub at : (m : SpanMap) (a : Position) → At m a
at m a = known (get m a) refl
  where
    known : (s : Option Size) → get m a ≡ s → At m a
    known None e = none e
    known (Some size) e = some size e

-- a visible place is in no other rectangle
pub visible : (m : SpanMap) (p : Position) → is_visible m p ≡ true → Visible (size_at m) p
visible m p shown a holds = at_itself (at m a) (cases_place a p)
  where
    at_itself : At m a → (a ≡ p) ⊎ (a ≢ p) → a ≡ p
    at_itself s (inl e) = e
    at_itself (none e) (inr n) = let h = rw (size_at-none m a e) at holds in absurd (n (ap₂ place (omega (arith, h.top, h.bottom)) (omega (arith, h.left, h.right))))
    at_itself (some size e) (inr n) =
        let hidden = hidden-from m a p size e (rw (size_at-some m a size e) at holds) n in
        let never : false ≡ true = sym (not_from_true _ hidden) ∙ shown in cc

-- all sizes are those of more than one cell: no rectangle is empty
pub full : (m : SpanMap) → Full (size_at m)
full m = grind (arith, common_steps, at, size_at-none, size_at-some, span_at)

pub tied : (p : Position) → eq_by_cmp position_cmp p p ≡ true
tied p = ap is_eq (tied_itself positions_total p)

pub untied : (q p : Position) → q ≢ p → eq_by_cmp position_cmp q p ≡ false
untied q p n = grind (arith, common_steps, cases_Bool, positions_exact, equal)

-- a size that is not that of more than one cell is that of one, or is empty
pub one_cell : (size : Size) → 1 ≤ size.height → 1 ≤ size.width → is_span size ≡ false → size ≡ sized 1 1
one_cell size tall wide f = ap₂ sized (alone size.height tall (λ more. never (inl more))) (alone size.width wide (λ more. never (inr more)))
  where
    never : (1 < size.height) ⊎ (1 < size.width) → ⊥
    never more = false≢true (sym f ∙ span-from size (record { height = tall; width = wide; merges = more }))

    alone : (n : ℕ) → 1 ≤ n → (1 < n → ⊥) → n ≡ 1
    alone n least more = elim (cases_lt 1 n) [ inl h ↦ absurd (more h) | inr h ↦ omega arith ]

-- what the map has at the place whose size was set, and elsewhere
module _ (m : SpanMap) (p : Position) (size : Size) where
  pub with_size-other : (q : Position) → q ≢ p → get (with_size m p size) q ≡ get m q
  with_size-other q n = elim (cases_Bool (is_span size)) [
    | inl t ↦ rw t (get-insert m p size q (span-true size t) ∙ cond-false _ _ _ (untied q p n))
    | inr f ↦ rw f (get-remove m p q ∙ cond-false _ _ _ (untied q p n))
  ]

  pub size_at-with_size-other : (q : Position) → q ≢ p → size_at (with_size m p size) q ≡ size_at m q
  size_at-with_size-other q n = ap (λ (s : Option Size). unwrap_or s (sized 1 1)) (with_size-other q n)

  pub size_at-with_span : is_span size ≡ true → size_at (with_size m p size) p ≡ size
  size_at-with_span t = rw t (size_at-some (spans.insert m p size) p size (get-insert m p size p (span-true size t) ∙ cond-true _ _ _ (tied p)))

  pub size_at-with_none : is_span size ≡ false → size_at (with_size m p size) p ≡ sized 1 1
  size_at-with_none f = rw f (size_at-none (spans.remove m p) p (get-remove m p p ∙ cond-true _ _ _ (tied p)))

  pub size_at-with_size : 1 ≤ size.height → 1 ≤ size.width → size_at (with_size m p size) p ≡ size
  size_at-with_size tall wide = elim (cases_Bool (is_span size)) [ inl t ↦ size_at-with_span t | inr f ↦ size_at-with_none f ∙ sym (one_cell size tall wide f) ]

-- what is left after hidden anchors are dropped
pub get-drop_hidden : (m : SpanMap) (q : Position) → get (drop_hidden m) q ≡ cond (is_visible m q) (get m q) None
get-drop_hidden m q = get-retain m (is_visible m) q

pub record HasVisible (m : SpanMap) (a : Position) (size : Size) : Type 0 where
  pub had : get m a ≡ Some size
  pub shown : is_visible m a ≡ true

pub kept : (m : SpanMap) (a : Position) (size : Size) → get (drop_hidden m) a ≡ Some size → HasVisible m a size
kept m a size has = grind (arith, common_steps, cases_Bool, get-drop_hidden, at, none-some)

-- after hidden anchors are dropped a place has the size that it had, or that of one cell
pub kept_or_one : (m : SpanMap) (a : Position) → (size_at (drop_hidden m) a ≡ size_at m a) ⊎ (size_at (drop_hidden m) a ≡ sized 1 1)
kept_or_one m a = grind (arith, common_steps, cases_Bool, get-drop_hidden)
