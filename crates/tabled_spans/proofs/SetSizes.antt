-- What a map has after sizes are set at once, and after one more of them.
use Rattle.tabled_grid.proofs.SpanMaps.{one_cell}
use Rattle.tabled_grid.specs.Spans as spans
use Rattle.tabled_spans.proofs.Common.{[], ◌∙◌, ◌∷◌, ◌≡◌, ◌≤◌, AllByRecursion, AreSorted, Axis, Below, Bool, HasArea, List, None, Option, Position, Rectangle, Size, Some, SpanMap, T, ap, ap₂, cases_Bool, cases_place, cond, eq_by_cmp, equal, false, find, find-put, find_at, get, get-insert, get-remove, halves, if◌then◌else◌, inl, inr, is_eq, is_sorted, is_sorted-put, is_span, none-some, none_below, pairs, position_cmp, positions_exact, positions_total, put, rectangle, refl, resized, same_Some, same_map, size_at, size_at-none, size_at-some, sized, span-true, subst, sym, tied, true, untied, unwrap_or, with_size, with_sizes, with_span, ℕ}
use Rattle.tabled_spans.proofs.SpanChanges.{span-is}

-- what a map has at a place, after a size is set there, or none
abbrev pub set_or : Option Size → Option Size → Option Size
set_or None old = old
set_or (Some size) old = if is_span size then Some size else None

get-with_size : (m : SpanMap) (p : Position) (size : Size) (q : Position) → get (with_size m p size) q ≡ set_or (cond (eq_by_cmp position_cmp q p) (Some size) None) (get m q)
get-with_size m p size q = elim (cases_Bool (is_span size)) [
  | inl t ↦
      ap (λ b. get (if b then spans.insert m p size else spans.remove m p) q) t
      ∙ get-insert m p size q (span-true size t)
      ∙ (elim (eq_by_cmp position_cmp q p) as (λ b. cond b (Some size) (get m q) ≡ set_or (cond b (Some size) None) (get m q)) [ true ↦ sym (ap (λ (b : Bool). if b then Some size else None) t) | false ↦ refl ])
  | inr f ↦
      ap (λ b. get (if b then spans.insert m p size else spans.remove m p) q) f
      ∙ get-remove m p q
      ∙ (elim (eq_by_cmp position_cmp q p) as (λ b. cond b None (get m q) ≡ set_or (cond b (Some size) None) (get m q)) [ true ↦ sym (ap (λ (b : Bool). if b then Some size else None) f) | false ↦ refl ])
]

-- what a map has after sizes are set at once
pub get-with_sizes : (es : List Rectangle) (m : SpanMap) (q : Position) → AreSorted es → get (with_sizes m es) q ≡ set_or (find_at q es) (get m q)
get-with_sizes [] m q up = refl
get-with_sizes (e ∷ es) m q up =
    get-with_sizes es (with_size m e.first e.size) q (halves _ _ up).1
    ∙ ap (set_or (find_at q es)) (get-with_size m e.first e.size q)
    ∙ (elim (eq_by_cmp position_cmp q e.first) as (λ b. eq_by_cmp position_cmp q e.first ≡ b → set_or (find_at q es) (set_or (cond b (Some e.size) None) (get m q)) ≡ set_or (cond b (Some e.size) (find_at q es)) (get m q)) [
      | true ↦ λ t. ap (λ (o : Option Size). set_or o (set_or (Some e.size) (get m q))) (none_below q es (subst (λ (x : Position). Below x es) (sym (positions_exact q e.first (equal _ t))) (halves _ _ up).0))
      | false ↦ λ f. refl
    ]) refl

pub sorted-put : (es new : List Rectangle) (a : Position) (size : Size) → AreSorted es → pairs new ≡ put position_cmp a size (pairs es) → AreSorted new
sorted-put es new a size up is = subst (λ ps. T (is_sorted position_cmp ps)) (sym is) (is_sorted-put position_cmp positions_total a size (pairs es) up)

-- one size more
pub with_sizes-put : (m : SpanMap) (es new : List Rectangle) (a : Position) (size : Size) → AreSorted es → pairs new ≡ put position_cmp a size (pairs es) → with_sizes m new ≡ with_size (with_sizes m es) a size
with_sizes-put m es new a size up is = same_map _ _ (λ q.
    get-with_sizes new m q (sorted-put es new a size up is)
    ∙ ap (λ (o : Option Size). set_or o (get m q)) (ap (find position_cmp q) is ∙ find-put position_cmp positions_total q a size (pairs es))
    ∙ (elim (eq_by_cmp position_cmp q a) as (λ b. set_or (cond b (Some size) (find_at q es)) (get m q) ≡ set_or (cond b (Some size) None) (set_or (find_at q es) (get m q))) [ true ↦ refl | false ↦ refl ])
    ∙ ap (set_or (cond (eq_by_cmp position_cmp q a) (Some size) None)) (sym (get-with_sizes es m q up))
    ∙ sym (get-with_size (with_sizes m es) a size q))

-- what holds of all that is listed holds of what is found
pub found_in : (P : Rectangle → Type 0) (es : List Rectangle) → AllByRecursion P es → (p : Position) (s : Size) → find_at p es ≡ Some s → P (rectangle p s)
found_in P [] all p s is = absurd (none-some s is)
found_in P (e ∷ es) all p s is = elim (cases_place p e.first) [
  | inl same ↦
      let here = subst (λ x. is_eq (position_cmp p x) ≡ true) same (tied p) in
      let size = same_Some e.size s (sym (ap (λ b. cond b (Some e.size) (find_at p es)) here) ∙ is) in
      subst P (ap₂ rectangle (sym same) size) all.0
  | inr other ↦ found_in P es all.1 p s (sym (ap (λ b. cond b (Some e.size) (find_at p es)) (untied p e.first other)) ∙ is)
]

-- the size at a place, among those that are set
pub size-set : (m : SpanMap) (es : List Rectangle) (a : Position) (size : Size) → AreSorted es → AllByRecursion HasArea es → find_at a es ≡ Some size → size_at (with_sizes m es) a ≡ size
size-set m es a size up full found =
    let has = get-with_sizes es m a up ∙ ap (λ (o : Option Size). set_or o (get m a)) found in
    let least = found_in HasArea es full a size found in
    elim (cases_Bool (is_span size)) [
      | inl t ↦ size_at-some (with_sizes m es) a size (has ∙ ap (λ (b : Bool). if b then Some size else None) t)
      | inr f ↦ size_at-none (with_sizes m es) a (has ∙ ap (λ (b : Bool). if b then Some size else None) f) ∙ sym (one_cell size least.height least.width f)
    ]

pub size-unset : (m : SpanMap) (es : List Rectangle) (a : Position) → AreSorted es → find_at a es ≡ None → size_at (with_sizes m es) a ≡ size_at m a
size-unset m es a up missed = ap (λ (o : Option Size). unwrap_or o (sized 1 1)) (get-with_sizes es m a up ∙ ap (λ (o : Option Size). set_or o (get m a)) missed)

-- so a span after those that are set is one size more
pub span-put : (m : SpanMap) (es new : List Rectangle) (axis : Axis) (a : Position) (size : Size) (many : ℕ) → 1 ≤ many → AreSorted es → size_at (with_sizes m es) a ≡ size → pairs new ≡ put position_cmp a (resized axis size many) (pairs es) → with_sizes m new ≡ with_span axis (with_sizes m es) a many
span-put m es new axis a size many some up has is =
    with_sizes-put m es new a (resized axis size many) up is
    ∙ ap (λ s. with_size (with_sizes m es) a (resized axis s many)) (sym has)
    ∙ sym (span-is axis (with_sizes m es) a many some)
