-- Anchors that are marked where another holds them, from the last to the first, and what is left of them.
use Rattle.tabled_grid.proofs.Common.{[], ◌&&◌, ◌++◌, ◌+◌, ◌-◌, ◌<◌, ◌||◌, ◌∙◌, ◌∷◌, ◌≡◌, ◌≤◌, AllByRecursion, AreSorted, Bool, In, IsBefore, IsSpan, List, Position, Rectangle, T, and_right, ap, ap₂, arith, common_steps, cond, drop, drop_at, drop_more, dropped, false, false_from_ne_true, filter, get_or, get_or-take, get_or_append_left, holds, inl, inr, is_hidden_in, is_lt, length, length-take, lt-ltb, map, marked, nat_lt, not, position_cmp, rectangle, refl, same_place, sized, subst, suc, sym, take, true, unless_held, ℕ}
use Rattle.tabled_grid.proofs.SortedEntries.{Below, both, halves, less}
use Rattle.tabled_grid.proofs.SpanMaps.{same_place-self}
use Rattle.tabled_grid.proofs.Rectangles.{holds-true}
use Rattle.tabled_grid.proofs.Order.{before-less}
use Rattle.tabled_grid.proofs.PassedAnchors.{places_apart, sorted_drop}

-- a mark keeps the place
place_kept : (by e : Rectangle) → (unless_held by e).first ≡ e.first
place_kept by e = grind (arith, common_steps)

below_held : (x : Position) (by : Rectangle) (es : List Rectangle) → Below x es → Below x (map (unless_held by) es)
below_held x by [] h = tt
below_held x by (e ∷ es) h = both _ _ (subst (λ p. T (is_lt (position_cmp x p))) (sym (place_kept by e)) (halves _ _ h).0) (below_held x by es (halves _ _ h).1)

sorted_held : (by : Rectangle) (es : List Rectangle) → AreSorted es → AreSorted (map (unless_held by) es)
sorted_held by [] h = tt
sorted_held by (e ∷ es) h = both _ _ (subst (λ p. Below p (map (unless_held by) es)) (sym (place_kept by e)) (below_held e.first by es (halves _ _ h).0)) (sorted_held by es (halves _ _ h).1)

below_marked : (x : Position) (es : List Rectangle) → Below x es → Below x (marked es)
below_marked x [] h = tt
below_marked x (e ∷ es) h = both _ _ (halves _ _ h).0 (below_held x e (marked es) (below_marked x es (halves _ _ h).1))

sorted_marked : (es : List Rectangle) → AreSorted es → AreSorted (marked es)
sorted_marked [] h = tt
sorted_marked (e ∷ es) h = both _ _ (below_held e.first e (marked es) (below_marked e.first es (halves _ _ h).0)) (sorted_held e (marked es) (sorted_marked es (halves _ _ h).1))

-- the anchors before an index as they were, and the others marked
abbrev pub marked_from : List Rectangle → ℕ → List Rectangle
marked_from old i = take i old ++ marked (drop i old)

module _ (old : List Rectangle) (i : ℕ) (here : i < length old) where
  front : length (take (i + 1) old) ≡ i + 1
  front = omega (arith, length-take (i + 1) old)

  pub at_mark : (d : Rectangle) → get_or (marked_from old (i + 1)) i d ≡ get_or old i d
  at_mark d = get_or_append_left (take (i + 1) old) (marked (drop (i + 1) old)) d i (omega (arith, front)) ∙ get_or-take (i + 1) old i d (omega arith)

  pub sorted_mark : (d : Rectangle) → ((n : ℕ) → AreSorted (drop n old)) → AreSorted (get_or (marked_from old (i + 1)) i d ∷ drop (i + 1) (marked_from old (i + 1)))
  sorted_mark d up = grind (arith, common_steps, drop_more, both, below_marked, halves, sorted_marked, at_mark, drop_at, front)

-- the next anchor, and the marked ones behind it
pub sorted_next : (old xs : List Rectangle) (i : ℕ) (d : Rectangle) → xs ≡ marked_from old i → 0 < i → i ≤ length old → AreSorted old → AreSorted (get_or xs (i - 1) d ∷ drop (i - 1 + 1) xs)
sorted_next old xs i d is some within sorted =
    let back : i - 1 + 1 ≡ i = omega (arith, some) in
    let e : xs ≡ marked_from old (i - 1 + 1) = is ∙ ap (marked_from old) (sym back) in
    subst (λ ys. AreSorted (get_or ys (i - 1) d ∷ drop (i - 1 + 1) ys)) (sym e) (sorted_mark old (i - 1) (omega (arith, some, within)) d (λ n. sorted_drop n old sorted))

-- what has a size is left of the marked
abbrev pub has_size : Rectangle → Bool
has_size e = nat_lt 0 e.size.height

sized_held : (by : Rectangle) (es : List Rectangle) → filter has_size (map (unless_held by) es) ≡ filter (λ (e : Rectangle). not (holds by e.first)) (filter has_size es)
sized_held by [] = refl
sized_held by (e ∷ es) = tested (holds by e.first) refl (has_size e) refl (sized_held by es)
  where
    tested : (b : Bool) → holds by e.first ≡ b → (s : Bool) → has_size e ≡ s → filter has_size (map (unless_held by) es) ≡ filter (λ (f : Rectangle). not (holds by f.first)) (filter has_size es) → filter has_size (cond b (rectangle e.first (sized 0 0)) e ∷ map (unless_held by) es) ≡ filter (λ (f : Rectangle). not (holds by f.first)) (cond s (e ∷ filter has_size es) (filter has_size es))
    tested true is true has go = rw is go
    tested true is false has go = go
    tested false is true has go = rw (is, has) (ap (λ fs. e ∷ fs) go)
    tested false is false has go = rw has go

-- an anchor's rectangle and other tests, of anchors that come after it
hidden_later : (h : Position → Bool) (e : Rectangle) (fs : List Rectangle) → Below e.first fs → filter (λ (f : Rectangle). not ((holds e f.first && not (same_place e.first f.first)) || h f.first)) fs ≡ filter (λ (f : Rectangle). not (holds e f.first)) (filter (λ (f : Rectangle). not (h f.first)) fs)
hidden_later h e [] below = refl
hidden_later h e (f ∷ fs) below = tested (holds e f.first) refl (h f.first) refl (places_apart e.first f.first (less _ (halves _ _ below).0)).0 (hidden_later h e fs (halves _ _ below).1)
  where
    rest : List Rectangle → List Rectangle
    rest gs = filter (λ (g : Rectangle). not ((holds e g.first && not (same_place e.first g.first)) || h g.first)) gs

    tested : (b : Bool) → holds e f.first ≡ b → (s : Bool) → h f.first ≡ s → same_place e.first f.first ≡ false → filter (λ (g : Rectangle). not ((holds e g.first && not (same_place e.first g.first)) || h g.first)) fs ≡ filter (λ (g : Rectangle). not (holds e g.first)) (filter (λ (g : Rectangle). not (h g.first)) fs) →
        cond (not ((b && not (same_place e.first f.first)) || s)) (f ∷ filter (λ (g : Rectangle). not ((holds e g.first && not (same_place e.first g.first)) || h g.first)) fs) (filter (λ (g : Rectangle). not ((holds e g.first && not (same_place e.first g.first)) || h g.first)) fs) ≡ filter (λ (g : Rectangle). not (holds e g.first)) (cond (not s) (f ∷ filter (λ (g : Rectangle). not (h g.first)) fs) (filter (λ (g : Rectangle). not (h g.first)) fs))
    tested true is true hid same go = rw same go
    tested true is false hid same go = rw (same, is) go
    tested false is true hid same go = go
    tested false is false hid same go = rw is (ap (λ gs. f ∷ gs) go)

-- nothing that comes later holds a place
none_later : (p : Position) (es : List Rectangle) → Below p es → is_hidden_in es p ≡ false
none_later p [] below = refl
none_later p (e ∷ es) below = ap (λ b. (b && not (same_place e.first p)) || is_hidden_in es p) (out (before-less p e.first (less _ (halves _ _ below).0))) ∙ none_later p es (halves _ _ below).1
  where
    not_in : IsBefore p e.first → In e p → ⊥
    not_in (inl l) h = omega (arith, h.top)
    not_in (inr l) h = omega (arith, h.left)

    out : IsBefore p e.first → holds e p ≡ false
    out l = false_from_ne_true _ (λ t. not_in l (holds-true e p t))

pub sized_marked : (es : List Rectangle) → AreSorted es → AllByRecursion (λ (e : Rectangle). IsSpan e.size) es → filter has_size (marked es) ≡ dropped es
sized_marked [] up sizes = refl
sized_marked (e ∷ es) up sizes =
    let rest = sized_marked es (halves _ _ up).1 sizes.1 in
    rw (lt-ltb 0 e.size.height (omega (arith, sizes.0.height)), sized_held e (marked es), rest)
    (ap (λ fs. e ∷ fs) (sym (hidden_later (is_hidden_in es) e es (halves _ _ up).0)) ∙ sym shown)
  where
    self : (holds e e.first && not (same_place e.first e.first)) ≡ false
    self = rw (same_place-self e.first) (and_right (holds e e.first) false refl)

    shown : dropped (e ∷ es) ≡ e ∷ filter (λ (f : Rectangle). not (is_hidden_in (e ∷ es) f.first)) es
    shown = ap (λ b. cond (not b) (e ∷ filter (λ (f : Rectangle). not (is_hidden_in (e ∷ es) f.first)) es) (filter (λ (f : Rectangle). not (is_hidden_in (e ∷ es) f.first)) es)) (ap₂ (λ a b. a || b) self (none_later e.first es (halves _ _ up).0))

length_held : (by : Rectangle) (es : List Rectangle) → length (map (unless_held by) es) ≡ length es
length_held by [] = refl
length_held by (e ∷ es) = ap suc (length_held by es)

pub length_marked : (es : List Rectangle) → length (marked es) ≡ length es
length_marked [] = refl
length_marked (e ∷ es) = ap suc (length_held e (marked es) ∙ length_marked es)
