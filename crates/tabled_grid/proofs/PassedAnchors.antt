-- Going through sorted anchors from one on, and stopping once they are past its rectangle.
use Rattle.tabled_grid.proofs.Common.{[], ◌&&◌, ◌++◌, ◌+◌, ◌-◌, ◌<◌, ◌∙◌, ◌∷◌, ◌≡◌, ◌≤◌, ◌⊎◌, AreSorted, Bool, IsBefore, Less, List, Position, Rectangle, and_from, and_parts, ap, ap₂, arith, common_steps, cond, drop, drop-drop, drop-set-lt, drop_more, drop_more_same, false, false_from_ne_true, get_or, get_or-drop, get_or_default, holds, is_past, length, length-drop, list_all, map, map-append, map_more, meets, not, or_cases, position_cmp, rectangle, refl, same_place, set, sized, subst, suc, sym, take, take-add, take-append-drop, take_all, take_more, take_more_set, true, unless_held, zero, ℕ}
use Rattle.tabled_grid.proofs.Order.{before-less, before_other}
use Rattle.std.proofs.Common.{append_assoc}
use Rattle.tabled_grid.proofs.SortedEntries.{halves, less}
use Rattle.tabled_grid.proofs.SpanMaps.{same_place-apart}
use Rattle.tabled_grid.proofs.Rectangles.{holds-true, meets-true}

pub places_apart : (p q : Position) → position_cmp p q ≡ Less → (same_place p q ≡ false) × (same_place q p ≡ false)
places_apart p q h = (same_place-apart p q (before_other p q (before-less p q h)), same_place-apart q p (λ same. before_other p q (before-less p q h) (sym same)))

-- what the test says
pub record IsPast (a : Rectangle) (p : Position) : Type 0 where
  pub after : a.first.row ≤ p.row
  pub below : (a.first.row + a.size.height ≤ p.row) ⊎ ((a.first.row + a.size.height ≡ p.row + 1) × (a.first.col + a.size.width ≤ p.col))

pub past-true : (a : Rectangle) (p : Position) → is_past a p ≡ true → IsPast a p
past-true a p t = grind (arith, common_steps, and_parts, or_cases)

-- past a rectangle, and so is what comes later
pub past_later : (a : Rectangle) (p q : Position) → IsPast a p → IsBefore p q → IsPast a q
past_later a p q past later = grind (arith, common_steps)

pub past_out : (a : Rectangle) (p : Position) → IsPast a p → holds a p ≡ false
past_out a p past = grind (arith, common_steps, false_from_ne_true, holds-true)

pub past_apart : (a b : Rectangle) → IsPast a b.first → meets a b ≡ false
past_apart a b past = grind (arith, common_steps, false_from_ne_true, meets-true)

-- a list in order whose first is past an anchor's rectangle
past_first : (a e f : Rectangle) (es : List Rectangle) → AreSorted (e ∷ f ∷ es) → IsPast a e.first → IsPast a f.first
past_first a e f es up past = past_later a e.first f.first past (before-less e.first f.first (less _ (halves _ _ (halves _ _ up).0).0))

pub none_held : (a e : Rectangle) (es : List Rectangle) → AreSorted (e ∷ es) → IsPast a e.first → map (unless_held a) (e ∷ es) ≡ e ∷ es
none_held a e [] up past = ap (λ b. cond b (rectangle e.first (sized 0 0)) e ∷ []) (past_out a e.first past)
none_held a e (f ∷ es) up past = ap₂ (λ x xs. x ∷ xs) (ap (λ b. cond b (rectangle e.first (sized 0 0)) e) (past_out a e.first past)) (none_held a f es (halves _ _ up).1 (past_first a e f es up past))

pub none_meets : (a e : Rectangle) (es : List Rectangle) → AreSorted (e ∷ es) → IsPast a e.first → list_all (λ (f : Rectangle). not (meets a f)) (e ∷ es) ≡ true
none_meets a e [] up past = and_from _ _ (ap not (past_apart a e past)) refl
none_meets a e (f ∷ es) up past = and_from _ _ (ap not (past_apart a e past)) (none_meets a f es (halves _ _ up).1 (past_first a e f es up past))

-- what is left of a list in order is in order
pub sorted_drop : (n : ℕ) (es : List Rectangle) → AreSorted es → AreSorted (drop n es)
sorted_drop zero es up = up
sorted_drop (suc n) [] up = tt
sorted_drop (suc n) (e ∷ es) up = sorted_drop n es (halves _ _ up).1

module _ {A : Type 0} (f : A → A) (old : List A) (first : ℕ) where
  -- from index first to k the members were changed, and from there on they are as they were
  pub record ChangedTo (new : List A) (k : ℕ) : Type 0 where
    pub done : take k new ≡ take first old ++ map f (take (k - first) (drop first old))
    pub left : drop k new ≡ drop k old

  -- the rest of the members from first on
  rest_is : (k : ℕ) → first ≤ k → drop (k - first) (drop first old) ≡ drop k old
  rest_is k low = grind (arith, common_steps, drop-drop)

  pub changed_more : (new newer : List A) (k : ℕ) (e : A) → first ≤ k → k < length old → get_or old k e ≡ e → ChangedTo new k → take (k + 1) newer ≡ take k new ++ f e ∷ [] → drop (k + 1) newer ≡ drop (k + 1) old → ChangedTo newer (k + 1)
  changed_more new newer k e low here is changed taken left =
      let within : k - first < length (drop first old) = omega (arith, length-drop first old) in
      let one : (k + 1) - first ≡ (k - first) + 1 = omega arith in
      let at : first + (k - first) ≡ k = omega arith in
      let item : get_or (drop first old) (k - first) e ≡ e = get_or-drop first old (k - first) e ∙ ap (λ n. get_or old n e) at ∙ is in
      record {
        done = taken ∙ ap (λ xs. xs ++ f e ∷ []) changed.done ∙ append_assoc (take first old) _ _ ∙ ap (λ xs. take first old ++ xs) (ap (λ x. map f (take (k - first) (drop first old)) ++ f x ∷ []) (sym item) ∙ sym (map_more f (drop first old) (k - first) e within) ∙ ap (λ n. map f (take n (drop first old))) (sym one));
        left = left;
      }

  -- n more are passed over that the change would leave as they are
  pub changed_over : (new : List A) (k n : ℕ) → first ≤ k → ChangedTo new k → map f (take n (drop k old)) ≡ take n (drop k old) → ChangedTo new (k + n)
  changed_over new k n low changed same =
      let more : (k + n) - first ≡ (k - first) + n = omega arith in
      record {
        done = take-add k n new ∙ ap₂ (λ xs ys. xs ++ ys) changed.done (ap (take n) changed.left ∙ sym same ∙ ap (λ xs. map f (take n xs)) (sym (rest_is k low)))
            ∙ append_assoc (take first old) _ _ ∙ ap (λ xs. take first old ++ xs) (sym (map-append f (take (k - first) (drop first old)) (take n (drop (k - first) (drop first old)))) ∙ ap (map f) (sym (take-add (k - first) n (drop first old)) ∙ ap (λ m. take m (drop first old)) (sym more)));
        left = sym (drop-drop n k new) ∙ ap (drop n) changed.left ∙ drop-drop n k old;
      }

  -- once the change would leave the rest as it is, all is done
  pub changed_all : (new : List A) (k : ℕ) → first ≤ k → ChangedTo new k → map f (drop k old) ≡ drop k old → new ≡ take first old ++ map f (drop first old)
  changed_all new k low changed same =
      sym (take-append-drop k new) ∙ ap₂ (λ xs ys. xs ++ ys) changed.done (changed.left ∙ sym same ∙ ap (map f) (sym (rest_is k low)))
      ∙ append_assoc (take first old) _ _ ∙ ap (λ xs. take first old ++ xs) (sym (map-append f (take (k - first) (drop first old)) (drop (k - first) (drop first old))) ∙ ap (map f) (take-append-drop (k - first) (drop first old)))

-- a member of the rest that is as it was
left_item : {A : Type 0} (old new : List A) (k : ℕ) (d : A) → drop k new ≡ drop k old → get_or old k d ≡ get_or new k d
left_item old new k d left = grind (arith, common_steps, get_or-drop)

module _ (by : Rectangle) (old new : List Rectangle) (first k : ℕ) (d : Rectangle) (low : first ≤ k) (here : k < length new) (same : length new ≡ length old) (changed : ChangedTo (unless_held by) old first new k) where
  is_item : get_or old k (get_or new k d) ≡ get_or new k d
  is_item = left_item old new k (get_or new k d) changed.left ∙ get_or_default new k (get_or new k d) d here

  pub hidden_held : holds by (get_or new k d).first ≡ true → ChangedTo (unless_held by) old first (set new k (rectangle (get_or new k d).first (sized 0 0))) (k + 1)
  hidden_held held = grind (arith, common_steps, changed_more, is_item, take_more_set, drop-set-lt, drop_more_same)

  pub hidden_other : holds by (get_or new k d).first ≡ false → ChangedTo (unless_held by) old first new (k + 1)
  hidden_other out = grind (arith, common_steps, changed_more, is_item, take_more, drop_more_same)

  -- the anchors after it, as a slice of those that are gone through
  after_is : take (length new - (k + 1)) (drop (k + 1) new) ≡ drop (k + 1) new
  after_is = take_all (length new - (k + 1)) (drop (k + 1) new) (omega (arith, length-drop (k + 1) new))

  pub sorted_after : AreSorted (by ∷ drop first old) → AreSorted (get_or new k d ∷ take (length new - (k + 1)) (drop (k + 1) new))
  sorted_after up =
      let within : k < length old = omega arith in
      let e = get_or new k d in
      let rest : drop k old ≡ e ∷ drop (k + 1) old = drop_more old k e within ∙ ap (λ x. x ∷ drop (k + 1) old) is_item in
      let at : first + (k - first) ≡ k = omega arith in
      let sorted = sorted_drop (k - first) (drop first old) (halves _ _ up).1 in
      subst AreSorted (drop-drop (k - first) first old ∙ ap (λ n. drop n old) at ∙ rest ∙ ap (λ xs. e ∷ xs) (sym (drop_more_same new old k changed.left) ∙ sym after_is)) sorted

  pub hidden_over : (n : ℕ) → holds by (get_or new k d).first ≡ false → map (unless_held by) (take n (take (length new - (k + 1)) (drop (k + 1) new))) ≡ take n (take (length new - (k + 1)) (drop (k + 1) new)) → ChangedTo (unless_held by) old first new (k + (1 + n))
  hidden_over n out free =
      let same_rest : take (length new - (k + 1)) (drop (k + 1) new) ≡ drop (k + 1) old = after_is ∙ drop_more_same new old k changed.left in
      let all : (k + 1) + n ≡ k + (1 + n) = omega arith in
      subst (λ m. ChangedTo (unless_held by) old first new m) all
      (changed_over (unless_held by) old first new (k + 1) n (omega arith) (hidden_other out) (subst (λ xs. map (unless_held by) (take n xs) ≡ take n xs) same_rest free))

  pub hidden_past : AreSorted (by ∷ drop first old) → is_past by (get_or new k d).first ≡ true → new ≡ take first old ++ map (unless_held by) (drop first old)
  hidden_past up past =
      let within : k < length old = omega arith in
      let e = get_or new k d in
      let rest : drop k old ≡ e ∷ drop (k + 1) old = drop_more old k e within ∙ ap (λ x. x ∷ drop (k + 1) old) is_item in
      let sorted = sorted_drop (k - first) (drop first old) (halves _ _ up).1 in
      let at : first + (k - first) ≡ k = omega arith in
      let up_here = subst AreSorted (drop-drop (k - first) first old ∙ ap (λ n. drop n old) at ∙ rest) sorted in
      changed_all (unless_held by) old first new k low changed (ap (map (unless_held by)) rest ∙ none_held by e (drop (k + 1) old) up_here (past-true by e.first past) ∙ sym rest)

-- none of the rest meets once one is past
pub apart_past : (a : Rectangle) (es : List Rectangle) (first k : ℕ) (d : Rectangle) → first ≤ k → k < length es → AreSorted (a ∷ drop first es) → is_past a (get_or es k d).first ≡ true → list_all (λ (e : Rectangle). not (meets a e)) (drop k es) ≡ true
apart_past a es first k d low here up past =
    let e = get_or es k d in
    let sorted = sorted_drop (k - first) (drop first es) (halves _ _ up).1 in
    let at : first + (k - first) ≡ k = omega arith in
    let rest = drop_more es k d here in
    let up_here = subst AreSorted (drop-drop (k - first) first es ∙ ap (λ n. drop n es) at ∙ rest) sorted in
    ap (list_all (λ (f : Rectangle). not (meets a f))) rest ∙ none_meets a e (drop (k + 1) es) up_here (past-true a e.first past)

-- the anchors after one, as a slice of those that are gone through
pub all_after : (es : List Rectangle) (k : ℕ) → take (length es - (k + 1)) (drop (k + 1) es) ≡ drop (k + 1) es
all_after es k = take_all (length es - (k + 1)) (drop (k + 1) es) (omega (arith, length-drop (k + 1) es))

pub apart_sorted : (a : Rectangle) (es : List Rectangle) (first k : ℕ) (d : Rectangle) → first ≤ k → k < length es → AreSorted (a ∷ drop first es) → AreSorted (get_or es k d ∷ take (length es - (k + 1)) (drop (k + 1) es))
apart_sorted a es first k d low here up =
    let at : first + (k - first) ≡ k = omega arith in
    subst AreSorted (drop-drop (k - first) first es ∙ ap (λ n. drop n es) at ∙ drop_more es k d here ∙ ap (λ fs. get_or es k d ∷ fs) (sym (all_after es k))) (sorted_drop (k - first) (drop first es) (halves _ _ up).1)

-- the first n pass, so all do just where the others do
passed : (test : Rectangle → Bool) (n : ℕ) (es : List Rectangle) → list_all test (take n es) ≡ true → list_all test (drop n es) ≡ list_all test es
passed test zero es h = refl
passed test (suc n) [] h = refl
passed test (suc n) (e ∷ es) h =
    let parts = and_parts (test e) (list_all test (take n es)) h in
    passed test n es parts.1 ∙ sym (ap (λ b. b && list_all test es) parts.0)

pub apart_over : (a : Rectangle) (es : List Rectangle) (k n : ℕ) (d : Rectangle) (all : Bool) → k < length es → meets a (get_or es k d) ≡ false → list_all (λ (e : Rectangle). not (meets a e)) (take n (take (length es - (k + 1)) (drop (k + 1) es))) ≡ true → list_all (λ (e : Rectangle). not (meets a e)) (drop k es) ≡ all → list_all (λ (e : Rectangle). not (meets a e)) (drop (k + (1 + n)) es) ≡ all
apart_over a es k n d all here out free so =
    let sum : (k + 1) + n ≡ k + (1 + n) = omega arith in
    ap (λ m. list_all (λ (e : Rectangle). not (meets a e)) (drop m es)) (sym sum)
    ∙ ap (list_all (λ (e : Rectangle). not (meets a e))) (sym (drop-drop n (k + 1) es))
    ∙ passed (λ (e : Rectangle). not (meets a e)) n (drop (k + 1) es) (ap (λ fs. list_all (λ (e : Rectangle). not (meets a e)) (take n fs)) (sym (all_after es k)) ∙ free)
    ∙ sym (ap (list_all (λ (e : Rectangle). not (meets a e))) (drop_more es k d here) ∙ ap (λ b. not b && list_all (λ (e : Rectangle). not (meets a e)) (drop (k + 1) es)) out)
    ∙ so
