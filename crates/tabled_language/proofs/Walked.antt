-- A walk over rectangles row by row.
use Rattle.tabled_language.proofs.Common.{[], ◌++◌, ◌+◌, ◌<◌, ◌∙◌, ◌∷◌, ◌≡◌, ◌≤◌, ◌⊎◌, AreBeside, AreKeyed, BTreeMap, Bool, EndsAbove, IsBeside, IsClear, DropsEnded, IsMet, List, Meets, Rectangle, RowsRise, and_from, and_right, ap, arith, cond, drop, false, false_from_ne_true, get, get_or, get_or_default, fits_among, inl, inr, is_eq, length, all_fit, lies_inside, meets, meets-from, meets-true, nat_cmp, nat_tests, not_from_false, refl, same_Some, subst, sym, take, take-append-drop, take_more, true, true≢false, ℕ}
use Rattle.std.specs.Prelude.{Some, not}
use Rattle.tabled_grid.proofs.Members.{Member, all-from, all-member, member-either, member-left, member-right}
use Rattle.tabled_language.proofs.PlacedAnchors.{fit-left, fit-push}
use Rattle.tabled_grid.proofs.FittingAnchors.{unmet}

-- of the rectangles gone through those are noted that may reach a row or a later one
pub record IsWalked (done : List Rectangle) (m : BTreeMap ℕ Rectangle) (row : ℕ) : Type 0 where
  pub noted : (f : Rectangle) → Member f done → EndsAbove row f ⊎ (get nat_cmp m f.first.col ≡ Some f)
  pub keyed : AreKeyed m
  pub begun : (q : ℕ) (f : Rectangle) → get nat_cmp m q ≡ Some f → (f.first.row ≤ row) × (1 ≤ f.size.width)
  pub beside : AreBeside row m
  pub among : (q : ℕ) (f : Rectangle) → get nat_cmp m q ≡ Some f → Member f done

-- what may reach a later row
pub walked-later : (done : List Rectangle) (m : BTreeMap ℕ Rectangle) (row later : ℕ) → row ≤ later → IsWalked done m row → IsWalked done m later
walked-later done m row later le h = record {
  noted = λ f member. reaches_later f (h.noted f member);
  keyed = h.keyed;
  begun = λ q f is. (let b = h.begun q f is in (omega (arith, le, b.0), b.1));
  beside = λ q r f g is other below reach reach_too. h.beside q r f g is other below (omega (arith, le, reach)) (omega (arith, le, reach_too));
  among = h.among;
}
  where
    reaches_later : (f : Rectangle) → EndsAbove row f ⊎ (get nat_cmp m f.first.col ≡ Some f) → EndsAbove later f ⊎ (get nat_cmp m f.first.col ≡ Some f)
    reaches_later f (inl above) = inl (omega (arith, le, above))
    reaches_later f (inr is) = inr is

apart_from : (e f : Rectangle) → EndsAbove e.first.row f ⊎ IsBeside e f → meets e f ≡ false
apart_from e f h = false_from_ne_true _ (λ t. not_met (meets-true e f t) h)
  where
    not_met : Meets e f → EndsAbove e.first.row f ⊎ IsBeside e f → ⊥
    not_met m (inl above) = omega (arith, m.above, above)
    not_met m (inr (inl left)) = omega (arith, m.left, left)
    not_met m (inr (inr right)) = omega (arith, m.right, right)

-- then the anchor has a place
pub clear_place : (rows columns : ℕ) (done : List Rectangle) (m : BTreeMap ℕ Rectangle) (e : Rectangle) → IsWalked done m e.first.row → IsClear m e → lies_inside rows columns e ≡ true → fits_among rows columns done e ≡ true
clear_place rows columns done m e h clear inside = and_from _ _ inside (all-from (λ (f : Rectangle). not (meets e f)) done (λ f member. not_from_false _ (apart_from e f (above_or_beside f (h.noted f member)))))
  where
    above_or_beside : (f : Rectangle) → EndsAbove e.first.row f ⊎ (get nat_cmp m f.first.col ≡ Some f) → EndsAbove e.first.row f ⊎ IsBeside e f
    above_or_beside f (inl above) = inl above
    above_or_beside f (inr is) = clear f.first.col f is

-- or it has none
pub met_place : (rows columns : ℕ) (done : List Rectangle) (m : BTreeMap ℕ Rectangle) (e : Rectangle) → IsWalked done m e.first.row → 1 ≤ e.size.height → IsMet m e → fits_among rows columns done e ≡ false
met_place rows columns done m e h high (q, f, is, reach, right, left) =
    let met : meets e f ≡ true = meets-from e f (record { above = reach; below = omega (arith, (h.begun q f is).0, high); left = left; right = right }) in
    and_right _ _ (false_from_ne_true _ (λ apart. unmet e f (all-member (λ (g : Rectangle). not (meets e g)) f done apart (h.among q f is)) met))

-- the map of those that may reach a row, with the anchor put in
module _ (done : List Rectangle) (m cleared new : BTreeMap ℕ Rectangle) (e : Rectangle) (h : IsWalked done m e.first.row) (wide : 1 ≤ e.size.width) (clear : IsClear m e) (drops : DropsEnded e.first.row m cleared) (put : (q : ℕ) → get nat_cmp new q ≡ cond (is_eq (nat_cmp e.first.col q)) (Some e) (get nat_cmp cleared q)) where
  -- the anchor itself, or one from before
  Old : ℕ → Rectangle → Type 0
  Old q f = ((q ≡ e.first.col) × (f ≡ e)) ⊎ (get nat_cmp m q ≡ Some f)

  old : (q : ℕ) (f : Rectangle) → get nat_cmp new q ≡ Some f → Old q f
  unfolding Old
  old q f is = put_or_old (is_eq (nat_cmp e.first.col q)) refl
    where
      put_or_old : (b : Bool) → is_eq (nat_cmp e.first.col q) ≡ b → ((q ≡ e.first.col) × (f ≡ e)) ⊎ (get nat_cmp m q ≡ Some f)
      put_or_old true t = inl (grind (arith, nat_tests), same_Some f e (sym is ∙ put q ∙ ap (λ b. cond b (Some e) (get nat_cmp cleared q)) t))
      put_or_old false t = inr (drops.had q f (sym (ap (λ b. cond b (Some e) (get nat_cmp cleared q)) t) ∙ sym (put q) ∙ is))

  here : get nat_cmp new e.first.col ≡ Some e
  here = (let t : is_eq (nat_cmp e.first.col e.first.col) ≡ true = grind (arith, nat_tests) in put e.first.col ∙ ap (λ b. cond b (Some e) (get nat_cmp cleared e.first.col)) t)

  stays : (f : Rectangle) → EndsAbove e.first.row f ⊎ (get nat_cmp m f.first.col ≡ Some f) → EndsAbove e.first.row f ⊎ (get nat_cmp new f.first.col ≡ Some f)
  stays f (inl above) = inl above
  stays f (inr is) = unless_dropped (drops.stays f.first.col f is) (is_eq (nat_cmp e.first.col f.first.col)) refl
    where
      beside : e.first.col ≡ f.first.col → EndsAbove e.first.row f ⊎ IsBeside e f → EndsAbove e.first.row f ⊎ (get nat_cmp new f.first.col ≡ Some f)
      beside same (inl above) = inl above
      beside same (inr (inl left)) = absurd (omega (arith, left, same, (h.begun f.first.col f is).1))
      beside same (inr (inr right)) = absurd (omega (arith, right, same, wide))

      unless_dropped : EndsAbove e.first.row f ⊎ (get nat_cmp cleared f.first.col ≡ Some f) → (b : Bool) → is_eq (nat_cmp e.first.col f.first.col) ≡ b → EndsAbove e.first.row f ⊎ (get nat_cmp new f.first.col ≡ Some f)
      unless_dropped (inl above) b t = inl above
      unless_dropped (inr still) true t = beside (grind (arith, nat_tests)) (clear f.first.col f is)
      unless_dropped (inr still) false t = inr (put f.first.col ∙ ap (λ b. cond b (Some e) (get nat_cmp cleared f.first.col)) t ∙ still)

  all_stay : (f : Rectangle) → Member f done ⊎ Member f (e ∷ []) → EndsAbove e.first.row f ⊎ (get nat_cmp new f.first.col ≡ Some f)
  all_stay f (inl before) = stays f (h.noted f before)
  all_stay f (inr (inl is)) = inr (subst (λ (a : Rectangle). get nat_cmp new a.first.col ≡ Some a) (sym is) here)
  all_stay f (inr (inr none)) = absurd none

  keyed : (q : ℕ) (f : Rectangle) → Old q f → f.first.col ≡ q
  unfolding Old
  keyed q f (inl (at, is)) = ap (λ (a : Rectangle). a.first.col) is ∙ sym at
  keyed q f (inr is) = h.keyed q f is

  begun : (q : ℕ) (f : Rectangle) → Old q f → (f.first.row ≤ e.first.row) × (1 ≤ f.size.width)
  unfolding Old
  begun q f (inl (at, is)) = subst (λ (a : Rectangle). (a.first.row ≤ e.first.row) × (1 ≤ a.size.width)) (sym is) (omega arith, wide)
  begun q f (inr is) = h.begun q f is

  beside : (q r : ℕ) (f g : Rectangle) → Old q f → Old r g → q < r → e.first.row < f.first.row + f.size.height → e.first.row < g.first.row + g.size.height → f.first.col + f.size.width ≤ r
  unfolding Old
  beside q r f g (inl (at, is)) (inl (at_too, is_too)) below reach reach_too = absurd (omega (arith, at, at_too, below))
  beside q r f g (inl (at, is)) (inr other) below reach reach_too = subst (λ (a : Rectangle). a.first.col + a.size.width ≤ r) (sym is) (ends_before (clear r g other))
    where
      ends_before : EndsAbove e.first.row g ⊎ IsBeside e g → e.first.col + e.size.width ≤ r
      ends_before (inl above) = absurd (omega (arith, above, reach_too))
      ends_before (inr (inl left)) = absurd (omega (arith, left, h.keyed r g other, at, below))
      ends_before (inr (inr right)) = omega (arith, right, h.keyed r g other)
  beside q r f g (inr one) (inl (at, is)) below reach reach_too = ends_before (clear q f one)
    where
      ends_before : EndsAbove e.first.row f ⊎ IsBeside e f → f.first.col + f.size.width ≤ r
      ends_before (inl above) = absurd (omega (arith, above, reach))
      ends_before (inr (inl left)) = omega (arith, left, at)
      ends_before (inr (inr right)) = absurd (omega (arith, right, h.keyed q f one, at, below))
  beside q r f g (inr one) (inr other) below reach reach_too = h.beside q r f g one other below reach reach_too

  among : (q : ℕ) (f : Rectangle) → Old q f → Member f (done ++ e ∷ [])
  unfolding Old
  among q f (inl (at, is)) = member-right f done (e ∷ []) (inl is)
  among q f (inr is) = member-left f done (e ∷ []) (h.among q f is)

  pub walked-more : IsWalked (done ++ e ∷ []) new e.first.row
  walked-more = record {
    noted = λ f member. all_stay f (member-either f done (e ∷ []) member);
    keyed = λ q f is. keyed q f (old q f is);
    begun = λ q f is. begun q f (old q f is);
    beside = λ q r f g is other below reach reach_too. beside q r f g (old q f is) (old r g other) below reach reach_too;
    among = λ q f is. among q f (old q f is);
  }

-- so far gone through
pub record HasWalked (rows columns : ℕ) (es : List Rectangle) (k : ℕ) (m : BTreeMap ℕ Rectangle) : Type 0 where
  pub row : ℕ
  pub walked : IsWalked (take k es) m row
  pub below : (d : Rectangle) → k < length es → row ≤ (get_or es k d).first.row
  pub well : all_fit rows columns (take k es) ≡ true

-- an anchor that has no place after those gone through
pub has_walked-stop : (rows columns : ℕ) (es : List Rectangle) (k : ℕ) (e : Rectangle) → k < length es → e ≡ get_or es k e → fits_among rows columns (take k es) e ≡ false → all_fit rows columns es ≡ false
has_walked-stop rows columns es k e within is none =
    let more : take (k + 1) es ≡ take k es ++ e ∷ [] = take_more es k e within ∙ ap (λ (a : Rectangle). take k es ++ a ∷ []) (sym is) in
    let stop : all_fit rows columns (take (k + 1) es) ≡ false = ap (all_fit rows columns) more ∙ fit-push rows columns (take k es) e ∙ and_right _ _ none in
    false_from_ne_true _ (λ well. true≢false (sym (fit-left rows columns (take (k + 1) es) (drop (k + 1) es) (ap (all_fit rows columns) (take-append-drop (k + 1) es) ∙ well)) ∙ stop))

-- at the row of the next anchor
pub walked-here : (rows columns : ℕ) (es : List Rectangle) (k : ℕ) (m : BTreeMap ℕ Rectangle) (e : Rectangle) → HasWalked rows columns es k m → k < length es → e ≡ get_or es k e → IsWalked (take k es) m e.first.row
walked-here rows columns es k m e h within is = walked-later (take k es) m h.row e.first.row (subst (λ (a : Rectangle). h.row ≤ a.first.row) (sym is) (h.below e within)) h.walked

-- one more
pub has_walked-more : (rows columns : ℕ) (es : List Rectangle) (k : ℕ) (m cleared new : BTreeMap ℕ Rectangle) (e : Rectangle) → HasWalked rows columns es k m → RowsRise es → k < length es → e ≡ get_or es k e → 1 ≤ e.size.width → lies_inside rows columns e ≡ true → IsClear m e → DropsEnded e.first.row m cleared → ((q : ℕ) → get nat_cmp new q ≡ cond (is_eq (nat_cmp e.first.col q)) (Some e) (get nat_cmp cleared q)) → HasWalked rows columns es (k + 1) new
has_walked-more rows columns es k m cleared new e h up within is wide inside clear drops put =
    let more : take (k + 1) es ≡ take k es ++ e ∷ [] = take_more es k e within ∙ ap (λ (a : Rectangle). take k es ++ a ∷ []) (sym is) in
    let at : IsWalked (take k es) m e.first.row = walked-here rows columns es k m e h within is in
    record {
      row = e.first.row;
      walked = subst (λ (fs : List Rectangle). IsWalked fs new e.first.row) (sym more) (walked-more (take k es) m cleared new e at wide clear drops put);
      below = λ d next. row_before d next (up k d next);
      well = ap (all_fit rows columns) more ∙ fit-push rows columns (take k es) e ∙ and_from _ _ h.well (clear_place rows columns (take k es) m e at clear inside);
    }
  where
    row_before : (d : Rectangle) → k + 1 < length es → (get_or es k d).first.row ≤ (get_or es (k + 1) d).first.row → e.first.row ≤ (get_or es (k + 1) d).first.row
    row_before d next le = subst (λ (a : Rectangle). a.first.row ≤ (get_or es (k + 1) d).first.row) (get_or_default es k d e within ∙ sym is) le
