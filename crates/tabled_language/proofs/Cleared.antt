-- Of the rectangles that may reach a row, those that end above are taken away until one decides.
use Rattle.tabled_language.proofs.Common.{◌+◌, ◌<◌, ◌∙◌, ◌≡◌, ◌≤◌, ◌⊎◌, AreBeside, AreKeyed, BTreeMap, Bool, DropsEnded, EndsAbove, IsBeside, IsClear, IsLastBefore, IsMet, MatchBool, NoneBefore, Rectangle, ap, arith, cases_lt, cond, false, get, inl, inr, is_eq, is_some, leb-false, leb-true, nat_cmp, nat_le, nat_tests, none-some, refl, same_Some, subst, sym, true, ℕ}
use Rattle.std.specs.Prelude.{Option, None, Some}

module _ (old m : BTreeMap ℕ Rectangle) (e : Rectangle) (keyed : AreKeyed old) (beside : AreBeside e.first.row old) (drops : DropsEnded e.first.row old m) where
  past : (q : ℕ) (f : Rectangle) → get nat_cmp m q ≡ Some f → e.first.col + e.size.width ≤ q → EndsAbove e.first.row f ⊎ IsBeside e f
  past q f is after = inr (inr (omega (arith, after, keyed q f (drops.had q f is))))

  -- none begins before the end
  pub clear-none : NoneBefore m (e.first.col + e.size.width) → IsClear old e
  clear-none none q f is = unless_above (drops.stays q f is)
    where
      unless_above : EndsAbove e.first.row f ⊎ (get nat_cmp m q ≡ Some f) → EndsAbove e.first.row f ⊎ IsBeside e f
      unless_above (inl above) = inl above
      unless_above (inr still) = at (cases_lt q (e.first.col + e.size.width))
        where
          at : (q < e.first.col + e.size.width) ⊎ (e.first.col + e.size.width ≤ q) → EndsAbove e.first.row f ⊎ IsBeside e f
          at (inl within) = absurd (none-some f (sym (none q within) ∙ still))
          at (inr after) = past q f still after

  -- the last one that does reaches the row, so it decides
  pub clear-last : (near : Rectangle) (b : Bool) → IsLastBefore m (e.first.col + e.size.width) near → e.first.row < near.first.row + near.size.height → b ≡ nat_le (near.first.col + near.size.width) e.first.col → MatchBool b (IsClear old e) (IsMet old e)
  clear-last near b last reach told = decided b told
    where
      here : get nat_cmp old last.0 ≡ Some near
      here = drops.had last.0 near last.2

      at : near.first.col ≡ last.0
      at = keyed last.0 near (drops.had last.0 near last.2)

      clear : near.first.col + near.size.width ≤ e.first.col → IsClear old e
      clear ends r f is = unless_above (drops.stays r f is)
        where
          near_is : get nat_cmp m r ≡ Some f → r ≡ last.0 → f ≡ near
          near_is still same = same_Some f near (sym still ∙ ap (get nat_cmp m) same ∙ last.2)

          reached : (e.first.row < f.first.row + f.size.height) ⊎ EndsAbove e.first.row f → r < last.0 → EndsAbove e.first.row f ⊎ IsBeside e f
          reached (inl reaches) before = inr (inl (omega (arith, ends, at, beside r last.0 f near is here before reaches reach)))
          reached (inr above) before = inl above

          order : get nat_cmp m r ≡ Some f → (r < last.0) ⊎ (last.0 ≤ r) → (last.0 < r) ⊎ (r ≤ last.0) → (r < e.first.col + e.size.width) ⊎ (e.first.col + e.size.width ≤ r) → EndsAbove e.first.row f ⊎ IsBeside e f
          order still (inl before) later within = reached (cases_lt e.first.row (f.first.row + f.size.height)) before
          order still (inr from) (inl behind) (inl within) = absurd (none-some f (sym (last.3 r behind within) ∙ still))
          order still (inr from) (inl behind) (inr after) = past r f still after
          order still (inr from) (inr to) within = subst (λ (a : Rectangle). EndsAbove e.first.row a ⊎ IsBeside e a) (sym (near_is still (omega (arith, from, to)))) (inr (inl ends))

          unless_above : EndsAbove e.first.row f ⊎ (get nat_cmp m r ≡ Some f) → EndsAbove e.first.row f ⊎ IsBeside e f
          unless_above (inl above) = inl above
          unless_above (inr still) = order still (cases_lt r last.0) (cases_lt last.0 r) (cases_lt r (e.first.col + e.size.width))

      met : e.first.col < near.first.col + near.size.width → IsMet old e
      met over = (last.0, near, here, reach, omega (arith, at, last.1), over)

      decided : (c : Bool) → c ≡ nat_le (near.first.col + near.size.width) e.first.col → MatchBool c (IsClear old e) (IsMet old e)
      decided true is = clear (leb-true _ _ (sym is))
      decided false is = met (leb-false _ _ (sym is))

  -- one that ends above is taken away
  pub drops-less : (near : Rectangle) (new : BTreeMap ℕ Rectangle) → IsLastBefore m (e.first.col + e.size.width) near → EndsAbove e.first.row near → ((q : ℕ) → get nat_cmp new q ≡ cond (is_eq (nat_cmp near.first.col q)) None (get nat_cmp m q)) → DropsEnded e.first.row old new
  drops-less near new last above put = record { had = λ q f is. drops.had q f (was q f is (is_eq (nat_cmp near.first.col q)) refl); stays = λ q f is. gone q f (drops.stays q f is) }
    where
      at : near.first.col ≡ last.0
      at = keyed last.0 near (drops.had last.0 near last.2)

      was : (q : ℕ) (f : Rectangle) → get nat_cmp new q ≡ Some f → (b : Bool) → is_eq (nat_cmp near.first.col q) ≡ b → get nat_cmp m q ≡ Some f
      was q f is true t = absurd (none-some f (sym (put q ∙ ap (λ b. cond b None (get nat_cmp m q)) t) ∙ is))
      was q f is false t = sym (put q ∙ ap (λ b. cond b None (get nat_cmp m q)) t) ∙ is

      gone : (q : ℕ) (f : Rectangle) → EndsAbove e.first.row f ⊎ (get nat_cmp m q ≡ Some f) → EndsAbove e.first.row f ⊎ (get nat_cmp new q ≡ Some f)
      gone q f (inl over) = inl over
      gone q f (inr still) = unless_taken (is_eq (nat_cmp near.first.col q)) refl
        where
          unless_taken : (b : Bool) → is_eq (nat_cmp near.first.col q) ≡ b → EndsAbove e.first.row f ⊎ (get nat_cmp new q ≡ Some f)
          unless_taken true t =
              let same : near.first.col ≡ q = grind (arith, nat_tests) in
              inl (subst (λ (a : Rectangle). EndsAbove e.first.row a) (sym (same_Some f near (sym still ∙ ap (get nat_cmp m) (sym same ∙ at) ∙ last.2))) above)
          unless_taken false t = inr (put q ∙ ap (λ b. cond b None (get nat_cmp m q)) t ∙ still)

-- something was taken away
pub smaller : (r : Option Rectangle) (near : Rectangle) (n k : ℕ) → n + cond (is_some r) 1 0 ≡ k → r ≡ Some near → n < k
smaller None near n k len is = absurd (none-some near is)
smaller (Some f) near n k len is = omega (arith, len)

-- it was there
pub last_here : (old m : BTreeMap ℕ Rectangle) (row end : ℕ) (near : Rectangle) → AreKeyed old → DropsEnded row old m → IsLastBefore m end near → get nat_cmp m near.first.col ≡ Some near
last_here old m row end near keyed drops last = ap (get nat_cmp m) (keyed last.0 near (drops.had last.0 near last.2)) ∙ last.2

-- what the tests of a row say
pub reaches : (b : Bool) (end row : ℕ) → b ≡ nat_le end row → b ≡ false → row < end
reaches b end row told is = leb-false end row (sym told ∙ is)

pub ends_above : (b : Bool) (end row : ℕ) → b ≡ nat_le end row → b ≡ true → end ≤ row
ends_above b end row told is = leb-true end row (sym told ∙ is)
