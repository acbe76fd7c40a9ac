-- A character that doesn't join what follows is read as at the end of a line.
use Rattle.std.proofs.Common.{◌&&◌, ◌+◌, ◌==◌, ◌∙◌, ◌≡◌, ◌⊎◌, Bool, None, ap, arith, cond, eqb-true, false, inl, inr, nat_le, refl, sym, true, ℕ}
use Rattle.std.proofs.lemmas.Bool.{cases_Bool, cond_both}
use Rattle.unicode_width.proofs.Computing.{unicode_width}
use Rattle.unicode_width.specs.Width.{added, alone, before, if_kept, in_context, is_joined_emoji, is_kept, is_line_feed, is_nothing, is_plain, joins, past_emoji, past_selectors, plain, skips_marks, step}
use Rattle.unicode_width.specs.declared.state.After.{After}
use Rattle.unicode_width.specs.declared.state.After.TheVariants.{LineFeed}
use Rattle.unicode_width.specs.declared.state.State.{State}

-- selectors by themselves
pub emoji_selector : alone false 0xFE0F ≡ (0, record plain { emoji = true })
unfolding unicode_width
emoji_selector = refl

pub text_selector : alone false 0xFE0E ≡ (0, record plain { text = true })
unfolding unicode_width
text_selector = refl

pub quote_selector : alone false 0xFE01 ≡ (0, record plain { quote = true })
unfolding unicode_width
quote_selector = refl

pub no-more : (t : ℕ) → t ≡ t + 0
no-more t = omega arith

-- states before which marks aren't passed over, and selectors keep nothing
pub record IsBare (a : After) : Type 0 where
  pub something : is_nothing a ≡ false
  pub no_feed : is_line_feed a ≡ false
  pub no_skips : skips_marks a ≡ false
  pub no_kept : is_kept a ≡ false
  pub no_joined : is_joined_emoji a ≡ false

module _ (a : After) (bare : IsBare a) (y : ℕ) (t : ℕ) (free : joins false a y ≡ None) where
  s : State
  s = before a

  nothing_kept : if_kept (before a) ≡ plain
  nothing_kept = rw bare.no_kept refl

  past : past_selectors false y t a ≡ added t (alone false y)
  unfolding past_selectors
  past = rw (bare.no_skips, free) refl

  context : in_context false y t (before a) ≡ added t (alone false y)
  unfolding in_context
  context = context-selected (cases_Bool (y == 0xFE0F)) (cases_Bool (y == 0xFE01)) (cases_Bool (y == 0xFE0E))
    where
      context-selected : ((y == 0xFE0F) ≡ true) ⊎ ((y == 0xFE0F) ≡ false) → ((y == 0xFE01) ≡ true) ⊎ ((y == 0xFE01) ≡ false) → ((y == 0xFE0E) ≡ true) ⊎ ((y == 0xFE0E) ≡ false) → in_context false y t (before a) ≡ added t (alone false y)
      context-selected (inl is) q r =
          let here : y ≡ 0xFE0F = eqb-true y 0xFE0F is in
          rw (is, bare.no_joined, nothing_kept) (ap (λ k. (k, record plain { emoji = true })) (no-more t) ∙ ap (added t) (sym emoji_selector) ∙ ap (λ k. added t (alone false k)) (sym here))
      context-selected (inr other) (inl is) r =
          let here : y ≡ 0xFE01 = eqb-true y 0xFE01 is in
          rw (other, is, nothing_kept) (ap (λ k. (k, record plain { quote = true })) (no-more t) ∙ ap (added t) (sym quote_selector) ∙ ap (λ k. added t (alone false k)) (sym here))
      context-selected (inr other) (inr another) (inl is) =
          let here : y ≡ 0xFE0E = eqb-true y 0xFE0E is in
          rw (other, another, is, nothing_kept) (ap (λ k. (k, record plain { text = true })) (no-more t) ∙ ap (added t) (sym text_selector) ∙ ap (λ k. added t (alone false k)) (sym here))
      context-selected (inr other) (inr another) (inr third) = rw (other, another, third) past

  pub same-step : step false y (t, before a) ≡ step false y (t, plain)
  unfolding step past_emoji
  same-step =
      cond_both (y == 0x0A) (t + 1, before LineFeed) (cond ((y == 0x0D) && is_line_feed a) (t, plain) (cond (nat_le y 0xA0) (t + 1, plain) (cond (is_plain (before a)) (added t (alone false y)) (in_context false y t (before a)))))
      (λ r. r ≡ past_emoji false y t plain)
      (λ is. rw is refl)
      (λ other. rw (bare.no_feed, bare.something, context) (rw other (same-branches (y == 0x0D) (nat_le y 0xA0))))
    where
      same-branches : (b d : Bool) → cond (b && false) (t, plain) (cond d (t + 1, plain) (cond ((false && true) && true) (added t (alone false y)) (added t (alone false y)))) ≡ cond (b && false) (t, plain) (cond d (t + 1, plain) (added t (alone false y)))
      same-branches b d = refl
