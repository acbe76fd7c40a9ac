-- How a text is read whose first character begins a piece, whatever stands behind that.
use Rattle.std.proofs.Common.{◌&&◌, ◌<◌, ◌==◌, ◌∙◌, ◌≡◌, ◌≢◌, ◌≤◌, ◌⊎◌, Bool, None, Option, Some, ap, arith, eqb-true, false, inl, inr, nat_le, not, refl, suc, sym, true, zero, ℕ}
use Rattle.std.proofs.lemmas.Bool.{and_parts, cases_lt, cond_both, false≢true, not-true}
use Rattle.std.proofs.lemmas.Bool.Decides.{nat_tests}
use Rattle.std.specs.Int.{is_in_range}
use Rattle.tabled_width.proofs.Alone.{transparent-zero}
use Rattle.tabled_width.proofs.Clusters.{selectors_attach}
use Rattle.tabled_width.proofs.First.{First, IsAllowed, alone-first, attach-apart, joins-allowed, keycap_attaches, stands, wide}
use Rattle.tabled_width.proofs.Ligatures.{buginese_vowel, tifinagh_joiner, zero_joiner}
use Rattle.tabled_width.proofs.Tables.{is_zero_kind, tag-zero}
use Rattle.tabled_width.specs.Pieces.{attaches}
use Rattle.unicode_width.proofs.Computing.{unicode_width}
use Rattle.unicode_width.specs.Kind.{is_ligature_transparent, is_text_presentation_base, kind}
use Rattle.unicode_width.specs.Width.{Reading, alone, before, if_kept, in_context, is_emoji_variation_base, is_line_feed, is_plain, is_quote, joined_or, joins, of_kind, past_emoji, past_selectors, skips_marks, step}
use Rattle.unicode_width.specs.declared.kind.Kind.{Kind}
use Rattle.unicode_width.specs.declared.kind.Kind.TheVariants as kinds
use Rattle.unicode_width.specs.declared.state.After.{After}
use Rattle.unicode_width.specs.declared.state.After.TheVariants.{Nothing, LineFeed, Emoji, Alef, Lamed, ZwjLamed, Ya, ZwjYa, VowelZwjYa, Tifinagh, ZwjTifinagh, JoinerTifinagh, LisuTone, OrkhonI, ZwjOrkhonI, KhmerLetter, EmojiModifier, RegionalIndicator, RegionalIndicators, ZwjEmoji, KeycapZwjEmoji, IndicatorZwj, EvenIndicatorsZwj, OddIndicatorsZwj, TagEnd, TagDigit1, TagDigit2, TagDigit3, TagLetter1, TagLetter2, TagLetter3, TagLetter4, TagLetter5, TagLetter6, KiratE, KiratAi, Solidus, SolidusAlef}
use Rattle.unicode_width.specs.declared.state.Change.{Change}
use Rattle.unicode_width.specs.declared.state.Change.TheVariants.{Less, Same, One, Three}
use Rattle.unicode_width.specs.declared.state.State.{State}
use borrow.Author.Tests.{le-leb}

of_zero_kind : (c : ℕ) (k : Kind) → is_zero_kind k ≡ true → (of_kind false c k).0 ≡ 0
of_zero_kind c kinds.Zero h = refl
of_zero_kind c kinds.Narrow h = absurd (false≢true h)
of_zero_kind c kinds.Wide h = absurd (false≢true h)
of_zero_kind c kinds.Ambiguous h = absurd (false≢true h)
of_zero_kind c kinds.Alef h = absurd (false≢true h)
of_zero_kind c kinds.KhmerLetter h = absurd (false≢true h)
of_zero_kind c kinds.TifinaghConsonant h = absurd (false≢true h)
of_zero_kind c kinds.LisuTone h = absurd (false≢true h)
of_zero_kind c kinds.RegionalIndicator h = absurd (false≢true h)
of_zero_kind c kinds.EmojiModifier h = absurd (false≢true h)
of_zero_kind c kinds.Emoji h = absurd (false≢true h)
of_zero_kind c kinds.Single h = absurd (false≢true h)

tag-alone : (c : ℕ) → 0xE0020 ≤ c → c < 0xE0080 → (alone false c).0 ≡ 0
unfolding alone
tag-alone c low high = of_zero_kind c (kind c) (tag-zero c low high)

module _ (d : ℕ) (high : 0xA0 < d) (begins : attaches d ≡ false) where
  tag_apart : {P : Type 0} → is_in_range 0xE0020 0xE007F d ≡ true → P
  tag_apart h =
      let low : 0xE0020 ≤ d = grind (arith, nat_tests) in
      let less : d < 0xE0080 = grind (arith, nat_tests) in
      absurd (omega (arith, wide d high begins, tag-alone d low less))

  at : {P : Type 0} (k : ℕ) → attaches k ≡ true → (d == k) ≡ true → P
  at k is h = attach-apart d high begins k is (eqb-true d k h)

  joined-first : (n : ℕ) (j : Option (Change × After)) → IsAllowed d j → First d (joined_or n j (alone false d))
  joined-first n None h = alone-first d high begins n
  joined-first n (Some (c, Nothing)) h = inl refl
  joined-first n (Some (c, Emoji)) h = inr (inl (record { above = omega (arith, high); state = refl }))
  joined-first n (Some (One, RegionalIndicators)) h = inr (inr (inl (record { indicator = h; after = RegionalIndicators; flag = refl; state = refl; some = inl (omega arith) })))
  joined-first n (Some (One, IndicatorZwj)) h = inr (inr (inl (record { indicator = h; after = IndicatorZwj; flag = refl; state = refl; some = inl (omega arith) })))
  joined-first n (Some (Three, OddIndicatorsZwj)) h = inr (inr (inl (record { indicator = h; after = OddIndicatorsZwj; flag = refl; state = refl; some = inl (omega arith) })))
  joined-first n (Some (c, EvenIndicatorsZwj)) h = inr (inr (inl (record { indicator = h; after = EvenIndicatorsZwj; flag = refl; state = refl; some = inr refl })))
  joined-first n (Some (c, KiratE)) h = inr (inr (inr (inl (record { kirat = h; after = KiratE; vowel = refl; state = refl }))))
  joined-first n (Some (c, KiratAi)) h = inr (inr (inr (inl (record { kirat = h; after = KiratAi; vowel = refl; state = refl }))))
  joined-first n (Some (c, VowelZwjYa)) h = at 0x1A17 buginese_vowel.1 h
  joined-first n (Some (c, JoinerTifinagh)) h = at 0x2D7F tifinagh_joiner.1 h
  joined-first n (Some (c, ZwjEmoji)) h = at 0x200D zero_joiner.1 h
  joined-first n (Some (c, KeycapZwjEmoji)) h = at 0x20E3 keycap_attaches.0 h
  joined-first n (Some (c, EmojiModifier)) h = absurd (false≢true (sym (stands d high begins).no_tone ∙ h))
  joined-first n (Some (c, Alef)) h = absurd (omega (arith, wide d high begins, eqb-true (alone false d).0 0 h))
  joined-first n (Some (c, TagEnd)) h = tag_apart h
  joined-first n (Some (c, TagDigit1)) h = tag_apart h
  joined-first n (Some (c, TagDigit2)) h = tag_apart h
  joined-first n (Some (c, TagDigit3)) h = tag_apart h
  joined-first n (Some (c, TagLetter1)) h = tag_apart h
  joined-first n (Some (c, TagLetter2)) h = tag_apart h
  joined-first n (Some (c, TagLetter3)) h = tag_apart h
  joined-first n (Some (c, TagLetter4)) h = tag_apart h
  joined-first n (Some (c, TagLetter5)) h = tag_apart h
  joined-first n (Some (c, TagLetter6)) h = tag_apart h
  joined-first n (Some (Less, RegionalIndicators)) h = absurd (false≢true h)
  joined-first n (Some (Less, IndicatorZwj)) h = absurd (false≢true h)
  joined-first n (Some (Same, RegionalIndicators)) h = absurd (false≢true h)
  joined-first n (Some (Same, IndicatorZwj)) h = absurd (false≢true h)
  joined-first n (Some (Three, RegionalIndicators)) h = absurd (false≢true h)
  joined-first n (Some (Three, IndicatorZwj)) h = absurd (false≢true h)
  joined-first n (Some (Less, OddIndicatorsZwj)) h = absurd (false≢true h)
  joined-first n (Some (Same, OddIndicatorsZwj)) h = absurd (false≢true h)
  joined-first n (Some (One, OddIndicatorsZwj)) h = absurd (false≢true h)
  joined-first n (Some (c, LineFeed)) h = absurd (false≢true h)
  joined-first n (Some (c, RegionalIndicator)) h = absurd (false≢true h)
  joined-first n (Some (c, Solidus)) h = absurd (false≢true h)
  joined-first n (Some (c, SolidusAlef)) h = absurd (false≢true h)
  joined-first n (Some (c, Lamed)) h = absurd (false≢true h)
  joined-first n (Some (c, ZwjLamed)) h = absurd (false≢true h)
  joined-first n (Some (c, Ya)) h = absurd (false≢true h)
  joined-first n (Some (c, ZwjYa)) h = absurd (false≢true h)
  joined-first n (Some (c, Tifinagh)) h = absurd (false≢true h)
  joined-first n (Some (c, ZwjTifinagh)) h = absurd (false≢true h)
  joined-first n (Some (c, LisuTone)) h = absurd (false≢true h)
  joined-first n (Some (c, OrkhonI)) h = absurd (false≢true h)
  joined-first n (Some (c, ZwjOrkhonI)) h = absurd (false≢true h)
  joined-first n (Some (c, KhmerLetter)) h = absurd (false≢true h)

  selectors-first : (n : ℕ) (a : After) → First d (past_selectors false d n a)
  unfolding past_selectors
  selectors-first n a =
      cond_both (skips_marks a && (d == 0x200D)) _ _ (First d) (λ h. at 0x200D zero_joiner.1 (and_parts (skips_marks a) (d == 0x200D) h).1)
      (λ _. cond_both (skips_marks a && is_ligature_transparent d) _ _ (First d) (λ h. absurd (omega (arith, wide d high begins, transparent-zero d (and_parts (skips_marks a) (is_ligature_transparent d) h).1)))
      (λ _. joined-first n (joins false a d) (joins-allowed a d)))

  context-first : (n : ℕ) (s : State) → First d (in_context false d n s)
  unfolding in_context
  context-first n s =
      cond_both (d == 0xFE0F) _ _ (First d) (λ h. at 0xFE0F selectors_attach.0 h)
      (λ _. cond_both (d == 0xFE01) _ _ (First d) (λ h. at 0xFE01 selectors_attach.1.0 h)
      (λ _. cond_both (d == 0xFE0E) _ _ (First d) (λ h. at 0xFE0E selectors_attach.1.1 h)
      (λ _. cond_both (s.text && is_text_presentation_base d) _ _ (First d) (λ _. inl refl)
      (λ _. cond_both (s.quote && is_quote d) _ _ (First d) (λ _. inl refl)
      (λ _. selectors-first n s.after)))))

  past-first : (n : ℕ) (s : State) → First d (past_emoji false d n s)
  unfolding past_emoji
  past-first n s =
      cond_both (d == 0x0A) _ _ (First d) (λ h. absurd (omega (arith, eqb-true d 0x0A h, high)))
      (λ _. cond_both ((d == 0x0D) && is_line_feed s.after) _ _ (First d) (λ _. inl refl)
      (λ _. cond_both (nat_le d 0xA0) _ _ (First d) (λ _. inl refl)
      (λ _. cond_both (is_plain s) _ _ (First d) (λ _. alone-first d high begins n)
      (λ _. context-first n s))))

  high-first : (n : ℕ) (s : State) → First d (step false d (n, s))
  unfolding step
  high-first n s =
      cond_both (not s.emoji) _ _ (First d) (λ _. past-first n s)
      (λ _. cond_both (is_emoji_variation_base d) _ _ (First d) (λ _. inr (inl (record { above = omega (arith, high); state = refl })))
      (λ _. past-first n (record (if_kept s) { emoji = false })))

-- ---- up to U+00A0

no_bases : ℕ → Bool
no_bases zero = true
no_bases (suc n) = not (is_emoji_variation_base n) && no_bases n

no_low_bases : no_bases 33 ≡ true
unfolding unicode_width no_bases
no_low_bases = refl

no-base : (n k : ℕ) → no_bases n ≡ true → k < n → is_emoji_variation_base k ≡ false
unfolding no_bases
no-base zero k h less = absurd (omega (arith, less))
no-base (suc n) k h less = this-or-less (cases_lt k n) (λ before. no-base n k (and_parts (not (is_emoji_variation_base n)) (no_bases n) h).1 before)
  where
    parts : (not (is_emoji_variation_base n) ≡ true) × (no_bases n ≡ true)
    parts = and_parts (not (is_emoji_variation_base n)) (no_bases n) h

    this-or-less : (k < n) ⊎ (n ≤ k) → (k < n → is_emoji_variation_base k ≡ false) → is_emoji_variation_base k ≡ false
    this-or-less (inl before) more = more before
    this-or-less (inr after) more = let same : k ≡ n = omega (arith, less, after) in ap is_emoji_variation_base same ∙ not-true (is_emoji_variation_base n) parts.0

base-above : (d : ℕ) → is_emoji_variation_base d ≡ true → 32 < d
base-above d h = elim (cases_lt 32 d) [
  | inl above ↦ above
  | inr low ↦ absurd (false≢true (sym (no-base 33 d no_low_bases (omega (arith, low))) ∙ h))
]

low-past : (d : ℕ) → d ≤ 0xA0 → d ≢ 10 → (n : ℕ) (s : State) → First d (past_emoji false d n s)
unfolding past_emoji
low-past d low other n s =
    cond_both (d == 0x0A) _ _ (First d) (λ h. absurd (other (eqb-true d 0x0A h)))
    (λ _. cond_both ((d == 0x0D) && is_line_feed s.after) _ _ (First d) (λ _. inl refl)
    (λ _. cond_both (nat_le d 0xA0) _ _ (First d) (λ _. inl refl)
    (λ h. absurd (over h))))
  where
    over : nat_le d 0xA0 ≡ false → ⊥
    over h = false≢true (sym h ∙ le-leb d 0xA0 low)

low-first : (d : ℕ) → d ≤ 0xA0 → d ≢ 10 → (n : ℕ) (s : State) → First d (step false d (n, s))
unfolding step
low-first d low other n s =
    cond_both (not s.emoji) _ _ (First d) (λ _. low-past d low other n s)
    (λ _. cond_both (is_emoji_variation_base d) _ _ (First d) (λ h. inr (inl (record { above = base-above d h; state = refl })))
    (λ _. low-past d low other n (record (if_kept s) { emoji = false })))

-- a character that begins a piece, before any others
pub first : (d : ℕ) → d ≢ 10 → attaches d ≡ false → (r : Reading) → First d (step false d r)
first d other begins (n, s) = elim (cases_lt 0xA0 d) [
  | inl high ↦ high-first d high begins n s
  | inr low ↦ low-first d low other n s
]
