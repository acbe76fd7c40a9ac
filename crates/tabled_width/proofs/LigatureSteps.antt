-- What a character before a ligature's letter may come to.
use Rattle.std.proofs.Common.{◌&&◌, ◌<◌, ◌==◌, ◌∙◌, ◌≡◌, ◌≢◌, ◌⊎◌, Bool, None, Some, ap, arith, cond, eqb-true, false, inl, inr, refl, subst, sym, true, ℕ}
use Rattle.std.proofs.lemmas.Bool.{and_parts, cases_Bool, false≢true, or_cases}
use Rattle.std.proofs.lemmas.Bool.Decides.{nat_tests}
use Rattle.std.specs.Int.{is_in_range}
use Rattle.tabled_width.proofs.Alone.{IsNoSelector, high-width, transparent-zero, zero-alone}
use Rattle.tabled_width.proofs.Ligatures.{Ends, Outcome, along, buginese_vowel, ends-goes, ends-if, ends-less, ends-none, ends-same, is_ligature, joining-before, lam-apart, lam-no_tone, not_lams, tifinagh_joiner, zero_joiner}
use Rattle.tabled_width.proofs.Untouched.{no-more}
use Rattle.tabled_width.specs.Pieces.{attaches}
use Rattle.unicode_width.specs.Kind.{is_ligature_transparent}
use Rattle.unicode_width.specs.Width.{added, alone, before, before_alef, first_of, is_lam, is_tifinagh, joined_or, joins, past_selectors, plain, skips_marks, with_joiner}
use Rattle.unicode_width.specs.declared.state.After.{After}
use Rattle.unicode_width.specs.declared.state.After.TheVariants.{Nothing, Alef, Lamed, ZwjLamed, Ya, ZwjYa, VowelZwjYa, Tifinagh, ZwjTifinagh, JoinerTifinagh, LisuTone, OrkhonI, ZwjOrkhonI, KhmerLetter, LineFeed, EmojiModifier, RegionalIndicator, RegionalIndicators, Emoji, ZwjEmoji, KeycapZwjEmoji, IndicatorZwj, EvenIndicatorsZwj, OddIndicatorsZwj, TagEnd, TagDigit1, TagDigit2, TagDigit3, TagLetter1, TagLetter2, TagLetter3, TagLetter4, TagLetter5, TagLetter6, KiratE, KiratAi, Solidus, SolidusAlef}
use Rattle.unicode_width.specs.declared.state.Change.{Change}
use Rattle.unicode_width.specs.declared.state.Change.TheVariants.{Less, Same, One}

module _ (y : ℕ) (high : 0xA0 < y) (free : IsNoSelector y) where
  -- at one character, which neither joins letters of Tifinagh nor is a tone
  same_at : (k : ℕ) → k ≢ 0x2D7F → is_in_range 0x1F3FB 0x1F3FF k ≡ false → (y == k) ≡ true → Ends y high free (Some (Same, Nothing))
  same_at k joiner tone h =
      let at : y ≡ k = eqb-true y k h in
      ends-same y high free (λ e. joiner (sym at ∙ e)) (ap (is_in_range 0x1F3FB 0x1F3FF) at ∙ tone)

  tifinagh_apart : is_tifinagh y ≡ true → (y ≢ 0x2D7F) × (is_in_range 0x1F3FB 0x1F3FF y ≡ false)
  tifinagh_apart h = (no_joiner (or_cases (is_in_range 0x2D31 0x2D65 y) (y == 0x2D6F) h), tone (or_cases (is_in_range 0x2D31 0x2D65 y) (y == 0x2D6F) h))
    where
      no_joiner : (is_in_range 0x2D31 0x2D65 y ≡ true) ⊎ ((y == 0x2D6F) ≡ true) → y ≢ 0x2D7F
      no_joiner (inl r) e = false≢true (sym (let no_range : is_in_range 0x2D31 0x2D65 0x2D7F ≡ false = refl in no_range) ∙ ap (is_in_range 0x2D31 0x2D65) (sym e) ∙ r)
      no_joiner (inr r) e = let at : y ≡ 0x2D6F = eqb-true y 0x2D6F r in omega (arith, at, e)

      tone : (is_in_range 0x2D31 0x2D65 y ≡ true) ⊎ ((y == 0x2D6F) ≡ true) → is_in_range 0x1F3FB 0x1F3FF y ≡ false
      tone (inl r) = grind (arith, nat_tests)
      tone (inr r) = ap (is_in_range 0x1F3FB 0x1F3FF) (eqb-true y 0x2D6F r)

  lisu_apart : is_in_range 0xA4F8 0xA4FB y ≡ true → (y ≢ 0x2D7F) × (is_in_range 0x1F3FB 0x1F3FF y ≡ false)
  lisu_apart h = ((λ e. false≢true (sym (let no_range : is_in_range 0xA4F8 0xA4FB 0x2D7F ≡ false = refl in no_range) ∙ ap (is_in_range 0xA4F8 0xA4FB) (sym e) ∙ h)), grind (arith, nat_tests))

  joiner_goes : (y == 0x2D7F) ≡ true → Ends y high free (Some (One, JoinerTifinagh))
  joiner_goes h =
      let at : y ≡ 0x2D7F = eqb-true y 0x2D7F h in
      ends-goes y high free One JoinerTifinagh 1 (ap attaches at ∙ tifinagh_joiner.1) refl (ap (alone false) at ∙ tifinagh_joiner.0) (λ t. refl)

  abbrev Joined : After → Type 0
  Joined a = Ends y high free (joins false a y)

  -- a change that a test decides, with none behind it
  ends-first : (b : Bool) (change : Change) (after : After) → (b ≡ true → Ends y high free (Some (change, after))) → Ends y high free (first_of (cond b (Some (change, after)) None) None)
  ends-first true change after then = then refl
  ends-first false change after then = ends-none y high free

  joined-lamed : Joined ZwjLamed
  unfolding joins
  joined-lamed = ends-first (y == 0x05D0) Same Nothing (same_at 0x05D0 (λ e. omega (arith, e)) refl)

  joined-khmer : Joined KhmerLetter
  unfolding joins
  joined-khmer = ends-first (y == 0x17D2) Less Nothing (λ h. let at : y ≡ 0x17D2 = eqb-true y 0x17D2 h in ends-less y high free (λ e. omega (arith, at, e)) (ap (is_in_range 0x1F3FB 0x1F3FF) at))

  joined-ya : Joined ZwjYa
  unfolding joins
  joined-ya = ends-first (y == 0x1A17) Same VowelZwjYa (λ h. let at : y ≡ 0x1A17 = eqb-true y 0x1A17 h in ends-goes y high free Same VowelZwjYa 0 (ap attaches at ∙ buginese_vowel.1) refl (ap (alone false) at ∙ buginese_vowel.0) no-more)

  joined-vowel : Joined VowelZwjYa
  unfolding joins
  joined-vowel = ends-first (y == 0x1A15) Same Nothing (same_at 0x1A15 (λ e. omega (arith, e)) refl)

  joined-orkhon : Joined ZwjOrkhonI
  unfolding joins
  joined-orkhon = ends-first (y == 0x10C32) Same Nothing (same_at 0x10C32 (λ e. omega (arith, e)) refl)

  joined-lisu : Joined LisuTone
  unfolding joins
  joined-lisu = ends-first (is_in_range 0xA4F8 0xA4FB y) Same Nothing (λ h. let apart = lisu_apart h in ends-same y high free apart.0 apart.1)

  joined-joiner : Joined JoinerTifinagh
  unfolding joins
  joined-joiner = ends-first (is_tifinagh y) Less Nothing (λ h. let apart = tifinagh_apart h in ends-less y high free apart.0 apart.1)

  joined-tifinagh : Joined Tifinagh
  unfolding joins
  joined-tifinagh = ends-first (y == 0x2D7F) One JoinerTifinagh joiner_goes

  joined-zwj_tifinagh : Joined ZwjTifinagh
  unfolding joins
  joined-zwj_tifinagh = same-or-one (y == 0x2D7F) (is_tifinagh y) joiner_goes (λ h. let apart = tifinagh_apart h in ends-same y high free apart.0 apart.1)
    where
      same-or-one : (b d : Bool) → (b ≡ true → Ends y high free (Some (One, JoinerTifinagh))) → (d ≡ true → Ends y high free (Some (Same, Nothing))) → Ends y high free (first_of (cond b (Some (One, JoinerTifinagh)) (cond d (Some (Same, Nothing)) None)) None)
      same-or-one true d then more = then refl
      same-or-one false true then more = more refl
      same-or-one false false then more = ends-none y high free

  -- whatever else is asked of the marks before an alef
  alef_ends : (also : Bool) → Ends y high free (cond (is_lam y) (Some (Same, Nothing)) (cond (((alone false y).0 == 0) && also) (Some (Same, Alef)) None))
  alef_ends also = ends-if y high free (is_lam y) (Some (Same, Nothing)) (cond (((alone false y).0 == 0) && also) (Some (Same, Alef)) None) (λ h. ends-same y high free (lam-apart y 0x2D7F h not_lams.0) (lam-no_tone y h))
      (λ _. ends-if y high free (((alone false y).0 == 0) && also) (Some (Same, Alef)) None (λ h. zero (eqb-true (alone false y).0 0 (and_parts ((alone false y).0 == 0) also h).0)) (λ _. ends-none y high free))
    where
      zero : (alone false y).0 ≡ 0 → Ends y high free (Some (Same, Alef))
      zero e = ends-goes y high free Same Alef 0 (rw (high-width y high ∙ e) refl) refl (zero-alone y free e) no-more

  joined-alef : Joined Alef
  unfolding joins before_alef
  joined-alef = alef_ends _

  -- ---- past what marks don't break

  abbrev Passes : After → Type 0
  Passes a = Outcome y (λ t. past_selectors false y t a) (λ t. added t (alone false y))

  zero_attaches : (alone false y).0 ≡ 0 → attaches y ≡ true
  zero_attaches e = rw (high-width y high ∙ e) refl

  passes-marks : (a : After) → skips_marks a ≡ true → is_ligature a ≡ true → is_ligature (with_joiner a) ≡ true → Joined a → Passes a
  unfolding past_selectors
  passes-marks a skips ligature with_it rest = past-mark (cases_Bool (y == 0x200D)) (cases_Bool (is_ligature_transparent y))
    where
      Past : Type 0
      Past = Outcome y (λ t. cond (skips_marks a && (y == 0x200D)) (t, before (with_joiner a)) (cond (skips_marks a && is_ligature_transparent y) (t, before a) (joined_or t (joins false a y) (alone false y)))) (λ t. added t (alone false y))

      past-mark : ((y == 0x200D) ≡ true) ⊎ ((y == 0x200D) ≡ false) → (is_ligature_transparent y ≡ true) ⊎ (is_ligature_transparent y ≡ false) → Past
      past-mark (inl is) q =
          let at : y ≡ 0x200D = eqb-true y 0x200D is in
          inr (inl (record {
            attached = ap attaches at ∙ zero_joiner.1;
            columns = 0;
            joined = before (with_joiner a);
            unjoined = plain;
            joining = joining-before (with_joiner a) with_it;
            with_it = λ t. rw (skips, is) (ap (λ k. (k, before (with_joiner a))) (no-more t));
            without = λ t. ap (added t) (ap (alone false) at ∙ zero_joiner.0);
          }))
      past-mark (inr other) (inl is) =
          let none = transparent-zero y is in
          inr (inl (record {
            attached = zero_attaches none;
            columns = 0;
            joined = before a;
            unjoined = plain;
            joining = joining-before a ligature;
            with_it = λ t. rw (skips, other, is) (ap (λ k. (k, before a)) (no-more t));
            without = λ t. ap (added t) (zero-alone y free none);
          }))
      past-mark (inr other) (inr unmarked) = along y _ _ (λ t. joined_or t (joins false a y) (alone false y)) (λ t. added t (alone false y)) (λ t. rw (skips, other, unmarked) refl) (λ t. refl) rest

  passes-alef : Passes Alef
  unfolding past_selectors
  passes-alef = joined-alef

  joined-none : (a : After) → joins false a y ≡ None → Joined a
  joined-none a e = subst (Ends y high free) (sym e) (ends-none y high free)

  pub passes : (a : After) → is_ligature a ≡ true → Passes a
  unfolding joins
  passes Alef h = passes-alef
  passes Lamed h = passes-marks Lamed refl refl refl (joined-none Lamed refl)
  passes ZwjLamed h = passes-marks ZwjLamed refl refl refl joined-lamed
  passes Ya h = passes-marks Ya refl refl refl (joined-none Ya refl)
  passes ZwjYa h = passes-marks ZwjYa refl refl refl joined-ya
  passes VowelZwjYa h = passes-marks VowelZwjYa refl refl refl joined-vowel
  passes Tifinagh h = passes-marks Tifinagh refl refl refl joined-tifinagh
  passes ZwjTifinagh h = passes-marks ZwjTifinagh refl refl refl joined-zwj_tifinagh
  passes JoinerTifinagh h = passes-marks JoinerTifinagh refl refl refl joined-joiner
  passes LisuTone h = passes-marks LisuTone refl refl refl joined-lisu
  passes OrkhonI h = passes-marks OrkhonI refl refl refl (joined-none OrkhonI refl)
  passes ZwjOrkhonI h = passes-marks ZwjOrkhonI refl refl refl joined-orkhon
  passes KhmerLetter h = passes-marks KhmerLetter refl refl refl joined-khmer
  passes Nothing h = absurd (false≢true h)
  passes LineFeed h = absurd (false≢true h)
  passes EmojiModifier h = absurd (false≢true h)
  passes RegionalIndicator h = absurd (false≢true h)
  passes RegionalIndicators h = absurd (false≢true h)
  passes Emoji h = absurd (false≢true h)
  passes ZwjEmoji h = absurd (false≢true h)
  passes KeycapZwjEmoji h = absurd (false≢true h)
  passes IndicatorZwj h = absurd (false≢true h)
  passes EvenIndicatorsZwj h = absurd (false≢true h)
  passes OddIndicatorsZwj h = absurd (false≢true h)
  passes TagEnd h = absurd (false≢true h)
  passes TagDigit1 h = absurd (false≢true h)
  passes TagDigit2 h = absurd (false≢true h)
  passes TagDigit3 h = absurd (false≢true h)
  passes TagLetter1 h = absurd (false≢true h)
  passes TagLetter2 h = absurd (false≢true h)
  passes TagLetter3 h = absurd (false≢true h)
  passes TagLetter4 h = absurd (false≢true h)
  passes TagLetter5 h = absurd (false≢true h)
  passes TagLetter6 h = absurd (false≢true h)
  passes KiratE h = absurd (false≢true h)
  passes KiratAi h = absurd (false≢true h)
  passes Solidus h = absurd (false≢true h)
  passes SolidusAlef h = absurd (false≢true h)
