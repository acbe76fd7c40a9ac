-- How a text is read whose first character begins a piece: as at the end of a line, or as before an emoji, a flag, a vowel of Kirat Rai or a ligature's letter.
use Rattle.std.proofs.Common.{◌&&◌, ◌+◌, ◌<◌, ◌==◌, ◌∙◌, ◌≡◌, ◌≤◌, ◌⊎◌, Bool, None, Option, Some, ap, arith, cond, eqb-true, false, inl, inr, refl, sym, true, ℕ}
use Rattle.std.proofs.lemmas.Bool.{cond_both, false≢true}
use Rattle.std.proofs.lemmas.Bool.Decides.{nat_tests}
use Rattle.std.specs.Int.{is_in_range}
use Rattle.tabled_width.proofs.Alone.{StandsAlone, high-width, stands-alone}
use Rattle.tabled_width.proofs.Clusters.{selectors_attach}
use Rattle.tabled_width.proofs.Ligatures.{is_ligature}
use Rattle.tabled_width.proofs.Tables.{indicator-lies, is_indicator_kind, is_modifier_kind, modifier-lies}
use Rattle.tabled_width.specs.Pieces.{attaches, is_kirat_vowel}
use Rattle.unicode_width.proofs.Computing.{unicode_width}
use Rattle.unicode_width.specs.Kind.{kind}
use Rattle.unicode_width.specs.Width.{Reading, added, alone, before, before_alef, is_emoji_variation_base, is_indicator, joins, of_kind, plain, single}
use Rattle.unicode_width.specs.declared.kind.Kind.{Kind}
use Rattle.unicode_width.specs.declared.kind.Kind.TheVariants as kinds
use Rattle.unicode_width.specs.declared.state.After.{After}
use Rattle.unicode_width.specs.declared.state.After.TheVariants.{Nothing, LineFeed, Emoji, Alef, Lamed, ZwjLamed, Ya, ZwjYa, VowelZwjYa, Tifinagh, ZwjTifinagh, JoinerTifinagh, LisuTone, OrkhonI, ZwjOrkhonI, KhmerLetter, EmojiModifier, RegionalIndicator, RegionalIndicators, ZwjEmoji, KeycapZwjEmoji, IndicatorZwj, EvenIndicatorsZwj, OddIndicatorsZwj, TagEnd, TagDigit1, TagDigit2, TagDigit3, TagLetter1, TagLetter2, TagLetter3, TagLetter4, TagLetter5, TagLetter6, KiratE, KiratAi, Solidus, SolidusAlef}
use Rattle.unicode_width.specs.declared.state.Change.{Change}
use Rattle.unicode_width.specs.declared.state.Change.TheVariants.{Same, One, Three}
use Rattle.unicode_width.specs.declared.state.State.{State}

-- ---- what may stand behind a cut

abbrev pub is_flag : After → Bool
is_flag RegionalIndicator = true
is_flag RegionalIndicators = true
is_flag IndicatorZwj = true
is_flag EvenIndicatorsZwj = true
is_flag OddIndicatorsZwj = true
is_flag a = false

abbrev pub is_vowel : After → Bool
is_vowel KiratE = true
is_vowel KiratAi = true
is_vowel a = false

pub record BeginsEmoji (d : ℕ) (r : Reading) : Type 0 where
  pub above : 32 < d
  pub state : r.1 ≡ before Emoji

pub record BeginsFlag (d : ℕ) (r : Reading) : Type 0 where
  pub indicator : is_indicator d ≡ true
  pub after : After
  pub flag : is_flag after ≡ true
  pub state : r.1 ≡ before after
  pub some : (1 ≤ r.0) ⊎ (after ≡ EvenIndicatorsZwj)

pub record BeginsVowel (d : ℕ) (r : Reading) : Type 0 where
  pub kirat : is_kirat_vowel d ≡ true
  pub after : After
  pub vowel : is_vowel after ≡ true
  pub state : r.1 ≡ before after

pub record BeginsLetter (d : ℕ) (r : Reading) : Type 0 where
  pub high : 0xA0 < d
  pub after : After
  pub letter : is_ligature after ≡ true
  pub state : r.1 ≡ before after
  pub alone_before : (alone false d).1 ≡ before after
  pub some : 1 ≤ r.0

abbrev pub First : ℕ → Reading → Type 0
First d r = (r.1 ≡ plain) ⊎ (BeginsEmoji d r ⊎ (BeginsFlag d r ⊎ (BeginsVowel d r ⊎ BeginsLetter d r)))

named_alone : ((alone false 0x05DC).1 ≡ before Lamed) × (((alone false 0xFB3C).1 ≡ before Lamed) × (((alone false 0x1A10).1 ≡ before Ya) × ((alone false 0x10C03).1 ≡ before OrkhonI)))
unfolding unicode_width
named_alone = (refl, (refl, (refl, refl)))

pub keycap_attaches : (attaches 0x20E3 ≡ true) × (is_emoji_variation_base 0x20 ≡ false)
unfolding unicode_width
keycap_attaches = (refl, refl)

module _ (d : ℕ) (high : 0xA0 < d) (begins : attaches d ≡ false) where
  pub stands : StandsAlone d
  stands = stands-alone d begins

  pub wide : 1 ≤ (alone false d).0
  wide = omega (arith, stands.some, high-width d high)

  pub attach-apart : {P : Type 0} (k : ℕ) → attaches k ≡ true → d ≡ k → P
  attach-apart k is e = absurd (false≢true (sym begins ∙ ap attaches e ∙ is))

  -- ---- by itself

  letter-alone : (a : After) → is_ligature a ≡ true → (n k : ℕ) → 1 ≤ k → (alone false d).1 ≡ before a → First d (n + k, before a)
  letter-alone a lig n k some e = inr (inr (inr (inr (record { high = high; after = a; letter = lig; state = refl; alone_before = e; some = omega (arith, some) }))))

  vowel-alone : (a : After) → is_vowel a ≡ true → (n : ℕ) → is_kirat_vowel d ≡ true → First d (n, before a)
  vowel-alone a v n is = inr (inr (inr (inl (record { kirat = is; after = a; vowel = v; state = refl }))))

  at_named : (k : ℕ) (s : State) → (alone false k).1 ≡ s → (d == k) ≡ true → (alone false d).1 ≡ s
  at_named k s e h = ap (λ c. (alone false c).1) (eqb-true d k h) ∙ e

  at_vowel : (k : ℕ) → is_kirat_vowel k ≡ true → (d == k) ≡ true → is_kirat_vowel d ≡ true
  at_vowel k e h = ap is_kirat_vowel (eqb-true d k h) ∙ e

  single-first : (n : ℕ) → First d (added n (single false d))
  single-first n =
      cond_both (d == 0x05DC) (1, before Lamed) _ (λ (r : Reading). First d (added n r)) (λ h. letter-alone Lamed refl n 1 (omega arith) (at_named 0x05DC _ named_alone.0 h))
      (λ _. cond_both (d == 0xFB3C) (1, before Lamed) _ (λ (r : Reading). First d (added n r)) (λ h. letter-alone Lamed refl n 1 (omega arith) (at_named 0xFB3C _ named_alone.1.0 h))
      (λ _. cond_both (d == 0x17D8) (3, plain) _ (λ (r : Reading). First d (added n r)) (λ _. inl refl)
      (λ _. cond_both (d == 0x1A10) (1, before Ya) _ (λ (r : Reading). First d (added n r)) (λ h. letter-alone Ya refl n 1 (omega arith) (at_named 0x1A10 _ named_alone.1.1.0 h))
      (λ _. cond_both (d == 0x10C03) (1, before OrkhonI) _ (λ (r : Reading). First d (added n r)) (λ h. letter-alone OrkhonI refl n 1 (omega arith) (at_named 0x10C03 _ named_alone.1.1.1 h))
      (λ _. cond_both (d == 0x16D67) (1, before KiratE) _ (λ (r : Reading). First d (added n r)) (λ h. vowel-alone KiratE refl (n + 1) (at_vowel 0x16D67 refl h))
      (λ _. cond_both (d == 0x16D68) (1, before KiratAi) _ (λ (r : Reading). First d (added n r)) (λ h. vowel-alone KiratAi refl (n + 1) (at_vowel 0x16D68 refl h))
      (λ _. cond_both (d == 0xFE0F) (0, record plain { emoji = true }) _ (λ (r : Reading). First d (added n r)) (λ h. attach-apart 0xFE0F selectors_attach.0 (eqb-true d 0xFE0F h))
      (λ _. cond_both (d == 0xFE01) (0, record plain { quote = true }) _ (λ (r : Reading). First d (added n r)) (λ h. attach-apart 0xFE01 selectors_attach.1.0 (eqb-true d 0xFE01 h))
      (λ _. cond_both (d == 0xFE0E) (0, record plain { text = true }) (0, plain) (λ (r : Reading). First d (added n r)) (λ h. attach-apart 0xFE0E selectors_attach.1.1 (eqb-true d 0xFE0E h))
      (λ _. inl refl))))))))))

  tone_apart : {P : Type 0} → (0x1F3FB ≤ d) × (d ≤ 0x1F3FF) → P
  tone_apart h = absurd (false≢true (sym stands.no_tone ∙ (let is : is_in_range 0x1F3FB 0x1F3FF d ≡ true = grind (arith, nat_tests, h.0, h.1) in is)))

  kind-first : (n : ℕ) (k : Kind) → kind d ≡ k → alone false d ≡ of_kind false d k → First d (added n (of_kind false d k))
  kind-first n kinds.Zero e is = absurd (omega (arith, wide, ap (λ (r : ℕ × State). r.0) is))
  kind-first n kinds.Narrow e is = inl refl
  kind-first n kinds.Wide e is = inl refl
  kind-first n kinds.Ambiguous e is = inl refl
  kind-first n kinds.Alef e is = letter-alone Alef refl n 1 (omega arith) (ap (λ (r : ℕ × State). r.1) is)
  kind-first n kinds.KhmerLetter e is = letter-alone KhmerLetter refl n 1 (omega arith) (ap (λ (r : ℕ × State). r.1) is)
  kind-first n kinds.TifinaghConsonant e is = letter-alone Tifinagh refl n 1 (omega arith) (ap (λ (r : ℕ × State). r.1) is)
  kind-first n kinds.LisuTone e is = letter-alone LisuTone refl n 1 (omega arith) (ap (λ (r : ℕ × State). r.1) is)
  kind-first n kinds.RegionalIndicator e is =
      let h = indicator-lies d (ap is_indicator_kind e) in
      let inside : is_indicator d ≡ true = grind (arith, nat_tests, h.0, h.1) in
      inr (inr (inl (record { indicator = inside; after = RegionalIndicator; flag = refl; state = refl; some = inl (omega arith) })))
  kind-first n kinds.EmojiModifier e is = tone_apart (modifier-lies d (ap is_modifier_kind e))
  kind-first n kinds.Emoji e is = inr (inl (record { above = omega (arith, high); state = refl }))
  kind-first n kinds.Single e is = single-first n

  pub alone-first : (n : ℕ) → First d (added n (alone false d))
  unfolding alone
  alone-first n = kind-first n (kind d) refl refl

-- ---- joined to what follows

-- what a join may leave, and of which characters
abbrev allowed : ℕ → Change → After → Bool
allowed d c Nothing = true
allowed d c Emoji = true
allowed d One RegionalIndicators = is_indicator d
allowed d One IndicatorZwj = is_indicator d
allowed d c EvenIndicatorsZwj = is_indicator d
allowed d Three OddIndicatorsZwj = is_indicator d
allowed d c KiratE = is_kirat_vowel d
allowed d c KiratAi = is_kirat_vowel d
allowed d c VowelZwjYa = d == 0x1A17
allowed d c JoinerTifinagh = d == 0x2D7F
allowed d c ZwjEmoji = d == 0x200D
allowed d c KeycapZwjEmoji = d == 0x20E3
allowed d c EmojiModifier = is_in_range 0x1F3FB 0x1F3FF d
allowed d c TagEnd = is_in_range 0xE0020 0xE007F d
allowed d c TagDigit1 = is_in_range 0xE0020 0xE007F d
allowed d c TagDigit2 = is_in_range 0xE0020 0xE007F d
allowed d c TagDigit3 = is_in_range 0xE0020 0xE007F d
allowed d c TagLetter1 = is_in_range 0xE0020 0xE007F d
allowed d c TagLetter2 = is_in_range 0xE0020 0xE007F d
allowed d c TagLetter3 = is_in_range 0xE0020 0xE007F d
allowed d c TagLetter4 = is_in_range 0xE0020 0xE007F d
allowed d c TagLetter5 = is_in_range 0xE0020 0xE007F d
allowed d c TagLetter6 = is_in_range 0xE0020 0xE007F d
allowed d c Alef = (alone false d).0 == 0
allowed d c a = false

abbrev pub IsAllowed : ℕ → Option (Change × After) → Type 0
IsAllowed d None = Unit {0}
IsAllowed d (Some j) = allowed d j.0 j.1 ≡ true

alef_allowed : (d : ℕ) (a b c : Bool) → IsAllowed d (cond a (Some (Same, Nothing)) (cond (((alone false d).0 == 0) && c) (Some (Same, Alef)) None))
alef_allowed d true b c = refl
alef_allowed d false b c = zero_allowed ((alone false d).0 == 0) refl c
  where
    zero_allowed : (e : Bool) → ((alone false d).0 == 0) ≡ e → (c : Bool) → IsAllowed d (cond (e && c) (Some (Same, Alef)) None)
    zero_allowed true is true = is
    zero_allowed true is false = tt
    zero_allowed false is c = tt

pub joins-allowed : (a : After) (d : ℕ) → IsAllowed d (joins false a d)
unfolding joins before_alef
joins-allowed Nothing d = grind (arith, nat_tests)
joins-allowed LineFeed d = grind (arith, nat_tests)
joins-allowed EmojiModifier d = grind (arith, nat_tests)
joins-allowed RegionalIndicator d = grind (arith, nat_tests)
joins-allowed RegionalIndicators d = grind (arith, nat_tests)
joins-allowed Emoji d = grind (arith, nat_tests)
joins-allowed ZwjEmoji d = grind (arith, nat_tests)
joins-allowed KeycapZwjEmoji d = grind (arith, nat_tests)
joins-allowed IndicatorZwj d = grind (arith, nat_tests)
joins-allowed EvenIndicatorsZwj d = grind (arith, nat_tests)
joins-allowed OddIndicatorsZwj d = grind (arith, nat_tests)
joins-allowed TagEnd d = grind (arith, nat_tests)
joins-allowed TagDigit1 d = grind (arith, nat_tests)
joins-allowed TagDigit2 d = grind (arith, nat_tests)
joins-allowed TagDigit3 d = grind (arith, nat_tests)
joins-allowed TagLetter1 d = grind (arith, nat_tests)
joins-allowed TagLetter2 d = grind (arith, nat_tests)
joins-allowed TagLetter3 d = grind (arith, nat_tests)
joins-allowed TagLetter4 d = grind (arith, nat_tests)
joins-allowed TagLetter5 d = grind (arith, nat_tests)
joins-allowed TagLetter6 d = grind (arith, nat_tests)
joins-allowed KiratE d = grind (arith, nat_tests)
joins-allowed KiratAi d = grind (arith, nat_tests)
joins-allowed Alef d = alef_allowed d _ true _
joins-allowed Solidus d = grind (arith, nat_tests)
joins-allowed SolidusAlef d = grind (arith, nat_tests)
joins-allowed Lamed d = grind (arith, nat_tests)
joins-allowed ZwjLamed d = grind (arith, nat_tests)
joins-allowed Ya d = grind (arith, nat_tests)
joins-allowed ZwjYa d = grind (arith, nat_tests)
joins-allowed VowelZwjYa d = grind (arith, nat_tests)
joins-allowed Tifinagh d = grind (arith, nat_tests)
joins-allowed ZwjTifinagh d = grind (arith, nat_tests)
joins-allowed JoinerTifinagh d = grind (arith, nat_tests)
joins-allowed LisuTone d = grind (arith, nat_tests)
joins-allowed OrkhonI d = grind (arith, nat_tests)
joins-allowed ZwjOrkhonI d = grind (arith, nat_tests)
joins-allowed KhmerLetter d = grind (arith, nat_tests)
