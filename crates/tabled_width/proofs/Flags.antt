-- A flag before a flag: both indicators are read together, and what joins flags is left.
use Rattle.std.proofs.Common.{[], ◌++◌, ◌+◌, ◌-◌, ◌<◌, ◌==◌, ◌∙◌, ◌∷◌, ◌≡◌, ◌≢◌, ◌≤◌, ◌⊎◌, Bool, List, None, ap, arith, false, inl, inr, nat_le, ne_eqb, refl, true, ℕ}
use Rattle.std.proofs.lemmas.Bool.{false≢true, lt-leb}
use Rattle.std.proofs.lemmas.Bool.Decides.{nat_tests}
use Rattle.tabled_width.proofs.First.{is_flag}
use Rattle.tabled_width.proofs.Reading.{read-append}
use Rattle.tabled_width.proofs.Tables.{indicator_kind, is_indicator_kind}
use Rattle.tabled_width.proofs.Untouched.{IsBare}
use Rattle.unicode_width.specs.Kind.{kind}
use Rattle.unicode_width.specs.Width.{Reading, added, alone, before, in_context, is_indicator, joined_or, joins, of_kind, past_emoji, past_selectors, plain, read_before, step}
use Rattle.unicode_width.specs.declared.kind.Kind.{Kind}
use Rattle.unicode_width.specs.declared.kind.Kind.TheVariants as kinds
use Rattle.unicode_width.specs.declared.state.After.{After}
use Rattle.unicode_width.specs.declared.state.After.TheVariants.{Nothing, LineFeed, Emoji, Alef, Lamed, ZwjLamed, Ya, ZwjYa, VowelZwjYa, Tifinagh, ZwjTifinagh, JoinerTifinagh, LisuTone, OrkhonI, ZwjOrkhonI, KhmerLetter, EmojiModifier, RegionalIndicator, RegionalIndicators, ZwjEmoji, KeycapZwjEmoji, IndicatorZwj, EvenIndicatorsZwj, OddIndicatorsZwj, TagEnd, TagDigit1, TagDigit2, TagDigit3, TagLetter1, TagLetter2, TagLetter3, TagLetter4, TagLetter5, TagLetter6, KiratE, KiratAi, Solidus, SolidusAlef}

-- ---- a list and its last element

pub record Ended (cs : List ℕ) : Type 0 where
  pub front : List ℕ
  pub end : ℕ
  pub is : cs ≡ front ++ end ∷ []

pub ended : (c : ℕ) (cs : List ℕ) → Ended (c ∷ cs)
ended c [] = record { front = []; end = c; is = refl }
ended c (d ∷ cs) = let rest = ended d cs in record { front = c ∷ rest.front; end = rest.end; is = ap (λ xs. c ∷ xs) rest.is }

pub read-end : (front : List ℕ) (end : ℕ) (r : Reading) → read_before false (front ++ end ∷ []) r ≡ read_before false front (step false end r)
read-end front end r = read-append front (end ∷ []) r

-- ---- an indicator before another

pub bare_flag : (b : After) → is_flag b ≡ true → IsBare b
bare_flag RegionalIndicator h = record { something = refl; no_feed = refl; no_skips = refl; no_kept = refl; no_joined = refl }
bare_flag RegionalIndicators h = record { something = refl; no_feed = refl; no_skips = refl; no_kept = refl; no_joined = refl }
bare_flag IndicatorZwj h = record { something = refl; no_feed = refl; no_skips = refl; no_kept = refl; no_joined = refl }
bare_flag EvenIndicatorsZwj h = record { something = refl; no_feed = refl; no_skips = refl; no_kept = refl; no_joined = refl }
bare_flag OddIndicatorsZwj h = record { something = refl; no_feed = refl; no_skips = refl; no_kept = refl; no_joined = refl }
bare_flag Nothing h = absurd (false≢true h)
bare_flag LineFeed h = absurd (false≢true h)
bare_flag EmojiModifier h = absurd (false≢true h)
bare_flag Emoji h = absurd (false≢true h)
bare_flag ZwjEmoji h = absurd (false≢true h)
bare_flag KeycapZwjEmoji h = absurd (false≢true h)
bare_flag TagEnd h = absurd (false≢true h)
bare_flag TagDigit1 h = absurd (false≢true h)
bare_flag TagDigit2 h = absurd (false≢true h)
bare_flag TagDigit3 h = absurd (false≢true h)
bare_flag TagLetter1 h = absurd (false≢true h)
bare_flag TagLetter2 h = absurd (false≢true h)
bare_flag TagLetter3 h = absurd (false≢true h)
bare_flag TagLetter4 h = absurd (false≢true h)
bare_flag TagLetter5 h = absurd (false≢true h)
bare_flag TagLetter6 h = absurd (false≢true h)
bare_flag KiratE h = absurd (false≢true h)
bare_flag KiratAi h = absurd (false≢true h)
bare_flag Alef h = absurd (false≢true h)
bare_flag Solidus h = absurd (false≢true h)
bare_flag SolidusAlef h = absurd (false≢true h)
bare_flag Lamed h = absurd (false≢true h)
bare_flag ZwjLamed h = absurd (false≢true h)
bare_flag Ya h = absurd (false≢true h)
bare_flag ZwjYa h = absurd (false≢true h)
bare_flag VowelZwjYa h = absurd (false≢true h)
bare_flag Tifinagh h = absurd (false≢true h)
bare_flag ZwjTifinagh h = absurd (false≢true h)
bare_flag JoinerTifinagh h = absurd (false≢true h)
bare_flag LisuTone h = absurd (false≢true h)
bare_flag OrkhonI h = absurd (false≢true h)
bare_flag ZwjOrkhonI h = absurd (false≢true h)
bare_flag KhmerLetter h = absurd (false≢true h)

-- a character above U+00A0 that is no selector
record IsPast (y : ℕ) : Type 0 where
  high : 0xA0 < y
  no_emoji : y ≢ 0xFE0F
  no_quote : y ≢ 0xFE01
  no_text : y ≢ 0xFE0E

step-bare : (b : After) → IsBare b → (y : ℕ) → IsPast y → (n : ℕ) → step false y (n, before b) ≡ joined_or n (joins false b y) (alone false y)
unfolding step past_emoji in_context past_selectors
step-bare b bare y past n =
    let feed : (y == 0x0A) ≡ false = ne_eqb y 0x0A (λ e. omega (arith, e, past.high)) in
    let back : (y == 0x0D) ≡ false = ne_eqb y 0x0D (λ e. omega (arith, e, past.high)) in
    let above : nat_le y 0xA0 ≡ false = lt-leb y 0xA0 past.high in
    rw (feed, back, above, bare.something, ne_eqb y 0xFE0F past.no_emoji, ne_eqb y 0xFE01 past.no_quote, ne_eqb y 0xFE0E past.no_text, bare.no_skips) refl

pub step-plain : (y : ℕ) → 0xA0 < y → (n : ℕ) → step false y (n, plain) ≡ added n (alone false y)
unfolding step past_emoji
step-plain y high n =
    let feed : (y == 0x0A) ≡ false = ne_eqb y 0x0A (λ e. omega (arith, e, high)) in
    let back : (y == 0x0D) ≡ false = ne_eqb y 0x0D (λ e. omega (arith, e, high)) in
    let above : nat_le y 0xA0 ≡ false = lt-leb y 0xA0 high in
    rw (feed, back, above) refl

of_indicator_kind : (c : ℕ) (k : Kind) → is_indicator_kind k ≡ true → of_kind false c k ≡ (1, before RegionalIndicator)
of_indicator_kind c kinds.RegionalIndicator h = refl
of_indicator_kind c kinds.Zero h = absurd (false≢true h)
of_indicator_kind c kinds.Narrow h = absurd (false≢true h)
of_indicator_kind c kinds.Wide h = absurd (false≢true h)
of_indicator_kind c kinds.Ambiguous h = absurd (false≢true h)
of_indicator_kind c kinds.Alef h = absurd (false≢true h)
of_indicator_kind c kinds.KhmerLetter h = absurd (false≢true h)
of_indicator_kind c kinds.TifinaghConsonant h = absurd (false≢true h)
of_indicator_kind c kinds.LisuTone h = absurd (false≢true h)
of_indicator_kind c kinds.EmojiModifier h = absurd (false≢true h)
of_indicator_kind c kinds.Emoji h = absurd (false≢true h)
of_indicator_kind c kinds.Single h = absurd (false≢true h)

module _ (y : ℕ) (is : is_indicator y ≡ true) where
  low : 0x1F1E6 ≤ y
  low = grind (arith, nat_tests)

  less : y < 0x1F200
  less = grind (arith, nat_tests)

  past : IsPast y
  past = record { high = omega (arith, low); no_emoji = λ e. omega (arith, e, low); no_quote = λ e. omega (arith, e, low); no_text = λ e. omega (arith, e, low) }

  no_joiner : (y == 0x200D) ≡ false
  no_joiner = ne_eqb y 0x200D (λ e. omega (arith, e, low))

  indicator-alone : alone false y ≡ (1, before RegionalIndicator)
  unfolding alone
  indicator-alone = of_indicator_kind y (kind y) (indicator_kind y low less)

  from_plain : (n : ℕ) → step false y (n, plain) ≡ (n + 1, before RegionalIndicator)
  from_plain n = step-plain y past.high n ∙ ap (added n) indicator-alone

  from_one : (n : ℕ) → step false y (n, before RegionalIndicator) ≡ (n + 1, before RegionalIndicators)
  unfolding joins
  from_one n = step-bare RegionalIndicator (bare_flag RegionalIndicator refl) y past n ∙ rw is refl

  from_some : (n : ℕ) → step false y (n, before RegionalIndicators) ≡ (n + 1, before RegionalIndicators)
  unfolding joins
  from_some n = step-bare RegionalIndicators (bare_flag RegionalIndicators refl) y past n ∙ rw is refl

  from_joined : (n : ℕ) → step false y (n, before IndicatorZwj) ≡ (n - 1, before EvenIndicatorsZwj)
  unfolding joins
  from_joined n = step-bare IndicatorZwj (bare_flag IndicatorZwj refl) y past n ∙ rw is refl

  from_even : (n : ℕ) → step false y (n, before EvenIndicatorsZwj) ≡ (n + 3, before OddIndicatorsZwj)
  unfolding joins
  from_even n = step-bare EvenIndicatorsZwj (bare_flag EvenIndicatorsZwj refl) y past n ∙ rw (no_joiner, is) refl

  from_odd : (n : ℕ) → step false y (n, before OddIndicatorsZwj) ≡ (n - 1, before EvenIndicatorsZwj)
  unfolding joins
  from_odd n = step-bare OddIndicatorsZwj (bare_flag OddIndicatorsZwj refl) y past n ∙ rw (no_joiner, is) refl

-- ---- a whole flag

-- behind whole flags
abbrev pub is_whole : After → Bool
is_whole RegionalIndicators = true
is_whole EvenIndicatorsZwj = true
is_whole OddIndicatorsZwj = true
is_whole b = false

pub record Whole (z y n : ℕ) (b : After) : Type 0 where
  pub after : After
  pub whole : is_whole after ≡ true
  pub step_is : step false z (step false y (n, before b)) ≡ (n + 2, before after)

module _ (z y : ℕ) (first : is_indicator z ≡ true) (second : is_indicator y ≡ true) (n : ℕ) where
  pub whole-plain : step false z (step false y (n, plain)) ≡ (n + 2, before RegionalIndicators)
  whole-plain = ap (step false z) (from_plain y second n) ∙ from_one z first (n + 1) ∙ ap (λ k. (k, before RegionalIndicators)) (let e : n + 1 + 1 ≡ n + 2 = omega arith in e)

  pub whole-flag : (b : After) → is_flag b ≡ true → (1 ≤ n) ⊎ (b ≡ EvenIndicatorsZwj) → Whole z y n b
  whole-flag RegionalIndicator h some = record { after = RegionalIndicators; whole = refl; step_is = ap (step false z) (from_one y second n) ∙ from_some z first (n + 1) ∙ ap (λ k. (k, before RegionalIndicators)) (let e : n + 1 + 1 ≡ n + 2 = omega arith in e) }
  whole-flag RegionalIndicators h some = record { after = RegionalIndicators; whole = refl; step_is = ap (step false z) (from_some y second n) ∙ from_some z first (n + 1) ∙ ap (λ k. (k, before RegionalIndicators)) (let e : n + 1 + 1 ≡ n + 2 = omega arith in e) }
  whole-flag IndicatorZwj h (inl some) = record { after = OddIndicatorsZwj; whole = refl; step_is = ap (step false z) (from_joined y second n) ∙ from_even z first (n - 1) ∙ ap (λ k. (k, before OddIndicatorsZwj)) (let e : n - 1 + 3 ≡ n + 2 = omega (arith, some) in e) }
  whole-flag IndicatorZwj h (inr other) = absurd (cc)
  whole-flag EvenIndicatorsZwj h some = record { after = EvenIndicatorsZwj; whole = refl; step_is = ap (step false z) (from_even y second n) ∙ from_odd z first (n + 3) ∙ ap (λ k. (k, before EvenIndicatorsZwj)) (let e : n + 3 - 1 ≡ n + 2 = omega arith in e) }
  whole-flag OddIndicatorsZwj h (inl some) = record { after = OddIndicatorsZwj; whole = refl; step_is = ap (step false z) (from_odd y second n) ∙ from_even z first (n - 1) ∙ ap (λ k. (k, before OddIndicatorsZwj)) (let e : n - 1 + 3 ≡ n + 2 = omega (arith, some) in e) }
  whole-flag OddIndicatorsZwj h (inr other) = absurd (cc)
  whole-flag Nothing h some = absurd (false≢true h)
  whole-flag LineFeed h some = absurd (false≢true h)
  whole-flag EmojiModifier h some = absurd (false≢true h)
  whole-flag Emoji h some = absurd (false≢true h)
  whole-flag ZwjEmoji h some = absurd (false≢true h)
  whole-flag KeycapZwjEmoji h some = absurd (false≢true h)
  whole-flag TagEnd h some = absurd (false≢true h)
  whole-flag TagDigit1 h some = absurd (false≢true h)
  whole-flag TagDigit2 h some = absurd (false≢true h)
  whole-flag TagDigit3 h some = absurd (false≢true h)
  whole-flag TagLetter1 h some = absurd (false≢true h)
  whole-flag TagLetter2 h some = absurd (false≢true h)
  whole-flag TagLetter3 h some = absurd (false≢true h)
  whole-flag TagLetter4 h some = absurd (false≢true h)
  whole-flag TagLetter5 h some = absurd (false≢true h)
  whole-flag TagLetter6 h some = absurd (false≢true h)
  whole-flag KiratE h some = absurd (false≢true h)
  whole-flag KiratAi h some = absurd (false≢true h)
  whole-flag Alef h some = absurd (false≢true h)
  whole-flag Solidus h some = absurd (false≢true h)
  whole-flag SolidusAlef h some = absurd (false≢true h)
  whole-flag Lamed h some = absurd (false≢true h)
  whole-flag ZwjLamed h some = absurd (false≢true h)
  whole-flag Ya h some = absurd (false≢true h)
  whole-flag ZwjYa h some = absurd (false≢true h)
  whole-flag VowelZwjYa h some = absurd (false≢true h)
  whole-flag Tifinagh h some = absurd (false≢true h)
  whole-flag ZwjTifinagh h some = absurd (false≢true h)
  whole-flag JoinerTifinagh h some = absurd (false≢true h)
  whole-flag LisuTone h some = absurd (false≢true h)
  whole-flag OrkhonI h some = absurd (false≢true h)
  whole-flag ZwjOrkhonI h some = absurd (false≢true h)
  whole-flag KhmerLetter h some = absurd (false≢true h)

pub flag_from_whole : (b : After) → is_whole b ≡ true → is_flag b ≡ true
flag_from_whole RegionalIndicators h = refl
flag_from_whole EvenIndicatorsZwj h = refl
flag_from_whole OddIndicatorsZwj h = refl
flag_from_whole Nothing h = absurd (false≢true h)
flag_from_whole LineFeed h = absurd (false≢true h)
flag_from_whole EmojiModifier h = absurd (false≢true h)
flag_from_whole RegionalIndicator h = absurd (false≢true h)
flag_from_whole Emoji h = absurd (false≢true h)
flag_from_whole ZwjEmoji h = absurd (false≢true h)
flag_from_whole KeycapZwjEmoji h = absurd (false≢true h)
flag_from_whole IndicatorZwj h = absurd (false≢true h)
flag_from_whole TagEnd h = absurd (false≢true h)
flag_from_whole TagDigit1 h = absurd (false≢true h)
flag_from_whole TagDigit2 h = absurd (false≢true h)
flag_from_whole TagDigit3 h = absurd (false≢true h)
flag_from_whole TagLetter1 h = absurd (false≢true h)
flag_from_whole TagLetter2 h = absurd (false≢true h)
flag_from_whole TagLetter3 h = absurd (false≢true h)
flag_from_whole TagLetter4 h = absurd (false≢true h)
flag_from_whole TagLetter5 h = absurd (false≢true h)
flag_from_whole TagLetter6 h = absurd (false≢true h)
flag_from_whole KiratE h = absurd (false≢true h)
flag_from_whole KiratAi h = absurd (false≢true h)
flag_from_whole Alef h = absurd (false≢true h)
flag_from_whole Solidus h = absurd (false≢true h)
flag_from_whole SolidusAlef h = absurd (false≢true h)
flag_from_whole Lamed h = absurd (false≢true h)
flag_from_whole ZwjLamed h = absurd (false≢true h)
flag_from_whole Ya h = absurd (false≢true h)
flag_from_whole ZwjYa h = absurd (false≢true h)
flag_from_whole VowelZwjYa h = absurd (false≢true h)
flag_from_whole Tifinagh h = absurd (false≢true h)
flag_from_whole ZwjTifinagh h = absurd (false≢true h)
flag_from_whole JoinerTifinagh h = absurd (false≢true h)
flag_from_whole LisuTone h = absurd (false≢true h)
flag_from_whole OrkhonI h = absurd (false≢true h)
flag_from_whole ZwjOrkhonI h = absurd (false≢true h)
flag_from_whole KhmerLetter h = absurd (false≢true h)

-- what is no indicator and no joiner doesn't join flags
pub flag-free : (b : After) → is_flag b ≡ true → (y : ℕ) → is_indicator y ≡ false → y ≢ 0x200D → joins false b y ≡ None
unfolding joins
flag-free RegionalIndicator h y other joiner = rw other refl
flag-free RegionalIndicators h y other joiner = rw (other, ne_eqb y 0x200D joiner) refl
flag-free IndicatorZwj h y other joiner = rw other refl
flag-free EvenIndicatorsZwj h y other joiner = rw (other, ne_eqb y 0x200D joiner) refl
flag-free OddIndicatorsZwj h y other joiner = rw (other, ne_eqb y 0x200D joiner) refl
flag-free Nothing h y other joiner = absurd (false≢true h)
flag-free LineFeed h y other joiner = absurd (false≢true h)
flag-free EmojiModifier h y other joiner = absurd (false≢true h)
flag-free Emoji h y other joiner = absurd (false≢true h)
flag-free ZwjEmoji h y other joiner = absurd (false≢true h)
flag-free KeycapZwjEmoji h y other joiner = absurd (false≢true h)
flag-free TagEnd h y other joiner = absurd (false≢true h)
flag-free TagDigit1 h y other joiner = absurd (false≢true h)
flag-free TagDigit2 h y other joiner = absurd (false≢true h)
flag-free TagDigit3 h y other joiner = absurd (false≢true h)
flag-free TagLetter1 h y other joiner = absurd (false≢true h)
flag-free TagLetter2 h y other joiner = absurd (false≢true h)
flag-free TagLetter3 h y other joiner = absurd (false≢true h)
flag-free TagLetter4 h y other joiner = absurd (false≢true h)
flag-free TagLetter5 h y other joiner = absurd (false≢true h)
flag-free TagLetter6 h y other joiner = absurd (false≢true h)
flag-free KiratE h y other joiner = absurd (false≢true h)
flag-free KiratAi h y other joiner = absurd (false≢true h)
flag-free Alef h y other joiner = absurd (false≢true h)
flag-free Solidus h y other joiner = absurd (false≢true h)
flag-free SolidusAlef h y other joiner = absurd (false≢true h)
flag-free Lamed h y other joiner = absurd (false≢true h)
flag-free ZwjLamed h y other joiner = absurd (false≢true h)
flag-free Ya h y other joiner = absurd (false≢true h)
flag-free ZwjYa h y other joiner = absurd (false≢true h)
flag-free VowelZwjYa h y other joiner = absurd (false≢true h)
flag-free Tifinagh h y other joiner = absurd (false≢true h)
flag-free ZwjTifinagh h y other joiner = absurd (false≢true h)
flag-free JoinerTifinagh h y other joiner = absurd (false≢true h)
flag-free LisuTone h y other joiner = absurd (false≢true h)
flag-free OrkhonI h y other joiner = absurd (false≢true h)
flag-free ZwjOrkhonI h y other joiner = absurd (false≢true h)
flag-free KhmerLetter h y other joiner = absurd (false≢true h)

joiner_past : IsPast 0x200D
joiner_past = record { high = omega arith; no_emoji = λ e. omega (arith, e); no_quote = λ e. omega (arith, e); no_text = λ e. omega (arith, e) }

-- a joiner behind whole flags
pub joiner-step : (b : After) → is_whole b ≡ true → (n : ℕ) → step false 0x200D (n, before b) ≡ (n, before ZwjEmoji)
unfolding joins
joiner-step RegionalIndicators h n = step-bare RegionalIndicators (bare_flag RegionalIndicators refl) 0x200D joiner_past n
joiner-step EvenIndicatorsZwj h n = step-bare EvenIndicatorsZwj (bare_flag EvenIndicatorsZwj refl) 0x200D joiner_past n
joiner-step OddIndicatorsZwj h n = step-bare OddIndicatorsZwj (bare_flag OddIndicatorsZwj refl) 0x200D joiner_past n
joiner-step Nothing h n = absurd (false≢true h)
joiner-step LineFeed h n = absurd (false≢true h)
joiner-step EmojiModifier h n = absurd (false≢true h)
joiner-step RegionalIndicator h n = absurd (false≢true h)
joiner-step Emoji h n = absurd (false≢true h)
joiner-step ZwjEmoji h n = absurd (false≢true h)
joiner-step KeycapZwjEmoji h n = absurd (false≢true h)
joiner-step IndicatorZwj h n = absurd (false≢true h)
joiner-step TagEnd h n = absurd (false≢true h)
joiner-step TagDigit1 h n = absurd (false≢true h)
joiner-step TagDigit2 h n = absurd (false≢true h)
joiner-step TagDigit3 h n = absurd (false≢true h)
joiner-step TagLetter1 h n = absurd (false≢true h)
joiner-step TagLetter2 h n = absurd (false≢true h)
joiner-step TagLetter3 h n = absurd (false≢true h)
joiner-step TagLetter4 h n = absurd (false≢true h)
joiner-step TagLetter5 h n = absurd (false≢true h)
joiner-step TagLetter6 h n = absurd (false≢true h)
joiner-step KiratE h n = absurd (false≢true h)
joiner-step KiratAi h n = absurd (false≢true h)
joiner-step Alef h n = absurd (false≢true h)
joiner-step Solidus h n = absurd (false≢true h)
joiner-step SolidusAlef h n = absurd (false≢true h)
joiner-step Lamed h n = absurd (false≢true h)
joiner-step ZwjLamed h n = absurd (false≢true h)
joiner-step Ya h n = absurd (false≢true h)
joiner-step ZwjYa h n = absurd (false≢true h)
joiner-step VowelZwjYa h n = absurd (false≢true h)
joiner-step Tifinagh h n = absurd (false≢true h)
joiner-step ZwjTifinagh h n = absurd (false≢true h)
joiner-step JoinerTifinagh h n = absurd (false≢true h)
joiner-step LisuTone h n = absurd (false≢true h)
joiner-step OrkhonI h n = absurd (false≢true h)
joiner-step ZwjOrkhonI h n = absurd (false≢true h)
joiner-step KhmerLetter h n = absurd (false≢true h)
