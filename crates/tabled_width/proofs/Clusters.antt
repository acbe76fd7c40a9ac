-- A cluster before a ligature's letter: it takes other columns with it than apart, or is read as at the end of a line.
use Rattle.std.proofs.Common.{◌&&◌, ◌+◌, ◌<◌, ◌==◌, ◌∙◌, ◌≡◌, ◌≤◌, ◌⊎◌, Bool, ap, arith, cond, eqb-true, false, inl, inr, ne_eqb, not, refl, subst, sym, true, ℕ}
use Rattle.std.proofs.lemmas.Bool.{cases_Bool, cases_lt, eqb-false, false≢true, or_cases}
use Rattle.std.proofs.lemmas.Bool.Decides.{nat_tests}
use Rattle.std.specs.Int.{is_in_range}
use Rattle.tabled_width.proofs.Alone.{IsNoSelector, attaches-not, high-width}
use Rattle.tabled_width.proofs.Ligatures.{Outcome, along, is_ligature}
use Rattle.tabled_width.proofs.LigatureSteps.{passes}
use Rattle.tabled_width.proofs.Tables.{is_emoji_kind, is_modifier_kind, modifier_kind, text_base-emoji}
use Rattle.tabled_width.proofs.Untouched.{emoji_selector, no-more, quote_selector, text_selector}
use Rattle.tabled_width.specs.Pieces.{attaches}
use Rattle.unicode_width.proofs.Computing.{unicode_width}
use Rattle.unicode_width.specs.Kind.{is_text_presentation_base, kind}
use Rattle.unicode_width.specs.Width.{Reading, added, alone, before, if_kept, in_context, is_joined_emoji, is_kept, is_line_feed, is_nothing, is_quote, joins, of_kind, past_selectors, plain}
use Rattle.unicode_width.specs.declared.kind.Kind.{Kind}
use Rattle.unicode_width.specs.declared.kind.Kind.TheVariants as kinds
use Rattle.unicode_width.specs.declared.state.After.{After}
use Rattle.unicode_width.specs.declared.state.After.TheVariants.{Nothing, LineFeed, Emoji, Alef, Lamed, ZwjLamed, Ya, ZwjYa, VowelZwjYa, Tifinagh, ZwjTifinagh, JoinerTifinagh, LisuTone, OrkhonI, ZwjOrkhonI, KhmerLetter, EmojiModifier, RegionalIndicator, RegionalIndicators, ZwjEmoji, KeycapZwjEmoji, IndicatorZwj, EvenIndicatorsZwj, OddIndicatorsZwj, TagEnd, TagDigit1, TagDigit2, TagDigit3, TagLetter1, TagLetter2, TagLetter3, TagLetter4, TagLetter5, TagLetter6, KiratE, KiratAi, Solidus, SolidusAlef}
use Rattle.unicode_width.specs.declared.state.State.{State}

-- what is the same of all these states
pub record IsKept (a : After) : Type 0 where
  pub something : is_nothing a ≡ false
  pub no_feed : is_line_feed a ≡ false
  pub kept : is_kept a ≡ true
  pub no_joined : is_joined_emoji a ≡ false

pub kept : (a : After) → is_ligature a ≡ true → IsKept a
kept Alef h = record { something = refl; no_feed = refl; kept = refl; no_joined = refl }
kept Lamed h = record { something = refl; no_feed = refl; kept = refl; no_joined = refl }
kept ZwjLamed h = record { something = refl; no_feed = refl; kept = refl; no_joined = refl }
kept Ya h = record { something = refl; no_feed = refl; kept = refl; no_joined = refl }
kept ZwjYa h = record { something = refl; no_feed = refl; kept = refl; no_joined = refl }
kept VowelZwjYa h = record { something = refl; no_feed = refl; kept = refl; no_joined = refl }
kept Tifinagh h = record { something = refl; no_feed = refl; kept = refl; no_joined = refl }
kept ZwjTifinagh h = record { something = refl; no_feed = refl; kept = refl; no_joined = refl }
kept JoinerTifinagh h = record { something = refl; no_feed = refl; kept = refl; no_joined = refl }
kept LisuTone h = record { something = refl; no_feed = refl; kept = refl; no_joined = refl }
kept OrkhonI h = record { something = refl; no_feed = refl; kept = refl; no_joined = refl }
kept ZwjOrkhonI h = record { something = refl; no_feed = refl; kept = refl; no_joined = refl }
kept KhmerLetter h = record { something = refl; no_feed = refl; kept = refl; no_joined = refl }
kept Nothing h = absurd (false≢true h)
kept LineFeed h = absurd (false≢true h)
kept EmojiModifier h = absurd (false≢true h)
kept RegionalIndicator h = absurd (false≢true h)
kept RegionalIndicators h = absurd (false≢true h)
kept Emoji h = absurd (false≢true h)
kept ZwjEmoji h = absurd (false≢true h)
kept KeycapZwjEmoji h = absurd (false≢true h)
kept IndicatorZwj h = absurd (false≢true h)
kept EvenIndicatorsZwj h = absurd (false≢true h)
kept OddIndicatorsZwj h = absurd (false≢true h)
kept TagEnd h = absurd (false≢true h)
kept TagDigit1 h = absurd (false≢true h)
kept TagDigit2 h = absurd (false≢true h)
kept TagDigit3 h = absurd (false≢true h)
kept TagLetter1 h = absurd (false≢true h)
kept TagLetter2 h = absurd (false≢true h)
kept TagLetter3 h = absurd (false≢true h)
kept TagLetter4 h = absurd (false≢true h)
kept TagLetter5 h = absurd (false≢true h)
kept TagLetter6 h = absurd (false≢true h)
kept KiratE h = absurd (false≢true h)
kept KiratAi h = absurd (false≢true h)
kept Solidus h = absurd (false≢true h)
kept SolidusAlef h = absurd (false≢true h)

abbrev pub state : After → Bool → Bool → Bool → State
state a e t q = record { after = a; emoji = e; text = t; quote = q }

-- a quotation mark
record IsMark (y : ℕ) : Type 0 where
  alone_is : alone false y ≡ (1, plain)
  alone_stands : attaches y ≡ false
  no_text : is_text_presentation_base y ≡ false

marks : IsMark 0x2018 × (IsMark 0x2019 × (IsMark 0x201C × IsMark 0x201D))
unfolding unicode_width
marks = (record { alone_is = refl; alone_stands = refl; no_text = refl }, (record { alone_is = refl; alone_stands = refl; no_text = refl }, (record { alone_is = refl; alone_stands = refl; no_text = refl }, record { alone_is = refl; alone_stands = refl; no_text = refl })))

quote-mark : (y : ℕ) → is_quote y ≡ true → IsMark y
quote-mark y h = mark-in (or_cases (is_in_range 0x2018 0x2019 y) (is_in_range 0x201C 0x201D y) h)
  where
    two : (k : ℕ) → is_in_range k (k + 1) y ≡ true → (y ≡ k) ⊎ (y ≡ k + 1)
    two k r = elim (cases_lt k y) [
      | inl more ↦ inr (grind (arith, nat_tests))
      | inr less ↦ inl (grind (arith, nat_tests))
    ]

    mark-in : (is_in_range 0x2018 0x2019 y ≡ true) ⊎ (is_in_range 0x201C 0x201D y ≡ true) → IsMark y
    mark-in (inl r) = elim (two 0x2018 r) [ inl e ↦ subst IsMark (sym e) marks.0 | inr e ↦ subst IsMark (sym e) marks.1.0 ]
    mark-in (inr r) = elim (two 0x201C r) [ inl e ↦ subst IsMark (sym e) marks.1.1.0 | inr e ↦ subst IsMark (sym e) marks.1.1.1 ]

of_emoji_kind : (c : ℕ) (k : Kind) → is_emoji_kind k ≡ true → of_kind false c k ≡ (2, before Emoji)
of_emoji_kind c kinds.Emoji h = refl
of_emoji_kind c kinds.Zero h = absurd (false≢true h)
of_emoji_kind c kinds.Narrow h = absurd (false≢true h)
of_emoji_kind c kinds.Wide h = absurd (false≢true h)
of_emoji_kind c kinds.Ambiguous h = absurd (false≢true h)
of_emoji_kind c kinds.Alef h = absurd (false≢true h)
of_emoji_kind c kinds.KhmerLetter h = absurd (false≢true h)
of_emoji_kind c kinds.TifinaghConsonant h = absurd (false≢true h)
of_emoji_kind c kinds.LisuTone h = absurd (false≢true h)
of_emoji_kind c kinds.RegionalIndicator h = absurd (false≢true h)
of_emoji_kind c kinds.EmojiModifier h = absurd (false≢true h)
of_emoji_kind c kinds.Single h = absurd (false≢true h)

-- an emoji that has a text presentation, by itself
text-alone : (y : ℕ) → is_text_presentation_base y ≡ true → alone false y ≡ (2, before Emoji)
unfolding alone
text-alone y h = of_emoji_kind y (kind y) (text_base-emoji y h)

pub two_kinds : (k : Kind) → is_emoji_kind k ≡ true → is_modifier_kind k ≡ true → ⊥
two_kinds kinds.EmojiModifier h g = false≢true h
two_kinds kinds.Emoji h g = false≢true g
two_kinds kinds.Zero h g = false≢true h
two_kinds kinds.Narrow h g = false≢true h
two_kinds kinds.Wide h g = false≢true h
two_kinds kinds.Ambiguous h g = false≢true h
two_kinds kinds.Alef h g = false≢true h
two_kinds kinds.KhmerLetter h g = false≢true h
two_kinds kinds.TifinaghConsonant h g = false≢true h
two_kinds kinds.LisuTone h g = false≢true h
two_kinds kinds.RegionalIndicator h g = false≢true h
two_kinds kinds.Single h g = false≢true h

tifinagh_text : is_text_presentation_base 0x2D7F ≡ false
unfolding unicode_width
tifinagh_text = refl

text-apart : (y : ℕ) → 0xA0 < y → is_text_presentation_base y ≡ true → attaches y ≡ false
text-apart y high h = attaches-not y (record {
  some = omega (arith, high-width y high, ap (λ (r : ℕ × State). r.0) (text-alone y h));
  no_joiner = λ e. false≢true (sym tifinagh_text ∙ ap is_text_presentation_base (sym e) ∙ h);
  no_tone = tone (cases_Bool (is_in_range 0x1F3FB 0x1F3FF y));
})
  where
    tone : (is_in_range 0x1F3FB 0x1F3FF y ≡ true) ⊎ (is_in_range 0x1F3FB 0x1F3FF y ≡ false) → is_in_range 0x1F3FB 0x1F3FF y ≡ false
    tone (inr other) = other
    tone (inl is) =
        let low : 0x1F3FB ≤ y = grind (arith, nat_tests) in
        let less : y < 0x1F400 = grind (arith, nat_tests) in
        absurd (two_kinds (kind y) (text_base-emoji y h) (modifier_kind y low less))

pub selectors_attach : (attaches 0xFE0F ≡ true) × ((attaches 0xFE01 ≡ true) × (attaches 0xFE0E ≡ true))
unfolding unicode_width
selectors_attach = (refl, (refl, refl))

-- a character above U+00A0 where no ligature's letter stands behind
abbrev pub without : ℕ → Bool → Bool → ℕ → Reading
without y t q n = cond (not t && not q) (added n (alone false y)) (in_context false y n (state Nothing false t q))

without-emoji : (t q : Bool) (n : ℕ) → without 0xFE0F t q n ≡ (n + 0, state Nothing true false false)
unfolding in_context
without-emoji false false n = ap (added n) emoji_selector
without-emoji true false n = ap (λ m. (m, state Nothing true false false)) (no-more n)
without-emoji false true n = ap (λ m. (m, state Nothing true false false)) (no-more n)
without-emoji true true n = ap (λ m. (m, state Nothing true false false)) (no-more n)

without-text : (t q : Bool) (n : ℕ) → without 0xFE0E t q n ≡ (n + 0, state Nothing false true false)
unfolding in_context
without-text false false n = ap (added n) text_selector
without-text true false n = ap (λ m. (m, state Nothing false true false)) (no-more n)
without-text false true n = ap (λ m. (m, state Nothing false true false)) (no-more n)
without-text true true n = ap (λ m. (m, state Nothing false true false)) (no-more n)

without-quote : (t q : Bool) (n : ℕ) → without 0xFE01 t q n ≡ (n + 0, state Nothing false false true)
unfolding in_context
without-quote false false n = ap (added n) quote_selector
without-quote true false n = ap (λ m. (m, state Nothing false false true)) (no-more n)
without-quote false true n = ap (λ m. (m, state Nothing false false true)) (no-more n)
without-quote true true n = ap (λ m. (m, state Nothing false false true)) (no-more n)

-- a character that is no selector
abbrev shown_as : ℕ → Bool → Bool → (ℕ → Reading) → ℕ → Reading
shown_as y t q rest n = cond (t && is_text_presentation_base y) (n + 1, plain) (cond (q && is_quote y) (n + 2, plain) (rest n))

without-is : (y : ℕ) → IsNoSelector y → (t q : Bool) (n : ℕ) → without y t q n ≡ shown_as y t q (λ m. added m (alone false y)) n
unfolding in_context past_selectors joins
without-is y free false false n = refl
without-is y free true false n = rw (ne_eqb y 0xFE0F free.no_emoji, ne_eqb y 0xFE01 free.no_quote, ne_eqb y 0xFE0E free.no_text) refl
without-is y free false true n = rw (ne_eqb y 0xFE0F free.no_emoji, ne_eqb y 0xFE01 free.no_quote, ne_eqb y 0xFE0E free.no_text) refl
without-is y free true true n = rw (ne_eqb y 0xFE0F free.no_emoji, ne_eqb y 0xFE01 free.no_quote, ne_eqb y 0xFE0E free.no_text) refl

with-is : (a : After) (y : ℕ) → IsNoSelector y → (t q : Bool) (n : ℕ) → in_context false y n (state a false t q) ≡ shown_as y t q (λ m. past_selectors false y m a) n
unfolding in_context
with-is a y free t q n = rw (ne_eqb y 0xFE0F free.no_emoji, ne_eqb y 0xFE01 free.no_quote, ne_eqb y 0xFE0E free.no_text) refl

module _ (a : After) (lig : is_ligature a ≡ true) (keeps : IsKept a) (t q u v : Bool) where
  kept_state : (e : Bool) → if_kept (state a e t q) ≡ state a e t q
  kept_state e = rw keeps.kept refl

  emoji-selected : Outcome 0xFE0F (λ n. in_context false 0xFE0F n (state a false t q)) (without 0xFE0F u v)
  unfolding in_context
  emoji-selected = inr (inl (record {
    attached = selectors_attach.0;
    columns = 0;
    joined = state a true t q;
    unjoined = state Nothing true false false;
    joining = record { ligature = lig; nothing = refl; emoji = refl; text = λ e. absurd (false≢true e); quote = λ e. absurd (false≢true e) };
    with_it = λ n. rw (keeps.no_joined, kept_state false) (ap (λ m. (m, state a true t q)) (no-more n));
    without = without-emoji u v;
  }))

  quote-selected : Outcome 0xFE01 (λ n. in_context false 0xFE01 n (state a false t q)) (without 0xFE01 u v)
  unfolding in_context
  quote-selected = inr (inl (record {
    attached = selectors_attach.1.0;
    columns = 0;
    joined = state a false t true;
    unjoined = state Nothing false false true;
    joining = record { ligature = lig; nothing = refl; emoji = refl; text = λ e. absurd (false≢true e); quote = λ e. refl };
    with_it = λ n. rw (kept_state false) (ap (λ m. (m, state a false t true)) (no-more n));
    without = without-quote u v;
  }))

  text-selected : Outcome 0xFE0E (λ n. in_context false 0xFE0E n (state a false t q)) (without 0xFE0E u v)
  unfolding in_context
  text-selected = inr (inl (record {
    attached = selectors_attach.1.1;
    columns = 0;
    joined = state a false true q;
    unjoined = state Nothing false true false;
    joining = record { ligature = lig; nothing = refl; emoji = refl; text = λ e. refl; quote = λ e. absurd (false≢true e) };
    with_it = λ n. rw (kept_state false) (ap (λ m. (m, state a false true q)) (no-more n));
    without = without-text u v;
  }))

module _ (a : After) (lig : is_ligature a ≡ true) (y : ℕ) (high : 0xA0 < y) where
  shown-outcome : IsNoSelector y → (t q u v : Bool) → (u ≡ true → t ≡ true) → (v ≡ true → q ≡ true) → (b m : Bool) → is_text_presentation_base y ≡ b → is_quote y ≡ m → Outcome y (λ n. cond (t && b) (n + 1, plain) (cond (q && m) (n + 2, plain) (past_selectors false y n a))) (λ n. cond (u && b) (n + 1, plain) (cond (v && m) (n + 2, plain) (added n (alone false y))))
  shown-outcome free t q u v texts quotes true true base mark = absurd (false≢true (sym (quote-mark y mark).no_text ∙ base))
  shown-outcome free true q true v texts quotes true false base mark = inl (record { same = λ n. refl })
  shown-outcome free true q false true texts quotes true false base mark = inr (inr (inr (record { apart = text-apart y high base; differ = λ n some e. omega (arith, e, ap (λ (r : ℕ × State). r.0) (text-alone y base)) })))
  shown-outcome free true q false false texts quotes true false base mark = inr (inr (inr (record { apart = text-apart y high base; differ = λ n some e. omega (arith, e, ap (λ (r : ℕ × State). r.0) (text-alone y base)) })))
  shown-outcome free false q true v texts quotes true false base mark = absurd (false≢true (texts refl))
  shown-outcome free false true false true texts quotes true false base mark = passes y high free a lig
  shown-outcome free false true false false texts quotes true false base mark = passes y high free a lig
  shown-outcome free false false false true texts quotes true false base mark = passes y high free a lig
  shown-outcome free false false false false texts quotes true false base mark = passes y high free a lig
  shown-outcome free t q u v texts quotes false true base mark = quote-outcome t q u v texts quotes
    where
      quote-outcome : (t q u v : Bool) → (u ≡ true → t ≡ true) → (v ≡ true → q ≡ true) → Outcome y (λ n. cond (t && false) (n + 1, plain) (cond (q && true) (n + 2, plain) (past_selectors false y n a))) (λ n. cond (u && false) (n + 1, plain) (cond (v && true) (n + 2, plain) (added n (alone false y))))
      quote-outcome true true true true p r = inl (record { same = λ n. refl })
      quote-outcome true true false true p r = inl (record { same = λ n. refl })
      quote-outcome false true true true p r = inl (record { same = λ n. refl })
      quote-outcome false true false true p r = inl (record { same = λ n. refl })
      quote-outcome true true true false p r = inr (inr (inr (record { apart = (quote-mark y mark).alone_stands; differ = λ n some e. omega (arith, e, ap (λ (r : ℕ × State). r.0) (quote-mark y mark).alone_is) })))
      quote-outcome true true false false p r = inr (inr (inr (record { apart = (quote-mark y mark).alone_stands; differ = λ n some e. omega (arith, e, ap (λ (r : ℕ × State). r.0) (quote-mark y mark).alone_is) })))
      quote-outcome false true true false p r = inr (inr (inr (record { apart = (quote-mark y mark).alone_stands; differ = λ n some e. omega (arith, e, ap (λ (r : ℕ × State). r.0) (quote-mark y mark).alone_is) })))
      quote-outcome false true false false p r = inr (inr (inr (record { apart = (quote-mark y mark).alone_stands; differ = λ n some e. omega (arith, e, ap (λ (r : ℕ × State). r.0) (quote-mark y mark).alone_is) })))
      quote-outcome t false u true p r = absurd (false≢true (r refl))
      quote-outcome true false true false p r = passes y high free a lig
      quote-outcome true false false false p r = passes y high free a lig
      quote-outcome false false true false p r = passes y high free a lig
      quote-outcome false false false false p r = passes y high free a lig
  shown-outcome free t q u v texts quotes false false base mark = plain-outcome t q u v
    where
      plain-outcome : (t q u v : Bool) → Outcome y (λ n. cond (t && false) (n + 1, plain) (cond (q && false) (n + 2, plain) (past_selectors false y n a))) (λ n. cond (u && false) (n + 1, plain) (cond (v && false) (n + 2, plain) (added n (alone false y))))
      plain-outcome t q u v = along y _ _ (λ n. past_selectors false y n a) (λ n. added n (alone false y)) (λ n. none t q (n + 1, plain) (n + 2, plain) (past_selectors false y n a)) (λ n. none u v (n + 1, plain) (n + 2, plain) (added n (alone false y))) (passes y high free a lig)
        where
          none : (t q : Bool) (x z w : Reading) → cond (t && false) x (cond (q && false) z w) ≡ w
          none true true x z w = refl
          none true false x z w = refl
          none false true x z w = refl
          none false false x z w = refl

  pub context-outcome : (t q u v : Bool) → (u ≡ true → t ≡ true) → (v ≡ true → q ≡ true) → Outcome y (λ n. in_context false y n (state a false t q)) (without y u v)
  context-outcome t q u v texts quotes = selected-outcome (cases_Bool (y == 0xFE0F)) (cases_Bool (y == 0xFE01)) (cases_Bool (y == 0xFE0E))
    where
      keeps : IsKept a
      keeps = kept a lig

      Wanted : ℕ → Type 0
      Wanted k = Outcome k (λ n. in_context false k n (state a false t q)) (without k u v)

      selected-outcome : ((y == 0xFE0F) ≡ true) ⊎ ((y == 0xFE0F) ≡ false) → ((y == 0xFE01) ≡ true) ⊎ ((y == 0xFE01) ≡ false) → ((y == 0xFE0E) ≡ true) ⊎ ((y == 0xFE0E) ≡ false) → Wanted y
      selected-outcome (inl is) z w = subst Wanted (sym (eqb-true y 0xFE0F is)) (emoji-selected a lig keeps t q u v)
      selected-outcome (inr other) (inl is) w = subst Wanted (sym (eqb-true y 0xFE01 is)) (quote-selected a lig keeps t q u v)
      selected-outcome (inr other) (inr another) (inl is) = subst Wanted (sym (eqb-true y 0xFE0E is)) (text-selected a lig keeps t q u v)
      selected-outcome (inr other) (inr another) (inr third) =
          let free : IsNoSelector y = record { no_emoji = eqb-false y 0xFE0F other; no_text = eqb-false y 0xFE0E third; no_quote = eqb-false y 0xFE01 another } in
          along y _ _ (shown_as y t q (λ m. past_selectors false y m a)) (shown_as y u v (λ m. added m (alone false y))) (with-is a y free t q) (without-is y free u v) (shown-outcome free t q u v texts quotes (is_text_presentation_base y) (is_quote y) refl refl)
