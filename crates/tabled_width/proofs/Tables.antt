-- Facts about every character, each shown by a computation over Unicode's tables.
use Rattle.std.proofs.Common.{[], ◌&&◌, ◌+◌, ◌<◌, ◌∙◌, ◌∷◌, ◌≡◌, ◌≤◌, ◌⊎◌, ◌||◌, Bool, List, ap, arith, cond, false, inl, inr, nat_le, nat_lt, not, refl, sym, true, ℕ}
use Rattle.std.proofs.lemmas.Bool.{and_parts, cases_lt, false≢true, le-ltb, lt-leb, lt-ltb, or_cases}
use Rattle.unicode_width.proofs.Computing.{unicode_width}
use Rattle.unicode_width.proofs.KindLemmas.{is_ligature_transparent_stepped, is_text_presentation_base_stepped, kind_stepped}
use Rattle.unicode_width.specs.Kind.{is_ligature_transparent, is_text_presentation_base, kind}
use Rattle.unicode_width.specs.declared.kind.Kind.{Kind}
use Rattle.unicode_width.specs.declared.kind.Kind.TheVariants as kinds
use borrow.Author.Tests.{le-leb, leb-true}

-- ---- functions in steps

-- the value of the first step that ends after a number, or the default
unfoldable value : {V : Type 0} → V → List (ℕ × V) → ℕ → V
value default [] c = default
value default (s ∷ ss) c = let later = value default ss c in cond (nat_lt c s.0) s.1 later

-- the values from a number on, and below another, pass
unfoldable passes_within : {V : Type 0} → (V → Bool) → V → List (ℕ × V) → ℕ → ℕ → Bool
passes_within q d [] a b = q d
passes_within q d (s ∷ ss) a b = let rest = passes_within q d ss a b in (nat_le s.0 a || q s.1) && cond (nat_le b s.0) true rest

not_both : (a b : ℕ) → nat_le a b ≡ true → b < a → {P : Type 0} → P
not_both a b h less = absurd (omega (arith, leb-true a b h, less))

value-within : {V : Type 0} (q : V → Bool) (d : V) (ss : List (ℕ × V)) (a b c : ℕ) → passes_within q d ss a b ≡ true → a ≤ c → c < b → q (value d ss c) ≡ true
unfolding value passes_within
value-within q d [] a b c h low high = h
value-within q d (s ∷ ss) a b c h low high = value-here (cases_lt c s.0) (or_cases (nat_le s.0 a) (q s.1) parts.0) (λ more. value-within q d ss a b c more low high)
  where
    parts : ((nat_le s.0 a || q s.1) ≡ true) × (cond (nat_le b s.0) true (passes_within q d ss a b) ≡ true)
    parts = and_parts (nat_le s.0 a || q s.1) (cond (nat_le b s.0) true (passes_within q d ss a b)) h

    value-here : (c < s.0) ⊎ (s.0 ≤ c) → (nat_le s.0 a ≡ true) ⊎ (q s.1 ≡ true) → (passes_within q d ss a b ≡ true → q (value d ss c) ≡ true) → q (cond (nat_lt c s.0) s.1 (value d ss c)) ≡ true
    value-here (inl here) (inl past) more = not_both s.0 a past (omega arith)
    value-here (inl here) (inr passes) more = rw (lt-ltb c s.0 here) passes
    value-here (inr later) l more =
        let ended : nat_le b s.0 ≡ false = lt-leb b s.0 (omega arith) in
        rw (le-ltb c s.0 later) (more (rw ended at parts.1))

-- the steps that end after a number
unfoldable skip : {V : Type 0} → List (ℕ × V) → ℕ → List (ℕ × V)
skip [] n = []
skip (s ∷ ss) n = let rest = skip ss n in cond (nat_le s.0 n) rest (s ∷ ss)

value-skip : {V : Type 0} (d : V) (ss : List (ℕ × V)) (n c : ℕ) → n ≤ c → value d (skip ss n) c ≡ value d ss c
unfolding value skip
value-skip d [] n c h = refl
value-skip d (s ∷ ss) n c h = skip-here (cases_lt n s.0) (value-skip d ss n c h)
  where
    skip-here : (n < s.0) ⊎ (s.0 ≤ n) → value d (skip ss n) c ≡ value d ss c → value d (cond (nat_le s.0 n) (skip ss n) (s ∷ ss)) c ≡ cond (nat_lt c s.0) s.1 (value d ss c)
    skip-here (inl after) more = rw (lt-leb s.0 n after) refl
    skip-here (inr before) more = rw (le-leb s.0 n before, le-ltb c s.0 (omega arith)) more

-- where a step counts, the values in its place pass
unfoldable counted : {V : Type 0} → Bool → (V → Bool) → V → List (ℕ × V) → ℕ → ℕ → Bool
counted true q d ss a b = passes_within q d ss a b
counted false q d ss a b = true

-- where one function, in steps from a number on, is true, the values of the other pass
unfoldable passes_where : {V : Type 0} → (V → Bool) → V → List (ℕ × V) → ℕ → List (ℕ × Bool) → Bool → Bool
passes_where q d ss from [] default = not default
passes_where q d ss from (p ∷ ps) default = counted (nat_lt from p.0 && p.1) q d ss from p.0 && passes_where q d (skip ss p.0) p.0 ps default

value-where : {V : Type 0} (q : V → Bool) (d : V) (ss : List (ℕ × V)) (from : ℕ) (ps : List (ℕ × Bool)) (default : Bool) (c : ℕ) → passes_where q d ss from ps default ≡ true → from ≤ c → value default ps c ≡ true → q (value d ss c) ≡ true
unfolding value passes_where counted
value-where q d ss from [] true c h low is = absurd (false≢true h)
value-where q d ss from [] false c h low is = absurd (false≢true is)
value-where q d ss from (p ∷ ps) default c h low is = where-here (cases_lt c p.0) p.1 parts.0 is (λ later more. ap q (sym (value-skip d ss p.0 c later)) ∙ value-where q d (skip ss p.0) p.0 ps default c parts.1 later more)
  where
    parts : (counted (nat_lt from p.0 && p.1) q d ss from p.0 ≡ true) × (passes_where q d (skip ss p.0) p.0 ps default ≡ true)
    parts = and_parts (counted (nat_lt from p.0 && p.1) q d ss from p.0) (passes_where q d (skip ss p.0) p.0 ps default) h

    where-here : (c < p.0) ⊎ (p.0 ≤ c) → (counts : Bool) → counted (nat_lt from p.0 && counts) q d ss from p.0 ≡ true → cond (nat_lt c p.0) counts (value default ps c) ≡ true → (p.0 ≤ c → value default ps c ≡ true → q (value d ss c) ≡ true) → q (value d ss c) ≡ true
    where-here (inl here) true all e more = value-within q d ss from p.0 c (rw (lt-ltb from p.0 (omega arith)) at all) low here
    where-here (inl here) false all e more = let never : false ≡ true = rw (lt-ltb c p.0 here) at e in absurd (false≢true never)
    where-here (inr later) counts all e more = more later (rw (le-ltb c p.0 later) at e)

-- the values that pass stand between two numbers
unfoldable lies_within : {V : Type 0} → (V → Bool) → ℕ → ℕ → V → ℕ → List (ℕ × V) → Bool
lies_within q low high d from [] = not (q d)
lies_within q low high d from (s ∷ ss) = (not (q s.1) || (nat_le low from && nat_le s.0 (high + 1))) && lies_within q low high d s.0 ss

value-lies : {V : Type 0} (q : V → Bool) (low high : ℕ) (d : V) (from : ℕ) (ss : List (ℕ × V)) (c : ℕ) → lies_within q low high d from ss ≡ true → from ≤ c → q (value d ss c) ≡ true → (low ≤ c) × (c ≤ high)
unfolding value lies_within
value-lies q low high d from [] c h least is = not-both (q d) h is
  where
    not-both : (b : Bool) → not b ≡ true → b ≡ true → (low ≤ c) × (c ≤ high)
    not-both true all some = absurd (false≢true all)
    not-both false all some = absurd (false≢true some)
value-lies q low high d from (s ∷ ss) c h least is = lies-here (cases_lt c s.0) (q s.1) refl parts.0 (λ later more. value-lies q low high d s.0 ss c parts.1 later more)
  where
    parts : ((not (q s.1) || (nat_le low from && nat_le s.0 (high + 1))) ≡ true) × (lies_within q low high d s.0 ss ≡ true)
    parts = and_parts (not (q s.1) || (nat_le low from && nat_le s.0 (high + 1))) (lies_within q low high d s.0 ss) h

    lies-here : (c < s.0) ⊎ (s.0 ≤ c) → (b : Bool) → q s.1 ≡ b → (not b || (nat_le low from && nat_le s.0 (high + 1))) ≡ true → (s.0 ≤ c → q (value d ss c) ≡ true → (low ≤ c) × (c ≤ high)) → (low ≤ c) × (c ≤ high)
    lies-here (inl here) true e lies more =
        let both = and_parts (nat_le low from) (nat_le s.0 (high + 1)) lies in
        (omega (arith, leb-true low from both.0), omega (arith, leb-true s.0 (high + 1) both.1))
    lies-here (inl here) false e lies more = absurd (false≢true (sym e ∙ (rw (lt-ltb c s.0 here) at is)))
    lies-here (inr later) b e lies more = more later (rw (le-ltb c s.0 later) at is)

-- ---- the tables

kind_value : (c : ℕ) → kind c ≡ value kind_stepped.default kind_stepped.steps c
unfolding unicode_width value
kind_value c = kind_stepped.gives c

transparent_value : (c : ℕ) → is_ligature_transparent c ≡ value is_ligature_transparent_stepped.default is_ligature_transparent_stepped.steps c
unfolding unicode_width value
transparent_value c = is_ligature_transparent_stepped.gives c

text_value : (c : ℕ) → is_text_presentation_base c ≡ value is_text_presentation_base_stepped.default is_text_presentation_base_stepped.steps c
unfolding unicode_width value
text_value c = is_text_presentation_base_stepped.gives c

-- without a column by its kind, or named by a rule
abbrev pub is_still : Kind → Bool
is_still kinds.Zero = true
is_still kinds.Single = true
is_still k = false

abbrev pub is_emoji_kind : Kind → Bool
is_emoji_kind kinds.Emoji = true
is_emoji_kind k = false

abbrev pub is_zero_kind : Kind → Bool
is_zero_kind kinds.Zero = true
is_zero_kind k = false

abbrev pub is_indicator_kind : Kind → Bool
is_indicator_kind kinds.RegionalIndicator = true
is_indicator_kind k = false

abbrev pub is_modifier_kind : Kind → Bool
is_modifier_kind kinds.EmojiModifier = true
is_modifier_kind k = false

-- each instance has its computation
transparent_computed : passes_where is_still kind_stepped.default kind_stepped.steps 0 is_ligature_transparent_stepped.steps is_ligature_transparent_stepped.default ≡ true
unfolding unicode_width passes_where counted passes_within skip
transparent_computed = refl

-- a mark that ligatures pass over
pub transparent-still : (c : ℕ) → is_ligature_transparent c ≡ true → is_still (kind c) ≡ true
transparent-still c is = ap is_still (kind_value c) ∙ value-where is_still kind_stepped.default kind_stepped.steps 0 is_ligature_transparent_stepped.steps is_ligature_transparent_stepped.default c transparent_computed (omega arith) (sym (transparent_value c) ∙ is)

text_computed : passes_where is_emoji_kind kind_stepped.default kind_stepped.steps 0 is_text_presentation_base_stepped.steps is_text_presentation_base_stepped.default ≡ true
unfolding unicode_width passes_where counted passes_within skip
text_computed = refl

-- an emoji that has a text presentation
pub text_base-emoji : (c : ℕ) → is_text_presentation_base c ≡ true → is_emoji_kind (kind c) ≡ true
text_base-emoji c is = ap is_emoji_kind (kind_value c) ∙ value-where is_emoji_kind kind_stepped.default kind_stepped.steps 0 is_text_presentation_base_stepped.steps is_text_presentation_base_stepped.default c text_computed (omega arith) (sym (text_value c) ∙ is)

tags_computed : passes_within is_zero_kind kind_stepped.default kind_stepped.steps 0xE0020 0xE0080 ≡ true
unfolding unicode_width passes_within
tags_computed = refl

pub tag-zero : (c : ℕ) → 0xE0020 ≤ c → c < 0xE0080 → is_zero_kind (kind c) ≡ true
tag-zero c low high = ap is_zero_kind (kind_value c) ∙ value-within is_zero_kind kind_stepped.default kind_stepped.steps 0xE0020 0xE0080 c tags_computed low high

indicators_computed : lies_within is_indicator_kind 0x1F1E6 0x1F1FF kind_stepped.default 0 kind_stepped.steps ≡ true
unfolding unicode_width lies_within
indicators_computed = refl

pub indicator-lies : (c : ℕ) → is_indicator_kind (kind c) ≡ true → (0x1F1E6 ≤ c) × (c ≤ 0x1F1FF)
indicator-lies c is = value-lies is_indicator_kind 0x1F1E6 0x1F1FF kind_stepped.default 0 kind_stepped.steps c indicators_computed (omega arith) (sym (ap is_indicator_kind (kind_value c)) ∙ is)

modifiers_computed : lies_within is_modifier_kind 0x1F3FB 0x1F3FF kind_stepped.default 0 kind_stepped.steps ≡ true
unfolding unicode_width lies_within
modifiers_computed = refl

pub modifier-lies : (c : ℕ) → is_modifier_kind (kind c) ≡ true → (0x1F3FB ≤ c) × (c ≤ 0x1F3FF)
modifier-lies c is = value-lies is_modifier_kind 0x1F3FB 0x1F3FF kind_stepped.default 0 kind_stepped.steps c modifiers_computed (omega arith) (sym (ap is_modifier_kind (kind_value c)) ∙ is)

tones_computed : passes_within is_modifier_kind kind_stepped.default kind_stepped.steps 0x1F3FB 0x1F400 ≡ true
unfolding unicode_width passes_within
tones_computed = refl

pub modifier_kind : (c : ℕ) → 0x1F3FB ≤ c → c < 0x1F400 → is_modifier_kind (kind c) ≡ true
modifier_kind c low high = ap is_modifier_kind (kind_value c) ∙ value-within is_modifier_kind kind_stepped.default kind_stepped.steps 0x1F3FB 0x1F400 c tones_computed low high

halves_computed : passes_within is_indicator_kind kind_stepped.default kind_stepped.steps 0x1F1E6 0x1F200 ≡ true
unfolding unicode_width passes_within
halves_computed = refl

pub indicator_kind : (c : ℕ) → 0x1F1E6 ≤ c → c < 0x1F200 → is_indicator_kind (kind c) ≡ true
indicator_kind c low high = ap is_indicator_kind (kind_value c) ∙ value-within is_indicator_kind kind_stepped.default kind_stepped.steps 0x1F1E6 0x1F200 c halves_computed low high
