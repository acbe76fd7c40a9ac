-- A line whose control characters are replaced by ones that can be seen is as wide as the line.
use Rattle.tabled_draw.proofs.Common.{AllByRecursion, Bool, Bor, IsLine, IsUtf8, List, None, Option, Some, [], ap, ap₂, arith, cases_Bool, cases_eq, cases_lt, cond, cond-false, cond-true, each, encode_ascii, encode_utf8, encode_utf8_all, eqb-false, false, fold, fold-append, get_or, get_or-replicate, inl, inr, le-leb, map, max, nat_le, nat_tests, ne_eqb, not, refl, replicate, shown_character, shown_line, slice_split, subst, sym, text_width, true, ℕ, ◌&&◌, ◌++◌, ◌+◌, ◌-◌, ◌<◌, ◌==◌, ◌∙◌, ◌∷◌, ◌≡◌, ◌≢◌, ◌≤◌, ◌⊎◌, false≢true}
use Rattle.std.proofs.lemmas.List.{map-append}
use Rattle.std.proofs.lemmas.List.Elements.{All-cons, All-nil, recursion_from_All}
use Rattle.std.proofs.lemmas.Str.{encodes-chars}
use Rattle.std.specs.List.{onto_first}
use Rattle.std.specs.Str.{chars}
use Rattle.tabled_draw.proofs.Each.{get-singles}
use Rattle.tabled_draw.proofs.Widths.{cond-alike}
use Rattle.unicode_width.proofs.Computing.{unicode_width}
use Rattle.unicode_width.specs.Kind.{is_ligature_transparent, is_text_presentation_base, kind}
use Rattle.unicode_width.specs.Width.{Reading, added, alone, before, before_alef, if_kept, in_context, is_emoji, is_emoji_modifier_base, is_emoji_variation_base, is_joined_emoji, is_kept, is_lam, is_line_feed, is_plain, is_quote, joined_or, joins, of_kind, past_emoji, past_selectors, plain, read_before, single, skips_marks, step, str_width, with_joiner}
use Rattle.unicode_width.specs.declared.kind.Kind.{Kind}
use Rattle.unicode_width.specs.declared.kind.Kind.TheVariants as kinds
use Rattle.unicode_width.specs.declared.state.After.{After}
use Rattle.unicode_width.specs.declared.state.After.TheVariants.{Nothing, LineFeed, EmojiModifier, ZwjEmoji, Alef}
use Rattle.unicode_width.specs.declared.state.Change.{Change}
use Rattle.unicode_width.specs.declared.state.Change.TheVariants.{Same}
use Rattle.unicode_width.specs.declared.state.State.{State}

and-first : (a b : Bool) → a ≡ false → (a && b) ≡ false
and-first a b e = ap (λ x. x && b) e

and-second : (a b : Bool) → b ≡ false → (a && b) ≡ false
and-second true b e = e
and-second false b e = refl

-- ---- the characters that are shown

abbrev Looks : Type 0
Looks = (ℕ × State) × (Bool × (Bool × (Bool × (Bool × (Bool × Bool)))))

-- what the tables say of a character
looks : ℕ → Looks
looks c = (alone false c, (is_emoji_variation_base c, (is_text_presentation_base c, (is_ligature_transparent c, (is_emoji_modifier_base c, (is_lam c, is_emoji (kind c)))))))

neutral : Looks
neutral = ((1, plain), (false, (false, (false, (false, (false, false))))))

pictures-neutral : each 34 (λ k. looks (0x2400 + k) ∷ []) ≡ replicate 34 neutral
unfolding unicode_width looks neutral
pictures-neutral = refl

replacement-neutral : looks 0xFFFD ≡ neutral
unfolding unicode_width looks neutral
replacement-neutral = refl

picture-neutral : (k : ℕ) → k < 34 → looks (0x2400 + k) ≡ neutral
picture-neutral k h = sym (get-singles (λ i. looks (0x2400 + i)) 34 k neutral h) ∙ ap (λ xs. get_or xs k neutral) pictures-neutral ∙ get_or-replicate 34 k neutral neutral h

-- the control characters are no bases of emoji
low-bases : each 32 (λ k. is_emoji_variation_base k ∷ []) ≡ replicate 32 false
unfolding unicode_width
low-bases = refl

delete-base : is_emoji_variation_base 127 ≡ false
unfolding unicode_width
delete-base = refl

high-bases : each 32 (λ k. is_emoji_variation_base (128 + k) ∷ []) ≡ replicate 32 false
unfolding unicode_width
high-bases = refl

low-base : (c : ℕ) → c < 32 → is_emoji_variation_base c ≡ false
low-base c h = sym (get-singles is_emoji_variation_base 32 c false h) ∙ ap (λ xs. get_or xs c false) low-bases ∙ get_or-replicate 32 c false false h

high-base : (k : ℕ) → k < 32 → is_emoji_variation_base (128 + k) ≡ false
high-base k h = sym (get-singles (λ i. is_emoji_variation_base (128 + i)) 32 k false h) ∙ ap (λ xs. get_or xs k false) high-bases ∙ get_or-replicate 32 k false false h

-- a control character, and what is shown for it
record IsReplaced (c : ℕ) : Type 0 where
  below : c < 161
  base : is_emoji_variation_base c ≡ false
  looks : looks (shown_character c) ≡ neutral
  shown : ((0x23FF < shown_character c) × (shown_character c < 0x2422)) ⊎ (shown_character c ≡ 0xFFFD)

shown-low : (c : ℕ) → c < 32 → shown_character c ≡ 0x2400 + c
shown-low c h = grind (arith, nat_tests)

shown-high : (c : ℕ) → 127 < c → c < 160 → shown_character c ≡ 0xFFFD
shown-high c low high = grind (arith, nat_tests)

shown-other : (c : ℕ) → 31 < c → c ≢ 127 → (c < 128) ⊎ (159 < c) → shown_character c ≡ c
shown-other c low other (inl h) = grind (arith, nat_tests)
shown-other c low other (inr h) = grind (arith, nat_tests)

replaced-low : (c : ℕ) → c < 32 → IsReplaced c
replaced-low c h = record {
  below = omega arith;
  base = low-base c h;
  looks = ap looks (shown-low c h) ∙ picture-neutral c (omega arith);
  shown = inl (omega (arith, shown-low c h), omega (arith, shown-low c h));
}

replaced-delete : (c : ℕ) → c ≡ 127 → IsReplaced c
replaced-delete c is = subst IsReplaced (sym is) (record {
  below = omega arith;
  base = delete-base;
  looks = picture-neutral 33 (omega arith);
  shown = inl (omega arith, omega arith);
})

replaced-high : (c : ℕ) → 127 < c → c < 160 → IsReplaced c
replaced-high c low high =
    let same : 128 + (c - 128) ≡ c = omega arith in
    record {
      below = omega arith;
      base = ap is_emoji_variation_base (sym same) ∙ high-base (c - 128) (omega arith);
      looks = ap looks (shown-high c low high) ∙ replacement-neutral;
      shown = inr (shown-high c low high);
    }

which : (c : ℕ) → IsReplaced c ⊎ (shown_character c ≡ c)
which c = sort-of (cases_lt c 32) (cases_eq c 127) (cases_lt 127 c) (cases_lt c 160)
  where
    sort-of : (c < 32) ⊎ (32 ≤ c) → (c ≡ 127) ⊎ (c ≢ 127) → (127 < c) ⊎ (c ≤ 127) → (c < 160) ⊎ (160 ≤ c) → IsReplaced c ⊎ (shown_character c ≡ c)
    sort-of (inl h) _ _ _ = inl (replaced-low c h)
    sort-of (inr _) (inl is) _ _ = inl (replaced-delete c is)
    sort-of (inr _) (inr _) (inl low) (inl high) = inl (replaced-high c low high)
    sort-of (inr a) (inr other) (inr low) _ = inr (shown-other c (omega arith) other (inl (omega arith)))
    sort-of (inr a) (inr other) (inl _) (inr high) = inr (shown-other c (omega arith) other (inr (omega arith)))

-- ---- such a character counts one, whatever stands behind it

module _ (c : ℕ) (looked : looks c ≡ neutral) (where_it_is : ((0x23FF < c) × (c < 0x2422)) ⊎ (c ≡ 0xFFFD)) where
  is_alone : alone false c ≡ (1, plain)
  unfolding looks neutral
  is_alone = ap (λ (l : Looks). l.0) looked

  no_base : is_emoji_variation_base c ≡ false
  unfolding looks neutral
  no_base = ap (λ (l : Looks). l.1.0) looked

  no_text : is_text_presentation_base c ≡ false
  unfolding looks neutral
  no_text = ap (λ (l : Looks). l.1.1.0) looked

  no_mark : is_ligature_transparent c ≡ false
  unfolding looks neutral
  no_mark = ap (λ (l : Looks). l.1.1.1.0) looked

  no_modified : is_emoji_modifier_base c ≡ false
  unfolding looks neutral
  no_modified = ap (λ (l : Looks). l.1.1.1.1.0) looked

  no_lam : is_lam c ≡ false
  unfolding looks neutral
  no_lam = ap (λ (l : Looks). l.1.1.1.1.1.0) looked

  no_emoji : is_emoji (kind c) ≡ false
  unfolding looks neutral
  no_emoji = ap (λ (l : Looks). l.1.1.1.1.1.1) looked

  low : 0x23FF < c
  low = elim where_it_is [ inl h ↦ h.0 | inr e ↦ omega (arith, e) ]

  -- not one of the characters between
  apart : (k : ℕ) → (k < 0x2400) ⊎ (0x2421 < k) → k ≢ 0xFFFD → (c == k) ≡ false
  apart k out other = ne_eqb c k (is-other where_it_is out)
    where
      is-other : ((0x23FF < c) × (c < 0x2422)) ⊎ (c ≡ 0xFFFD) → (k < 0x2400) ⊎ (0x2421 < k) → c ≢ k
      is-other (inl h) (inl x) e = omega (arith, h.0, x, e)
      is-other (inl h) (inr x) e = omega (arith, h.1, x, e)
      is-other (inr is) _ e = other (sym e ∙ is)

  joins-none : (a : After) → joins false a c ≡ None
  unfolding joins before_alef
  joins-none EmojiModifier = cond-false (is_emoji_modifier_base c) _ _ no_modified ∙ cond-false (c == 0x200D) _ _ (apart 0x200D (inl (omega arith)) (λ e. omega (arith, e)))
  joins-none ZwjEmoji = grind (arith, nat_tests, no_emoji, where_it_is)
  joins-none Alef = cond-false (is_lam c) _ _ no_lam ∙ cond-false _ _ _ (and-first ((alone false c).0 == 0) _ (ap (λ (r : ℕ × State). r.0 == 0) is_alone))
  joins-none _ = grind (arith, nat_tests, where_it_is)

  past-neutral : (t : ℕ) (s : State) → past_emoji false c t s ≡ (t + 1, plain)
  unfolding past_emoji in_context past_selectors
  past-neutral t s =
      cond-false (c == 0x0A) _ _ (apart 0x0A (inl (omega arith)) (λ e. omega (arith, e)))
      ∙ cond-false _ _ _ (and-first (c == 0x0D) (is_line_feed s.after) (apart 0x0D (inl (omega arith)) (λ e. omega (arith, e))))
      ∙ cond-false (nat_le c 0xA0) _ _ (above low)
      ∙ cond-alike (is_plain s) (added t (alone false c)) (in_context false c t s) (t + 1, plain) counts context
    where
      above : 0x23FF < c → nat_le c 0xA0 ≡ false
      above h = grind (arith, nat_tests)

      counts : added t (alone false c) ≡ (t + 1, plain)
      counts = ap (added t) is_alone

      quote : is_quote c ≡ false
      quote = grind (arith, nat_tests, where_it_is)

      context : in_context false c t s ≡ (t + 1, plain)
      context =
          cond-false (c == 0xFE0F) _ _ (apart 0xFE0F (inr (omega arith)) (λ e. omega (arith, e)))
          ∙ cond-false (c == 0xFE01) _ _ (apart 0xFE01 (inr (omega arith)) (λ e. omega (arith, e)))
          ∙ cond-false (c == 0xFE0E) _ _ (apart 0xFE0E (inr (omega arith)) (λ e. omega (arith, e)))
          ∙ cond-false _ _ _ (and-second s.text (is_text_presentation_base c) no_text)
          ∙ cond-false _ _ _ (and-second s.quote (is_quote c) quote)
          ∙ cond-false _ _ _ (and-second (skips_marks s.after) (c == 0x200D) (apart 0x200D (inl (omega arith)) (λ e. omega (arith, e))))
          ∙ cond-false _ _ _ (and-second (skips_marks s.after) (is_ligature_transparent c) no_mark)
          ∙ ap (λ j. joined_or t j (alone false c)) (joins-none s.after) ∙ counts

  step-neutral : (r : Reading) → step false c r ≡ (r.0 + 1, plain)
  unfolding step
  step-neutral (t, s) =
      cond-alike (not s.emoji) (past_emoji false c t s) _ (t + 1, plain) (past-neutral t s)
      (cond-false (is_emoji_variation_base c) _ _ no_base ∙ past-neutral t (record (if_kept s) { emoji = false }))

-- ---- a newline alone is read as one

calm : Reading → Type 0
calm r = is_line_feed r.1.after ≡ false

calm-cond : (b : Bool) (x y : Reading) → calm x → calm y → calm (cond b x y)
calm-cond true x y p q = p
calm-cond false x y p q = q

calm-if : (b q : Bool) (x y : Reading) → (b ≡ true → calm x) → calm y → calm (cond (b && q) x y)
calm-if true true x y p r = p refl
calm-if true false x y p r = r
calm-if false q x y p r = r

-- what is kept of a state is no newline
record Keeps (a : After) : Type 0 where
  marks : skips_marks a ≡ true → (is_line_feed a ≡ false) × (is_line_feed (with_joiner a) ≡ false)
  kept : is_kept a ≡ true → is_line_feed a ≡ false
  joined : is_joined_emoji a ≡ true → is_line_feed a ≡ false

keeps : (a : After) → Keeps a
keeps LineFeed = record { marks = λ t. absurd (false≢true t); kept = λ t. absurd (false≢true t); joined = λ t. absurd (false≢true t) }
keeps _ = record { marks = λ t. (refl, refl); kept = λ t. refl; joined = λ t. refl }

kept-calm : (s : State) → is_line_feed (if_kept s).after ≡ false
kept-calm s = kept-or-plain (is_kept s.after) refl
  where
    kept-or-plain : (b : Bool) → is_kept s.after ≡ b → is_line_feed (cond b s plain).after ≡ false
    kept-or-plain true t = (keeps s.after).kept t
    kept-or-plain false t = refl

selected-calm : (s : State) → is_line_feed (cond (is_joined_emoji s.after) s (if_kept s)).after ≡ false
selected-calm s = joined-or-kept (is_joined_emoji s.after) refl
  where
    joined-or-kept : (b : Bool) → is_joined_emoji s.after ≡ b → is_line_feed (cond b s (if_kept s)).after ≡ false
    joined-or-kept true t = (keeps s.after).joined t
    joined-or-kept false t = kept-calm s

IsCalm : Option (Change × After) → Type 0
IsCalm None = Unit {0}
IsCalm (Some j) = is_line_feed j.1 ≡ false

calm-alef : (a b : Bool) → IsCalm (cond a (Some (Same, Nothing)) (cond b (Some (Same, Alef)) None))
unfolding IsCalm
calm-alef true b = refl
calm-alef false true = refl
calm-alef false false = tt

joins-calm : (a : After) (c : ℕ) → IsCalm (joins false a c)
unfolding joins before_alef IsCalm
joins-calm Alef c = calm-alef (is_lam c) _
joins-calm _ c = grind arith

calm-of : (c t : ℕ) (k : Kind) → calm (added t (of_kind false c k))
unfolding calm
calm-of c t kinds.Single = single-calm c
  where
    single-calm : (c : ℕ) → is_line_feed (single false c).1.after ≡ false
    single-calm c = grind arith
calm-of c t _ = refl

calm-alone : (c t : ℕ) → calm (added t (alone false c))
unfolding alone
calm-alone c t = calm-of c t (kind c)

calm-joined : (t : ℕ) (j : Option (Change × After)) (own : ℕ × State) → IsCalm j → calm (added t own) → calm (joined_or t j own)
unfolding calm IsCalm
calm-joined t None own h rest = rest
calm-joined t (Some j) own h rest = h

calm-past_selectors : (c t : ℕ) (a : After) → calm (past_selectors false c t a)
unfolding past_selectors calm
calm-past_selectors c t a =
    calm-if (skips_marks a) (c == 0x200D) (t, before (with_joiner a)) _ (λ h. ((keeps a).marks h).1)
    (calm-if (skips_marks a) (is_ligature_transparent c) (t, before a) _ (λ h. ((keeps a).marks h).0)
    (calm-joined t (joins false a c) (alone false c) (joins-calm a c) (calm-alone c t)))

calm-in_context : (c t : ℕ) (s : State) → calm (in_context false c t s)
unfolding in_context calm
calm-in_context c t s =
    calm-cond (c == 0xFE0F) _ _ (selected-calm s)
    (calm-cond (c == 0xFE01) _ _ (kept-calm s)
    (calm-cond (c == 0xFE0E) _ _ (kept-calm s)
    (calm-cond (s.text && is_text_presentation_base c) (t + 1, plain) _ refl
    (calm-cond (s.quote && is_quote c) (t + 2, plain) _ refl (calm-past_selectors c t s.after)))))

calm-past_emoji : (c t : ℕ) (s : State) → c ≢ 10 → calm (past_emoji false c t s)
unfolding past_emoji calm
calm-past_emoji c t s other =
    subst calm (sym (cond-false (c == 0x0A) _ _ (ne_eqb c 10 other)))
    (calm-cond ((c == 0x0D) && is_line_feed s.after) (t, plain) _ refl
    (calm-cond (nat_le c 0xA0) (t + 1, plain) _ refl
    (calm-cond (is_plain s) _ _ (calm-alone c t) (calm-in_context c t s))))

calm-step : (c : ℕ) (r : Reading) → c ≢ 10 → calm (step false c r)
unfolding step calm
calm-step c (t, s) other =
    calm-cond (not s.emoji) _ _ (calm-past_emoji c t s other)
    (calm-cond (is_emoji_variation_base c) _ _ refl (calm-past_emoji c t (record (if_kept s) { emoji = false }) other))

-- ---- a control character counts one

past-control : (c t : ℕ) (s : State) → c ≢ 10 → c < 161 → is_line_feed s.after ≡ false → past_emoji false c t s ≡ (t + 1, plain)
unfolding past_emoji
past-control c t s other below quiet =
    cond-false (c == 0x0A) _ _ (ne_eqb c 10 other)
    ∙ cond-false _ _ _ (and-second (c == 0x0D) (is_line_feed s.after) quiet)
    ∙ cond-true (nat_le c 0xA0) _ _ (le-leb c 0xA0 (omega arith))

step-control : (c : ℕ) (r : Reading) → c ≢ 10 → c < 161 → is_emoji_variation_base c ≡ false → calm r → step false c r ≡ (r.0 + 1, plain)
unfolding step calm
step-control c (t, s) other below base quiet =
    cond-alike (not s.emoji) (past_emoji false c t s) _ (t + 1, plain) (past-control c t s other below quiet)
    (cond-false (is_emoji_variation_base c) _ _ base ∙ past-control c t (record (if_kept s) { emoji = false }) other below (kept-calm s))

-- ---- lines

read-calm : (cs : List ℕ) → AllByRecursion (λ c. c ≢ 10) cs → calm (read_before false cs (0, plain))
unfolding calm
read-calm [] all = refl
read-calm (c ∷ cs) all = calm-step c (read_before false cs (0, plain)) all.0

read-shown : (cs : List ℕ) → AllByRecursion (λ c. c ≢ 10) cs → read_before false (map shown_character cs) (0, plain) ≡ read_before false cs (0, plain)
read-shown [] all = refl
read-shown (c ∷ cs) all =
    let so_far = read-shown cs all.1 in
    elim (which c) [
      | inr same ↦ ap₂ (step false) same so_far
      | inl is ↦ ap (step false (shown_character c)) so_far ∙ step-neutral (shown_character c) is.looks is.shown r ∙ sym (step-control c r all.0 is.below is.base (read-calm cs all.1))
    ]
  where
    r : Reading
    r = read_before false cs (0, plain)

pub shown-width : (cs : List ℕ) → AllByRecursion (λ c. c ≢ 10) cs → text_width (map shown_character cs) ≡ text_width cs
unfolding str_width
shown-width cs all = ap (λ (r : Reading). r.0) (read-shown cs all)

-- ---- lines of a text

all-parts : {A : Type 0} (P : A → Type 0) (xs ys : List A) → AllByRecursion P (xs ++ ys) → AllByRecursion P xs × AllByRecursion P ys
all-parts P [] ys all = (tt, all)
all-parts P (x ∷ xs) ys all = let so_far = all-parts P xs ys all.1 in ((all.0, so_far.0), so_far.1)

no-newlines : (cs : List ℕ) → AllByRecursion (λ b. b ≢ 10) (encode_utf8_all cs) → AllByRecursion (λ c. c ≢ 10) cs
no-newlines [] all = tt
no-newlines (c ∷ cs) all =
    let parts = all-parts (λ b. b ≢ 10) (encode_utf8 c) (encode_utf8_all cs) all in
    (first parts.0, no-newlines cs parts.1)
  where
    first : AllByRecursion (λ b. b ≢ 10) (encode_utf8 c) → c ≢ 10
    first here is = (subst (AllByRecursion (λ b. b ≢ 10)) (ap encode_utf8 is ∙ encode_ascii 10 (omega arith)) here).0 refl

-- a line is as wide as what is shown of it
pub line-width : (bs : List ℕ) → IsUtf8 bs → IsLine bs → text_width (chars bs) ≡ text_width (shown_line bs)
line-width bs utf8 line = sym (shown-width (chars bs) (no-newlines (chars bs) (subst (AllByRecursion (λ b. b ≢ 10)) (sym (encodes-chars bs utf8)) (recursion_from_All (λ b. b ≢ 10) bs line))))

-- what a text is split into at newlines has none
pub split-lines : (bs : List ℕ) → AllByRecursion IsLine (slice_split (λ b. b == 10) bs)
split-lines [] = (All-nil (λ b. b ≢ 10), tt)
split-lines (b ∷ bs) =
    let all = split-lines bs in
    elim (cases_Bool (b == 10)) [
      | inl t ↦ subst (AllByRecursion IsLine) (sym (cond-true (b == 10) _ _ t)) (All-nil (λ b. b ≢ 10), all)
      | inr f ↦ subst (AllByRecursion IsLine) (sym (cond-false (b == 10) _ _ f)) (onto (eqb-false b 10 f) (slice_split (λ b. b == 10) bs) all)
    ]
  where
    onto : b ≢ 10 → (parts : List (List ℕ)) → AllByRecursion IsLine parts → AllByRecursion IsLine (onto_first b parts)
    onto other [] all = (All-cons (λ b. b ≢ 10) b [] other (All-nil (λ b. b ≢ 10)), tt)
    onto other (part ∷ parts) all = (All-cons (λ b. b ≢ 10) b part other all.0, all.1)

abbrev widest_of : List (List ℕ) → ℕ
widest_of lines = fold (λ most line. max most (text_width line)) 0 lines

-- the widest of one line more
pub widest-more : (lines : List (Bor (List ℕ))) (line : Bor (List ℕ)) (width columns new : ℕ) → (AllByRecursion IsLine (map (λ x. x.now) lines) → width ≡ widest_of (map shown_line (map (λ x. x.now) lines))) → (IsLine line.now → columns ≡ text_width (shown_line line.now)) → new ≡ max width columns
    → AllByRecursion IsLine (map (λ x. x.now) (lines ++ line ∷ [])) → new ≡ widest_of (map shown_line (map (λ x. x.now) (lines ++ line ∷ [])))
widest-more lines line width columns new was here is all =
    let texts : List (List ℕ) = map (λ (x : Bor (List ℕ)). x.now) lines in
    let more : map (λ (x : Bor (List ℕ)). x.now) (lines ++ line ∷ []) ≡ texts ++ (line.now ∷ []) = map-append (λ (x : Bor (List ℕ)). x.now) lines (line ∷ []) in
    let parts = all-parts IsLine texts (line.now ∷ []) (subst (AllByRecursion IsLine) more all) in
    is ∙ ap₂ max (was parts.0) (here parts.1.0)
    ∙ sym (ap (λ ls. widest_of (map shown_line ls)) more ∙ ap widest_of (map-append shown_line texts (line.now ∷ [])) ∙ fold-append (λ most (line : List ℕ). max most (text_width line)) 0 (map shown_line texts) (shown_line line.now ∷ []))
