-- A text that is cut character by character is parted.
use Rattle.tabled_spans.proofs.Common.{[], ◌++◌, ◌+◌, ◌<◌, ◌∙◌, ◌∷◌, ◌≡◌, ◌≤◌, ◌⊎◌, AreParts, Begins, IsCut, IsCutLine, List, Placed, and_parts, ap, append_assoc, arith, cases_Bool, character_columns, columns_in, common_steps, concat, cond, eq-eqb, eqb, eqb-false, false, inl, inr, join_with_byte, last_replaced, le-leb, list_all, lt-leb, map, nat_le, ne_eqb, not, not-true, pieces, placed, refl, shown, slice_split, subst, sym, true, ℕ}
use Rattle.std.proofs.lemmas.Bool.Decides.{eqb_tells, leb_tells}
use Rattle.std.proofs.lemmas.List.{append-nil}
use Rattle.std.proofs.lemmas.List.Sums.{sum_by-cons, sum_by_push}
use Rattle.std.proofs.lemmas.List.Splits.{join_with_byte-slice_split}

nowhere : (front rest : List ℕ) (c : ℕ) → [] ≡ front ++ (c ∷ rest) → ⊥
nowhere [] rest c e = cc
nowhere (x ∷ front) rest c e = cc

-- no character with a column stands after n columns
abbrev IsShort : ℕ → List ℕ → Type 0
IsShort width part = (front rest : List ℕ) (c : ℕ) → part ≡ front ++ (c ∷ rest) → 1 ≤ character_columns c → columns_in front < width

-- a character that is put after others is the last one, or some other is meant
last_or_before : (cs front rest : List ℕ) (c d : ℕ) → cs ++ (c ∷ []) ≡ front ++ (d ∷ rest) → ((cs ≡ front) × (c ≡ d)) ⊎ ((less : List ℕ) × (cs ≡ front ++ (d ∷ less)))
last_or_before [] [] rest c d e = inl (refl, cc)
last_or_before [] (x ∷ front) rest c d e = absurd (nowhere front rest d (cc))
last_or_before (y ∷ cs) [] rest c d e = inr (cs, cc)
last_or_before (y ∷ cs) (x ∷ front) rest c d e =
    let same : y ≡ x = cc in
    elim (last_or_before cs front rest c d (cc)) [
      | inl last ↦ inl (ap (λ z. z ∷ cs) same ∙ ap (λ zs. x ∷ zs) last.0, last.1)
      | inr before ↦ inr (before.0, ap (λ z. z ∷ cs) same ∙ ap (λ zs. x ∷ zs) before.1)
    ]

short_more : (width : ℕ) (part : List ℕ) (c : ℕ) → IsShort width part → (1 ≤ character_columns c → columns_in part < width) → IsShort width (part ++ (c ∷ []))
short_more width part c short here front rest d is some = grind (arith, common_steps, last_or_before)

-- a character without columns goes after what is replaced
replaced_on : (cs : List ℕ) (c : ℕ) → character_columns c ≡ 0 → 1 ≤ columns_in cs → last_replaced (cs ++ (c ∷ [])) ≡ last_replaced cs ++ (c ∷ [])
replaced_on [] c none some = absurd (omega (arith, some))
replaced_on (d ∷ cs) c none some =
    let more : columns_in (cs ++ (c ∷ [])) ≡ columns_in cs = omega (arith, sum_by_push character_columns cs c, none) in
    elim (cases_Bool (eqb (columns_in cs) 0)) [
      | inl is ↦ rw (more, is) refl
      | inr is ↦ let apart = eqb-false _ _ is in rw (more, is) (ap (λ xs. d ∷ xs) (replaced_on cs c none (omega (arith, apart))))
    ]

-- a character with columns after others is the one that is replaced
replaced_last : (cs : List ℕ) (c : ℕ) → 1 ≤ character_columns c → last_replaced (cs ++ (c ∷ [])) ≡ cs ++ (0xFFFD ∷ [])
replaced_last [] c some = refl
replaced_last (d ∷ cs) c some =
    let more : eqb (columns_in (cs ++ (c ∷ []))) 0 ≡ false = ne_eqb (columns_in (cs ++ (c ∷ []))) 0 (λ e. omega (arith, e, sum_by_push character_columns cs c, some)) in
    rw more (ap (λ xs. d ∷ xs) (replaced_last cs c some))

shown_whole : (width : ℕ) (part : List ℕ) → columns_in part ≤ width → shown width part ≡ part
shown_whole width part fits = rw (le-leb _ _ fits) refl

shown_cut : (width : ℕ) (part : List ℕ) → width < columns_in part → shown width part ≡ last_replaced part
shown_cut width part over = rw (lt-leb _ _ over) refl

-- how many columns count: as many as there are, or the width where there are more
record Counted (width : ℕ) (part : List ℕ) (used : ℕ) : Type 0 where
  most : used ≤ columns_in part
  all : used < width → used ≡ columns_in part

-- a character goes to the part before it
record Put (width : ℕ) (part : List ℕ) (c : ℕ) (p : Placed) : Type 0 where
  begins : p.begins ≡ false
  short : IsShort width (part ++ (c ∷ []))
  counted : Counted width (part ++ (c ∷ [])) p.used
  is_shown : shown width (part ++ (c ∷ [])) ≡ shown width part ++ (p.character ∷ [])

-- a character begins the next part
record Next (width : ℕ) (part : List ℕ) (c : ℕ) (p : Placed) : Type 0 where
  begins : p.begins ≡ true
  full : width ≤ columns_in part
  some : 1 ≤ character_columns c
  short : IsShort width (c ∷ [])
  counted : Counted width (c ∷ []) p.used
  is_shown : shown width (c ∷ []) ≡ p.character ∷ []

module _ (width : ℕ) (wide : 1 ≤ width) (part : List ℕ) (used c : ℕ) (short : IsShort width part) (counted : Counted width part used) (within : eqb c 10 ≡ false) where
  sum : columns_in (part ++ (c ∷ [])) ≡ columns_in part + character_columns c
  sum = sum_by_push character_columns part c

  one : columns_in (c ∷ []) ≡ character_columns c
  one = sum_by-cons character_columns c [] ∙ omega arith

  without : character_columns c ≡ 0 → Put width part c (placed width used c)
  without none =
      let is : placed width used c ≡ record { begins = false; character = c; used = used } = rw (within, eq-eqb _ _ none) refl in
      subst (Put width part c) (sym is) (record {
        begins = refl;
        short = short_more width part c short (λ some. absurd (omega (arith, none, some)));
        counted = record { most = omega (arith, sum, none, counted.most); all = λ less. omega (arith, sum, none, counted.all less) };
        is_shown = elim (leb_tells (columns_in part) width) [
          | inl (t, fits) ↦ shown_whole width (part ++ (c ∷ [])) (omega (arith, sum, none, fits)) ∙ ap (λ xs. xs ++ (c ∷ [])) (sym (shown_whole width part fits))
          | inr (f, over) ↦ shown_cut width (part ++ (c ∷ [])) (omega (arith, sum, none, over)) ∙ replaced_on part c none (omega (arith, over)) ∙ ap (λ xs. xs ++ (c ∷ [])) (sym (shown_cut width part over))
        ];
      })

  behind : 1 ≤ character_columns c → used < width → Put width part c (placed width used c)
  behind some less = put-behind (leb_tells (used + character_columns c) width)
    where
      fits : columns_in part < width
      fits = omega (arith, counted.all less, less)

      put-behind : ((nat_le (used + character_columns c) width ≡ true) × (used + character_columns c ≤ width)) ⊎ ((nat_le (used + character_columns c) width ≡ false) × (width < used + character_columns c)) → Put width part c (placed width used c)
      put-behind (inl (t, room)) =
          let is : placed width used c ≡ record { begins = false; character = c; used = used + character_columns c } = rw (within, ne_eqb (character_columns c) 0 (λ e. omega (arith, e, some)), lt-leb _ _ less, t) refl in
          subst (Put width part c) (sym is) (record {
            begins = refl;
            short = short_more width part c short (λ _. fits);
            counted = record { most = omega (arith, sum, counted.most); all = λ _. omega (arith, sum, counted.all less) };
            is_shown = shown_whole width (part ++ (c ∷ [])) (omega (arith, sum, counted.all less, room)) ∙ ap (λ xs. xs ++ (c ∷ [])) (sym (shown_whole width part (omega (arith, fits))));
          })
      put-behind (inr (f, over)) =
          let is : placed width used c ≡ record { begins = false; character = 0xFFFD; used = width } = rw (within, ne_eqb (character_columns c) 0 (λ e. omega (arith, e, some)), lt-leb _ _ less, f) refl in
          subst (Put width part c) (sym is) (record {
            begins = refl;
            short = short_more width part c short (λ _. fits);
            counted = record { most = omega (arith, sum, counted.most, over); all = λ h. absurd (omega (arith, h)) };
            is_shown = shown_cut width (part ++ (c ∷ [])) (omega (arith, sum, counted.all less, over)) ∙ replaced_last part c some ∙ ap (λ xs. xs ++ (0xFFFD ∷ [])) (sym (shown_whole width part (omega (arith, fits))));
          })

  alone : IsShort width (c ∷ [])
  alone = short_more width [] c (λ front rest d is. absurd (nowhere front rest d is)) (λ _. omega (arith, wide))

  next : 1 ≤ character_columns c → width ≤ used → Next width part c (placed width used c)
  next some full = grind (arith, common_steps, leb_tells, le-leb, alone, one, shown_whole, shown_cut, replaced_last)

-- the rest of a line, whose first characters are already in a part
record Parted (width : ℕ) (part cs new : List ℕ) : Type 0 where
  more : List ℕ
  others : List (List ℕ)
  are : AreParts width (part ++ cs) ((part ++ more) ∷ others)
  is_shown : join_with_byte 10 (map (shown width) ((part ++ more) ∷ others)) ≡ shown width part ++ new

parted_none : (width : ℕ) (part : List ℕ) → IsShort width part → Parted width part [] []
parted_none width part short = record {
  more = [];
  others = [];
  are = record {
    whole = append-nil (part ++ []);
    full = λ before after a b is. absurd (lone before after a b is);
    begins = λ before after a b is. absurd (lone before after a b is);
    short = λ before after front rest c is some. only before after front rest c is some;
  };
  is_shown = ap (shown width) (append-nil part) ∙ sym (append-nil (shown width part));
}
  where
    lone : (before after : List (List ℕ)) (a b : List ℕ) → (part ++ []) ∷ [] ≡ before ++ (a ∷ b ∷ after) → ⊥
    lone [] after a b is = cc
    lone (x ∷ []) after a b is = cc
    lone (x ∷ y ∷ before) after a b is = cc

    only : (before after : List (List ℕ)) (front rest : List ℕ) (c : ℕ) → (part ++ []) ∷ [] ≡ before ++ ((front ++ (c ∷ rest)) ∷ after) → 1 ≤ character_columns c → columns_in front < width
    only [] after front rest c is some = short front rest c (cc (append-nil part)) some
    only (x ∷ []) after front rest c is some = cc
    only (x ∷ y ∷ before) after front rest c is some = cc

-- a part is ended, and the next one begins with a character
parted_next : (width : ℕ) (part : List ℕ) (c : ℕ) (cs new : List ℕ) → IsShort width part → width ≤ columns_in part → 1 ≤ character_columns c → Parted width (c ∷ []) cs new → Parted width part (c ∷ cs) (10 ∷ (shown width (c ∷ []) ++ new))
parted_next width part c cs new short full some later = record {
  more = [];
  others = (c ∷ later.more) ∷ later.others;
  are = record {
    whole = ap (λ xs. xs ++ concat ((c ∷ later.more) ∷ later.others)) (append-nil part) ∙ ap (λ xs. part ++ xs) later.are.whole;
    full = full_at;
    begins = begins_at;
    short = short_at;
  };
  is_shown = ap (λ p. shown width p ++ (10 ∷ join_with_byte 10 (map (shown width) ((c ∷ later.more) ∷ later.others)))) (append-nil part) ∙ ap (λ xs. shown width part ++ (10 ∷ xs)) later.is_shown;
}
  where
    all : List (List ℕ)
    all = (part ++ []) ∷ (c ∷ later.more) ∷ later.others

    full_at : (before after : List (List ℕ)) (a b : List ℕ) → all ≡ before ++ (a ∷ b ∷ after) → width ≤ columns_in a
    full_at [] after a b is = let same : part ≡ a = cc (append-nil part) in rw (← same) full
    full_at (x ∷ before) after a b is = later.are.full before after a b (cc)

    begins_at : (before after : List (List ℕ)) (a b : List ℕ) → all ≡ before ++ (a ∷ b ∷ after) → Begins b
    begins_at [] after a b is = (c, later.more, cc, some)
    begins_at (x ∷ before) after a b is = later.are.begins before after a b (cc)

    short_at : (before after : List (List ℕ)) (front rest : List ℕ) (d : ℕ) → all ≡ before ++ ((front ++ (d ∷ rest)) ∷ after) → 1 ≤ character_columns d → columns_in front < width
    short_at [] after front rest d is has = short front rest d (cc (append-nil part)) has
    short_at (x ∷ before) after front rest d is has = later.are.short before after front rest d (cc) has

-- a character goes to its part
parted_put : (width : ℕ) (part : List ℕ) (c e : ℕ) (cs new : List ℕ) → shown width (part ++ (c ∷ [])) ≡ shown width part ++ (e ∷ []) → Parted width (part ++ (c ∷ [])) cs new → Parted width part (c ∷ cs) (e ∷ new)
parted_put width part c e cs new is later = grind (arith, common_steps, append_assoc)

parted : (width : ℕ) → 1 ≤ width → (cs part : List ℕ) (used : ℕ) → IsShort width part → Counted width part used → list_all (λ c. not (eqb c 10)) cs ≡ true → Parted width part cs (pieces width used cs)
parted width wide [] part used short counted within = parted_none width part short
parted width wide (c ∷ cs) part used short counted within =
    let parts = and_parts (not (eqb c 10)) (list_all (λ d. not (eqb d 10)) cs) within in
    let apart = not-true (eqb c 10) parts.0 in
    let now = (placed width used c).used in
    let put : Put width part c (placed width used c) → Parted width part (c ∷ cs) (pieces width used (c ∷ cs)) = λ h. rw h.begins (parted_put width part c (placed width used c).character cs (pieces width now cs) h.is_shown (parted width wide cs (part ++ (c ∷ [])) now h.short h.counted parts.1)) in
    elim (eqb_tells (character_columns c) 0) [
      | inl none ↦ put (without width wide part used c short counted apart none.1)
      | inr some ↦ elim (leb_tells width used) [
        | inl full ↦
            let h = next width wide part used c short counted apart (omega (arith, some.1)) full.1 in
            rw h.begins (subst (λ xs. Parted width part (c ∷ cs) (10 ∷ (xs ++ pieces width now cs))) h.is_shown (parted_next width part c cs (pieces width now cs) short h.full h.some (parted width wide cs (c ∷ []) now h.short h.counted parts.1)))
        | inr less ↦ put (behind width wide part used c short counted apart (omega (arith, some.1)) less.1)
      ]
    ]

-- a newline ends a piece
cut_at : (width used : ℕ) (line rest : List ℕ) → pieces width used (line ++ (10 ∷ rest)) ≡ pieces width used line ++ (10 ∷ pieces width 0 rest)
cut_at width used [] rest = refl
cut_at width used (c ∷ line) rest =
    ap (λ xs. cond (placed width used c).begins (10 ∷ []) [] ++ ((placed width used c).character ∷ xs)) (cut_at width (placed width used c).used line rest)
    ∙ sym (append_assoc (cond (placed width used c).begins (10 ∷ []) []) ((placed width used c).character ∷ pieces width (placed width used c).used line) (10 ∷ pieces width 0 rest))

cut_each : (width : ℕ) (lines : List (List ℕ)) → pieces width 0 (join_with_byte 10 lines) ≡ join_with_byte 10 (map (pieces width 0) lines)
cut_each width [] = refl
cut_each width (line ∷ []) = refl
cut_each width (line ∷ next ∷ lines) = cut_at width 0 line (join_with_byte 10 (next ∷ lines)) ∙ ap (λ xs. pieces width 0 line ++ (10 ∷ xs)) (cut_each width (next ∷ lines))

line_is_cut : (width : ℕ) → 1 ≤ width → (line : List ℕ) → list_all (λ c. not (eqb c 10)) line ≡ true → IsCutLine width line (pieces width 0 line)
line_is_cut width wide line within =
    let h = parted width wide line [] 0 (λ front rest c is. absurd (nowhere front rest c is)) (record { most = omega arith; all = λ _. refl }) within in
    (h.more ∷ h.others, h.are, ap (λ xs. xs ++ pieces width 0 line) (sym (shown_whole width [] (omega arith))) ∙ sym h.is_shown)

-- the pieces of a text are the parts of its lines
pub text_is_cut : (width : ℕ) → 1 ≤ width → (text : List ℕ) → IsCut width text (pieces width 0 text)
text_is_cut width wide text = record {
  cut_line = pieces width 0;
  each = line_is_cut width wide;
  whole = ap (pieces width 0) (sym (join_with_byte-slice_split 10 text)) ∙ cut_each width (slice_split (λ c. eqb c 10) text);
}
