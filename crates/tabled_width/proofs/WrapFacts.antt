-- A text that is wrapped: no line is too wide but a single piece, and nothing is lost but blanks.
use Rattle.std.proofs.Common.{[], ◌&&◌, ◌++◌, ◌+◌, ◌==◌, ◌∙◌, ◌∷◌, ◌≡◌, ◌≤◌, ◌⊎◌, Bool, List, None, Option, Some, ap, append-nil, append_assoc, arith, cond, false, inl, inr, map, not, refl, subst, sym, true, unwrap_or, ℕ}
use Rattle.std.proofs.lemmas.Bool.{and_parts, cases_Bool, eqb-false, false≢true, not-true, or_cases}
use Rattle.std.proofs.lemmas.Simd.{map-map}
use Rattle.std.proofs.lemmas.List.Elements.{filter-append}
use Rattle.std.proofs.lemmas.List.Sums.{sum_by-append, sum_by-cons}
use Rattle.std.specs.List.{AllByRecursion, concat, filter, join_with_byte, list_all}
use Rattle.tabled_width.proofs.Chains.{Chain, Follows, Next, chain, chain-back, chain-front, chain-sum, concat-append}
use Rattle.tabled_width.proofs.Characters.{printable-stays}
use Rattle.tabled_width.proofs.OwnPieces.{IsPiece, line-pieces, own, pieces-of_lines}
use Rattle.tabled_width.proofs.PieceTexts.{concat-pieces}
use Rattle.tabled_width.proofs.Spaces.{just-is}
use Rattle.tabled_width.proofs.WrapFits.{put-same}
use Rattle.tabled_width.proofs.WrapLines.{put-line, put-text}
use Rattle.tabled_width.specs.Columns.{text_width}
use Rattle.tabled_width.specs.Laws.{IsLine}
use Rattle.tabled_width.specs.Pieces.{columns_in, ends_in_half_a_flag, is_just, is_space, last_cluster, last_of, pieces, stays}
use Rattle.tabled_width.specs.WrapLaws.{AreNarrow, IsNarrow, IsWrapped, IsWrappedLine, is_of_word, lines_in}
use Rattle.tabled_width.specs.WrapSteps.{all_fit, begins_word, placed, placed_in_line, put_by, put_from, word_fits}
use Rattle.tabled_width.specs.Wraps.{fits, used_then, wrapped_characters, wrapped_line}
use Rattle.tabled_width.specs.declared.wrapping.Placed.{Placed}
use borrow.Author.Tests.{le-leb, leb-true}

-- ---- what is put for a piece, by cases

-- a blank turns the line, or goes
abbrev pub turns : ℕ → Bool → Option ℕ → List ℕ → List (List ℕ) → Bool
turns n keeps used p ps = keeps && (is_just 32 p && not (word_fits n used ps))

pub placed-cases : (n : ℕ) (keeps : Bool) (used : Option ℕ) (p : List ℕ) (ps : List (List ℕ)) (P : List ℕ → Type 0)
    → (p ≡ 10 ∷ [] → P (10 ∷ put_from n keeps None ps))
    → (p ≡ 32 ∷ [] → P (10 ∷ put_from n keeps None ps))
    → (p ≡ 32 ∷ [] → begins_word ps ≡ false → P (put_from n keeps used ps))
    → (is_just 10 p ≡ false → turns n keeps used p ps ≡ false → fits n used (text_width p) ≡ true → P (p ++ put_from n keeps (Some (unwrap_or used 0 + text_width p)) ps))
    → (is_just 10 p ≡ false → turns n keeps used p ps ≡ false → fits n used (text_width p) ≡ false → P (10 ∷ (p ++ put_from n keeps (Some (text_width p)) ps)))
    → P (put_from n keeps used (p ∷ ps))
placed-cases n keeps used p ps P ends turn goes fit next = choose (cases_Bool (is_just 10 p))
  where
    Put : Placed → List ℕ
    Put q = put_by q p ++ put_from n keeps q.used ps

    in_line : is_just 10 p ≡ false → turns n keeps used p ps ≡ false → P (put_by (placed_in_line n used (text_width p)) p ++ put_from n keeps (Some (used_then n used (text_width p))) ps)
    in_line apart stays_in = fitted (cases_Bool (fits n used (text_width p)))
      where
        fitted : (fits n used (text_width p) ≡ true) ⊎ (fits n used (text_width p) ≡ false) → P ((cond (not (fits n used (text_width p))) (10 ∷ []) [] ++ p) ++ put_from n keeps (Some (cond (fits n used (text_width p)) (unwrap_or used 0 + text_width p) (text_width p))) ps)
        fitted (inl is) = rw is (fit apart stays_in is)
        fitted (inr other) = rw other (next apart stays_in other)

    later : is_just 10 p ≡ false → (turns n keeps used p ps ≡ true) ⊎ (turns n keeps used p ps ≡ false) → P (put_from n keeps used (p ∷ ps))
    later apart (inr not_so) =
        let is : placed n keeps used p ps ≡ placed_in_line n used (text_width p) = rw (apart, not_so) refl in
        subst P (ap (λ (q : Placed). put_by q p ++ put_from n keeps q.used ps) (sym is)) (in_line apart not_so)
    later apart (inl so) =
        let blank = just-is 32 p (and_parts (is_just 32 p) (not (word_fits n used ps)) (and_parts keeps (is_just 32 p && not (word_fits n used ps)) so).1).0 in
        blank_later blank (cases_Bool (begins_word ps))
      where
        blank_later : p ≡ 32 ∷ [] → (begins_word ps ≡ true) ⊎ (begins_word ps ≡ false) → P (put_from n keeps used (p ∷ ps))
        blank_later blank (inl some) =
            let is : placed n keeps used p ps ≡ record { breaks = true; is_put = false; used = None } = rw (apart, so, some) refl in
            subst P (ap (λ (q : Placed). put_by q p ++ put_from n keeps q.used ps) (sym is)) (turn blank)
        blank_later blank (inr none) =
            let is : placed n keeps used p ps ≡ record { breaks = false; is_put = false; used = used } = rw (apart, so, none) refl in
            subst P (ap (λ (q : Placed). put_by q p ++ put_from n keeps q.used ps) (sym is)) (goes blank none)

    choose : (is_just 10 p ≡ true) ⊎ (is_just 10 p ≡ false) → P (put_from n keeps used (p ∷ ps))
    choose (inr apart) = later apart (cases_Bool (turns n keeps used p ps))
    choose (inl is) =
        let end : placed n keeps used p ps ≡ record { breaks = true; is_put = false; used = None } = rw is refl in
        subst P (ap (λ (q : Placed). put_by q p ++ put_from n keeps q.used ps) (sym end)) (ends (just-is 10 p is))

-- ---- nothing is lost but blanks

pub put-kept : (n : ℕ) (keeps : Bool) (used : Option ℕ) (ps : List (List ℕ)) → filter is_of_word (put_from n keeps used ps) ≡ filter is_of_word (concat ps)
put-kept n keeps used [] = refl
put-kept n keeps used (p ∷ ps) = placed-cases n keeps used p ps (λ cs. filter is_of_word cs ≡ filter is_of_word (p ++ concat ps))
    (λ is. rw is (put-kept n keeps None ps))
    (λ is. rw is (put-kept n keeps None ps))
    (λ is none. rw is (put-kept n keeps used ps))
    (λ apart _ fit. filter-append is_of_word p (put_from n keeps (Some (unwrap_or used 0 + text_width p)) ps) ∙ ap (λ xs. filter is_of_word p ++ xs) (put-kept n keeps (Some (unwrap_or used 0 + text_width p)) ps) ∙ sym (filter-append is_of_word p (concat ps)))
    (λ apart _ over. filter-append is_of_word p (put_from n keeps (Some (text_width p)) ps) ∙ ap (λ xs. filter is_of_word p ++ xs) (put-kept n keeps (Some (text_width p)) ps) ∙ sym (filter-append is_of_word p (concat ps)))

-- ---- lines

line-turn : (cur more : List ℕ) → IsLine cur → lines_in (cur ++ 10 ∷ more) ≡ cur ∷ lines_in more
line-turn [] more h = refl
line-turn (c ∷ cur) more h =
    let parts = and_parts (not (c == 10)) (list_all (λ d. not (d == 10)) cur) h in
    rw (not-true (c == 10) parts.0, line-turn cur more parts.1) refl

line-end : (cur : List ℕ) → IsLine cur → lines_in cur ≡ cur ∷ []
line-end [] h = refl
line-end (c ∷ cur) h =
    let parts = and_parts (not (c == 10)) (list_all (λ d. not (d == 10)) cur) h in
    rw (not-true (c == 10) parts.0, line-end cur parts.1) refl

line-both : (xs ys : List ℕ) → IsLine xs → IsLine ys → IsLine (xs ++ ys)
line-both [] ys h g = g
line-both (x ∷ xs) ys h g =
    let parts = and_parts (not (x == 10)) (list_all (λ d. not (d == 10)) xs) h in
    rw parts.0 (line-both xs ys parts.1 g)

-- the pieces of the line that is filled, and the columns that it is known to have
abbrev Filled : ℕ → List (List ℕ) → Option ℕ → Type 0
Filled n line None = line ≡ []
Filled n line (Some used) = (used ≡ columns_in line) × ((columns_in line ≤ n) ⊎ ((p : List ℕ) × (line ≡ p ∷ []) × (pieces p ≡ p ∷ [])))

no_columns : text_width [] ≡ 0
no_columns = chain-sum [] tt refl

filled-narrow : (n : ℕ) (line : List (List ℕ)) (used : Option ℕ) → Filled n line used → Chain line → IsLine (concat line) → IsNarrow n (concat line)
filled-narrow n line None is h l = inl (omega (arith, ap (λ ps. text_width (concat ps)) is, no_columns))
filled-narrow n line (Some used) is h l = narrow-line is.1
  where
    narrow-line : (columns_in line ≤ n) ⊎ ((p : List ℕ) × (line ≡ p ∷ []) × (pieces p ≡ p ∷ [])) → IsNarrow n (concat line)
    narrow-line (inl fit) = inl (omega (arith, fit, chain-sum line h l))
    narrow-line (inr one) =
        let whole : concat line ≡ one.0 = ap concat one.1 ∙ append-nil one.0 in
        inr (ap pieces whole ∙ one.2 ∙ ap (λ xs. xs ∷ []) (sym whole))

one_more : (line : List (List ℕ)) (p : List ℕ) → columns_in (line ++ p ∷ []) ≡ columns_in line + text_width p
one_more line p = sum_by-append text_width line (p ∷ []) ∙ ap (λ k. columns_in line + k) (sum_by-cons text_width p [] ∙ (let e : text_width p + 0 ≡ text_width p = omega arith in e))

filled-more : (n : ℕ) (line : List (List ℕ)) (used : Option ℕ) (p : List ℕ) → pieces p ≡ p ∷ [] → Filled n line used → fits n used (text_width p) ≡ true → Filled n (line ++ p ∷ []) (Some (unwrap_or used 0 + text_width p))
filled-more n line None p own is fit =
    let all : line ++ p ∷ [] ≡ p ∷ [] = ap (λ ps. ps ++ p ∷ []) is in
    (ap (λ k. k + text_width p) (ap columns_in (sym is)) ∙ sym (one_more line p), inr (p, all, own))
filled-more n line (Some used) p own is fit =
    let sum = one_more line p in
    (ap (λ k. k + text_width p) is.0 ∙ sym sum, inl (omega (arith, sum, is.0, leb-true (used + text_width p) n fit)))

filled-one : (n : ℕ) (p : List ℕ) → pieces p ≡ p ∷ [] → Filled n (p ∷ []) (Some (text_width p))
filled-one n p own = ((let e : text_width p ≡ text_width p + 0 = omega arith in e) ∙ sym (sum_by-cons text_width p []), inr (p, refl, own))

-- before a blank or a newline any piece ends
stays-blank : (p : List ℕ) → stays p 32 ≡ false
stays-blank p = blank-apart (cases_Bool (last_of p == 10))
  where
    blank-apart : ((last_of p == 10) ≡ true) ⊎ ((last_of p == 10) ≡ false) → stays p 32 ≡ false
    blank-apart (inl is) = rw is refl
    blank-apart (inr other) = printable-stays 32 (omega arith) (omega arith) (last_of p) (ends_in_half_a_flag p) (last_cluster p) (eqb-false (last_of p) 10 other) ∙ never (last_of p == 0x200D)
      where
        never : (b : Bool) → (b && false) ≡ false
        never true = refl
        never false = refl

stays-end : (p : List ℕ) → stays p 10 ≡ false
stays-end p = refl

-- a blank that goes, before a space or at the end
next-past : (p : List ℕ) (ps : List (List ℕ)) → begins_word ps ≡ false → Next p ps
next-past p [] none = tt
next-past p (q ∷ ps) none = blank-follows (or_cases (is_just 32 q) (is_just 10 q) (not_false (is_space q) none))
  where
    not_false : (b : Bool) → not b ≡ false → b ≡ true
    not_false true h = refl
    not_false false h = absurd (false≢true (sym h))

    blank-follows : (is_just 32 q ≡ true) ⊎ (is_just 10 q ≡ true) → Follows p q
    blank-follows (inl is) = record { some = record { head = 32; tail = []; is = just-is 32 q is }; parted = stays-blank p }
    blank-follows (inr is) = record { some = record { head = 10; tail = []; is = just-is 10 q is }; parted = stays-end p }

chain-past : (line : List (List ℕ)) (p : List ℕ) (ps : List (List ℕ)) → begins_word ps ≡ false → Chain (line ++ p ∷ ps) → Chain (line ++ ps)
chain-past [] p ps none h = h.1.1
chain-past (q ∷ []) p ps none h = (h.0, (next-past q ps none, h.1.1.1.1))
chain-past (q ∷ r ∷ line) p ps none h = (h.0, (h.1.0, chain-past (r ∷ line) p ps none h.1.1))

-- ---- no line is too wide

put-narrow : (n : ℕ) (keeps : Bool) (ps line : List (List ℕ)) (used : Option ℕ) → Filled n line used → Chain (line ++ ps) → IsLine (concat line) → AllByRecursion IsPiece ps → AreNarrow n (concat line ++ put_from n keeps used ps)
put-narrow n keeps [] line used is h l all =
    let h2 : Chain line = subst Chain (append-nil line) h in
    rw (append-nil (concat line), line-end (concat line) l) (filled-narrow n line used is h2 l, tt)
put-narrow n keeps (p ∷ ps) line used is h l all = placed-cases n keeps used p ps (λ cs. AreNarrow n (concat line ++ cs))
    (λ _. turn (put-narrow n keeps ps [] None refl (chain-back (p ∷ []) ps (chain-back line (p ∷ ps) h)) refl all.1))
    (λ _. turn (put-narrow n keeps ps [] None refl (chain-back (p ∷ []) ps (chain-back line (p ∷ ps) h)) refl all.1))
    (λ _ none. put-narrow n keeps ps line used is (chain-past line p ps none h) l all.1)
    (λ apart _ fit.
    let more = put-narrow n keeps ps (line ++ p ∷ []) (Some (unwrap_or used 0 + text_width p)) (filled-more n line used p all.0.one is fit) (subst Chain (sym (append_assoc line (p ∷ []) ps)) h) (subst IsLine (sym (added_piece p)) (line-both (concat line) p l (all.0.line apart))) all.1 in
    subst (AreNarrow n) (ap (λ xs. xs ++ put_from n keeps (Some (unwrap_or used 0 + text_width p)) ps) (added_piece p) ∙ append_assoc (concat line) p (put_from n keeps (Some (unwrap_or used 0 + text_width p)) ps)) more)
    (λ apart _ over.
    let more = put-narrow n keeps ps (p ∷ []) (Some (text_width p)) (filled-one n p all.0.one) (chain-back line (p ∷ ps) h) (subst IsLine (sym (append-nil p)) (all.0.line apart)) all.1 in
    rw (line-turn (concat line) (p ++ put_from n keeps (Some (text_width p)) ps) l) (mine, subst (AreNarrow n) (ap (λ xs. xs ++ put_from n keeps (Some (text_width p)) ps) (append-nil p)) more))
  where
    added_piece : (q : List ℕ) → concat (line ++ q ∷ []) ≡ concat line ++ q
    added_piece q = concat-append line (q ∷ []) ∙ ap (λ xs. concat line ++ xs) (append-nil q)

    mine : IsNarrow n (concat line)
    mine = filled-narrow n line used is (chain-front line (p ∷ ps) h) l

    turn : AreNarrow n (put_from n keeps None ps) → AreNarrow n (concat line ++ 10 ∷ put_from n keeps None ps)
    turn more = rw (line-turn (concat line) (put_from n keeps None ps) l) (mine, more)

-- ---- a line, and a text

-- what is put for the pieces of some characters
abbrev put : ℕ → Bool → List ℕ → List ℕ
put n keeps cs = put_from n keeps None (pieces cs)

narrow : (n : ℕ) (keeps : Bool) (cs : List ℕ) → AreNarrow n (put n keeps cs)
narrow n keeps cs = put-narrow n keeps (pieces cs) [] None refl (chain cs) refl (own cs)

kept : (n : ℕ) (keeps : Bool) (cs : List ℕ) → filter is_of_word (put n keeps cs) ≡ filter is_of_word cs
kept n keeps cs = put-kept n keeps None (pieces cs) ∙ ap (filter is_of_word) (concat-pieces cs)

-- a line that fits, piece by piece
line_fits : (n used : ℕ) (ps : List (List ℕ)) → list_all (λ p. not (is_just 10 p)) ps ≡ true → used + columns_in ps ≤ n → all_fit n used ps ≡ true
line_fits n used [] h fit = refl
line_fits n used (p ∷ ps) h fit =
    let parts = and_parts (not (is_just 10 p)) (list_all (λ q. not (is_just 10 q)) ps) h in
    let columns : used + (text_width p + columns_in ps) ≤ n = rw (sum_by-cons text_width p ps) at fit in
    rw (not-true (is_just 10 p) parts.0, le-leb (used + text_width p) n (omega (arith, columns))) (line_fits n (used + text_width p) ps parts.1 (omega (arith, columns)))

line-same : (n : ℕ) (keeps : Bool) (line : List ℕ) → IsLine line → text_width line ≤ n → put n keeps line ≡ line
line-same n keeps line h fit =
    let sum : text_width line ≡ columns_in (pieces line) = ap text_width (sym (concat-pieces line)) ∙ chain-sum (pieces line) (chain line) (subst IsLine (sym (concat-pieces line)) h) in
    put-same n keeps None (pieces line) (omega arith) (line_fits n 0 (pieces line) (line-pieces line h) (omega (arith, sum, fit))) ∙ concat-pieces line

line-wrapped : (n : ℕ) (keeps : Bool) (line : List ℕ) → IsLine line → IsWrappedLine n line (wrapped_line n keeps (pieces line))
line-wrapped n keeps line h = subst (IsWrappedLine n line) (put-line n keeps (pieces line) (line-pieces line h)) (record {
  narrow = narrow n keeps line;
  kept = kept n keeps line;
  same = line-same n keeps line h;
})

pub text-wrapped : (n : ℕ) (keeps : Bool) (cs : List ℕ) → IsWrapped n cs (wrapped_characters n keeps cs)
text-wrapped n keeps cs = record {
  narrow = subst (AreNarrow n) (put-text n keeps cs) (narrow n keeps cs);
  kept = ap (filter is_of_word) (sym (put-text n keeps cs)) ∙ kept n keeps cs;
  new_line = λ line. wrapped_line n keeps (pieces line);
  each = line-wrapped n keeps;
  whole = ap (λ ls. join_with_byte 10 (map (wrapped_line n keeps) ls)) (pieces-of_lines cs) ∙ ap (join_with_byte 10) (map-map (wrapped_line n keeps) pieces (lines_in cs));
}
