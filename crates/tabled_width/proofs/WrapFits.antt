-- A text whose lines fit is as it was, wrapped.
use Rattle.std.proofs.Common.{[], ◌&&◌, ◌++◌, ◌+◌, ◌<◌, ◌∙◌, ◌∷◌, ◌≡◌, ◌≤◌, ◌⊎◌, ◌||◌, Bool, List, None, Option, Some, ap, ap₂, arith, cond, encode_utf8_all, false, inl, inr, nat_le, ne_eqb, not, refl, sym, true, unwrap_or, ℕ}
use Rattle.std.proofs.lemmas.Bool.{and_parts, cases_Bool, lt-leb}
use Rattle.std.proofs.lemmas.Bool.Decides.{leb_tells}
use Rattle.std.proofs.lemmas.List.Sums.{sum_by-cons}
use Rattle.std.proofs.lemmas.Str.{encodes-chars}
use Rattle.std.specs.List.{concat, list_all, onto_first, slice_split}
use Rattle.std.specs.Str.{IsUtf8, chars}
use Rattle.tabled_width.proofs.PieceTexts.{concat-pieces}
use Rattle.tabled_width.proofs.Spaces.{just-is}
use Rattle.tabled_width.proofs.WrapLines.{blank_width, first_onto, first_part, in_parts, other_parts, others_onto, put-text}
use Rattle.tabled_width.specs.Columns.{text_width}
use Rattle.tabled_width.specs.Pieces.{columns_in, is_just, pieces}
use Rattle.tabled_width.specs.WrapSteps.{all_fit, begins_word, first_word, placed, placed_in_line, put_by, put_from, word_fits}
use Rattle.tabled_width.specs.Wraps.{all_lines_fit, fits, lines, used_then, wrapped}
use Rattle.tabled_width.specs.declared.wrapping.Placed.{Placed}
use borrow.Author.Tests.{le-leb, leb-true}

-- ---- lines that fit, one by one and piece by piece

abbrev line_fits : ℕ → ℕ → List (List ℕ) → Bool
line_fits n used line = nat_le (used + columns_in line) n

abbrev fit_each : ℕ → List (List (List ℕ)) → Bool
fit_each n all = list_all (λ line. nat_le (columns_in line) n) all

fit_from : (n used : ℕ) (ps : List (List ℕ)) → used ≤ n → all_fit n used ps ≡ (line_fits n used (first_part (slice_split (is_just 10) ps)) && fit_each n (other_parts (slice_split (is_just 10) ps)))
fit_from n used [] h = sym (ap (λ b. b && true) (le-leb (used + 0) n (omega (arith, h))))
fit_from n used (p ∷ ps) h = fit-next (cases_Bool (is_just 10 p)) (fit_from n 0 ps (omega arith)) (λ fits. fit_from n (used + text_width p) ps fits) (leb_tells (used + text_width p) n)
  where
    all : List (List (List ℕ))
    all = slice_split (is_just 10) ps

    columns : columns_in (p ∷ first_part all) ≡ text_width p + columns_in (first_part all)
    columns = sum_by-cons text_width p (first_part all)

    split : is_just 10 p ≡ false → slice_split (is_just 10) (p ∷ ps) ≡ onto_first p all
    split apart = rw apart refl

    wanted : is_just 10 p ≡ false → (line_fits n used (p ∷ first_part all) && fit_each n (other_parts all)) ≡ (line_fits n used (first_part (slice_split (is_just 10) (p ∷ ps))) && fit_each n (other_parts (slice_split (is_just 10) (p ∷ ps))))
    wanted apart = sym (ap₂ (λ line rest. line_fits n used line && fit_each n rest) (ap first_part (split apart) ∙ first_onto p all) (ap other_parts (split apart) ∙ others_onto p all))

    sum : used + text_width p + columns_in (first_part all) ≡ used + columns_in (p ∷ first_part all)
    sum = omega (arith, columns)

    fit-next : (is_just 10 p ≡ true) ⊎ (is_just 10 p ≡ false) → all_fit n 0 ps ≡ (line_fits n 0 (first_part all) && fit_each n (other_parts all)) → (used + text_width p ≤ n → all_fit n (used + text_width p) ps ≡ (line_fits n (used + text_width p) (first_part all) && fit_each n (other_parts all))) → ((nat_le (used + text_width p) n ≡ true) × (used + text_width p ≤ n)) ⊎ ((nat_le (used + text_width p) n ≡ false) × (n < used + text_width p)) → all_fit n used (p ∷ ps) ≡ (line_fits n used (first_part (slice_split (is_just 10) (p ∷ ps))) && fit_each n (other_parts (slice_split (is_just 10) (p ∷ ps))))
    fit-next (inl is) next more t = rw (is, le-leb (used + 0) n (omega (arith, h))) (next ∙ ap (λ k. nat_le k n && fit_each n (other_parts all)) (let e : 0 + columns_in (first_part all) ≡ columns_in (first_part all) = omega arith in e) ∙ ap (fit_each n) (sym (in_parts (is_just 10) ps)))
    fit-next (inr apart) next more (inl t) = (rw (apart, t.0) (more t.1 ∙ ap (λ k. nat_le k n && fit_each n (other_parts all)) sum)) ∙ wanted apart
    fit-next (inr apart) next more (inr t) =
        let over : line_fits n used (p ∷ first_part all) ≡ false = lt-leb _ n (omega (arith, t.1, sum)) in
        (rw (apart, t.0, over) refl) ∙ wanted apart

pub fit-lines : (n : ℕ) (cs : List ℕ) → all_fit n 0 (pieces cs) ≡ all_lines_fit n cs
fit-lines n cs =
    fit_from n 0 (pieces cs) (omega arith)
    ∙ ap (λ k. nat_le k n && fit_each n (other_parts (lines cs))) (let e : 0 + columns_in (first_part (lines cs)) ≡ columns_in (first_part (lines cs)) = omega arith in e)
    ∙ ap (fit_each n) (sym (in_parts (is_just 10) (pieces cs)))

-- ---- what fits stays

fits_parts : (n used : ℕ) (p : List ℕ) (ps : List (List ℕ)) → is_just 10 p ≡ false → all_fit n used (p ∷ ps) ≡ true → (used + text_width p ≤ n) × (all_fit n (used + text_width p) ps ≡ true)
fits_parts n used p ps apart h =
    let parts = and_parts (nat_le (used + text_width p) n) (all_fit n (used + text_width p) ps) (rw apart at h) in
    (leb-true _ _ parts.0, parts.1)

-- where each line fits, so does the first word
first_fits : (n used : ℕ) (ps : List (List ℕ)) → used ≤ n → all_fit n used ps ≡ true → used + columns_in (first_word ps) ≤ n
first_fits n used [] within h = omega (arith, within)
first_fits n used (p ∷ ps) within h = first-next (cases_Bool (is_just 32 p)) (cases_Bool (is_just 10 p)) (λ k. first_fits n k ps)
  where
    first-next : (is_just 32 p ≡ true) ⊎ (is_just 32 p ≡ false) → (is_just 10 p ≡ true) ⊎ (is_just 10 p ≡ false) → ((k : ℕ) → k ≤ n → all_fit n k ps ≡ true → k + columns_in (first_word ps) ≤ n) → used + columns_in (cond (is_just 32 p || is_just 10 p) [] (p ∷ first_word ps)) ≤ n
    first-next (inl is) newline more = rw is (omega (arith, within))
    first-next (inr apart) (inl is) more = rw (apart, is) (omega (arith, within))
    first-next (inr apart) (inr no_newline) more =
        let parts = fits_parts n used p ps no_newline h in
        rw (apart, no_newline, sum_by-cons text_width p (first_word ps)) (omega (arith, more (used + text_width p) parts.0 parts.1))

fits_line : (n : ℕ) (used : Option ℕ) (columns : ℕ) → unwrap_or used 0 + columns ≤ n → (fits n used columns ≡ true) × (used_then n used columns ≡ unwrap_or used 0 + columns)
fits_line n None columns h = (refl, refl)
fits_line n (Some used) columns h = let one = le-leb (used + columns) n h in (one, rw one refl)

pub put-same : (n : ℕ) (keeps : Bool) (used : Option ℕ) (ps : List (List ℕ)) → unwrap_or used 0 ≤ n → all_fit n (unwrap_or used 0) ps ≡ true → put_from n keeps used ps ≡ concat ps
put-same n keeps used [] within h = refl
put-same n keeps used (p ∷ ps) within h = put-next (cases_Bool (is_just 10 p)) (λ k. put-same n keeps k ps)
  where
    More : Type 0
    More = (k : Option ℕ) → unwrap_or k 0 ≤ n → all_fit n (unwrap_or k 0) ps ≡ true → put_from n keeps k ps ≡ concat ps

    in_line : (is_just 10 p ≡ false) → placed n keeps used p ps ≡ placed_in_line n used (text_width p)
    in_line apart = rw apart (choose (cases_Bool (is_just 32 p)))
      where
        choose : (is_just 32 p ≡ true) ⊎ (is_just 32 p ≡ false) → cond (keeps && (is_just 32 p && not (word_fits n used ps))) (cond (begins_word ps) (record { breaks = true; is_put = false; used = None }) (record { breaks = false; is_put = false; used = used })) (placed_in_line n used (text_width p)) ≡ placed_in_line n used (text_width p)
        choose (inr other) = rw other (never keeps)
          where
            never : (b : Bool) → cond (b && false) (cond (begins_word ps) (record { breaks = true; is_put = false; used = None }) (record { breaks = false; is_put = false; used = used })) (placed_in_line n used (text_width p)) ≡ placed_in_line n used (text_width p)
            never true = refl
            never false = refl
        choose (inl is) =
            let parts = fits_parts n (unwrap_or used 0) p ps apart h in
            let one : text_width p ≡ 1 = ap text_width (just-is 32 p is) ∙ blank_width in
            let word = first_fits n (unwrap_or used 0 + text_width p) ps parts.0 parts.1 in
            let yes : word_fits n used ps ≡ true = le-leb _ n (omega (arith, word, one)) in
            rw (is, yes) (never keeps)
          where
            never : (b : Bool) → cond (b && false) (cond (begins_word ps) (record { breaks = true; is_put = false; used = None }) (record { breaks = false; is_put = false; used = used })) (placed_in_line n used (text_width p)) ≡ placed_in_line n used (text_width p)
            never true = refl
            never false = refl

    other : is_just 10 p ≡ false → More → put_from n keeps used (p ∷ ps) ≡ p ++ concat ps
    other apart more =
        let parts = fits_parts n (unwrap_or used 0) p ps apart h in
        let one = fits_line n used (text_width p) parts.0 in
        let then : used_then n used (text_width p) ≡ unwrap_or used 0 + text_width p = one.1 in
        ap (λ (q : Placed). put_by q p ++ put_from n keeps q.used ps) (in_line apart)
        ∙ put (fits n used (text_width p)) one.0
        ∙ ap (λ xs. p ++ xs) (ap (λ k. put_from n keeps (Some k) ps) then ∙ more (Some (unwrap_or used 0 + text_width p)) parts.0 parts.1)
      where
        put : (b : Bool) → b ≡ true → (cond (not b) (10 ∷ []) [] ++ p) ++ put_from n keeps (Some (used_then n used (text_width p))) ps ≡ p ++ put_from n keeps (Some (used_then n used (text_width p))) ps
        put b e = rw e refl

    put-next : (is_just 10 p ≡ true) ⊎ (is_just 10 p ≡ false) → More → put_from n keeps used (p ∷ ps) ≡ p ++ concat ps
    put-next (inl is) more = rw (just-is 10 p is) (ap (λ xs. 10 ∷ xs) (more None (omega arith) (rw is at h)))
    put-next (inr apart) more = other apart more

-- a text whose lines fit is as it was
pub text-same : (n : ℕ) → 1 ≤ n → (keeps : Bool) (text : List ℕ) → IsUtf8 text → all_lines_fit n (chars text) ≡ true → text ≡ wrapped (n, keeps) text
text-same n some keeps text utf8 h =
    rw (ne_eqb n 0 (λ e. omega (arith, e, some)))
    (sym (encodes-chars text utf8) ∙ ap encode_utf8_all (sym (concat-pieces (chars text)) ∙ sym (put-same n keeps None (pieces (chars text)) (omega arith) (fit-lines n (chars text) ∙ h)) ∙ put-text n keeps (chars text)))
