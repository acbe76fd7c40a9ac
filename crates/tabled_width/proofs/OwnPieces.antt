-- A piece by itself is one piece, and has no newline unless it is one.
use Rattle.std.proofs.Common.{[], ◌&&◌, ◌++◌, ◌==◌, ◌∙◌, ◌∷◌, ◌≡◌, ◌≢◌, ◌⊎◌, ◌||◌, Bool, List, ap, ap₂, append-nil, append_assoc, cond, eqb-true, false, inl, inr, map, ne_eqb, not, refl, subst, sym, true, ℕ}
use Rattle.std.proofs.lemmas.Bool.{and_parts, cases_Bool, eqb-false, false≢true}
use Rattle.std.specs.List.{AllByRecursion, concat, list_all, onto_first, slice_split}
use Rattle.tabled_width.proofs.Chains.{from_head, line-head, line-parts}
use Rattle.tabled_width.proofs.PieceTexts.{concat-pieces}
use Rattle.tabled_width.proofs.Spaces.{just-is}
use Rattle.tabled_width.proofs.WrapLines.{first_onto, first_part, in_parts, other_parts, others_onto}
use Rattle.tabled_width.specs.Laws.{IsLine}
use Rattle.tabled_width.specs.Pieces.{belongs, ends_in_half_a_flag, is_just, last_cluster, last_of, pieces, pieces_from, stays}
use Rattle.tabled_width.specs.WrapLaws.{lines_in}

-- ---- newlines

pub stays-newline : (piece : List ℕ) (c : ℕ) → stays piece c ≡ true → (c ≢ 10) × (last_of piece ≢ 10)
stays-newline piece c h =
    let parts = and_parts (not ((c == 10) || (last_of piece == 10))) (belongs (last_of piece) (ends_in_half_a_flag piece) (last_cluster piece) c) h in
    (λ e. false≢true (sym (both-false (c == 10) (last_of piece == 10) parts.0).0 ∙ ap (λ x. x == 10) e), λ e. false≢true (sym (both-false (c == 10) (last_of piece == 10) parts.0).1 ∙ ap (λ x. x == 10) e))
  where
    both-false : (a b : Bool) → not (a || b) ≡ true → (a ≡ false) × (b ≡ false)
    both-false false false h = (refl, refl)
    both-false true b h = absurd (false≢true h)
    both-false false true h = absurd (false≢true h)

pub line-more : (xs : List ℕ) (c : ℕ) → IsLine xs → c ≢ 10 → IsLine (xs ++ c ∷ [])
line-more [] c h other = rw (ne_eqb c 10 other) refl
line-more (x ∷ xs) c h other =
    let parts = and_parts (not (x == 10)) (list_all (λ d. not (d == 10)) xs) h in
    rw parts.0 (line-more xs c parts.1 other)

-- ---- each piece

pub record IsPiece (p : List ℕ) : Type 0 where
  pub one : pieces p ≡ p ∷ []
  pub line : is_just 10 p ≡ false → IsLine p

-- a piece that has begun, and a character that stays in it
one_more : (piece xs : List ℕ) (c : ℕ) → pieces_from piece xs ≡ (piece ++ xs) ∷ [] → stays (piece ++ xs) c ≡ true → pieces_from piece (xs ++ c ∷ []) ≡ (piece ++ (xs ++ c ∷ [])) ∷ []
one_more piece [] c h is = one-stays piece (rw (append-nil piece) at is)
  where
    one-stays : (piece : List ℕ) → stays piece c ≡ true → pieces_from piece (c ∷ []) ≡ (piece ++ c ∷ []) ∷ []
    one-stays piece e = rw e refl
one_more piece (x ∷ xs) c h is = stays-or-begins (stays piece x) refl h (λ more. one_more (piece ++ x ∷ []) xs c more (ap (λ ys. stays ys c) (append_assoc piece (x ∷ []) xs) ∙ is))
  where
    all : (piece ++ x ∷ []) ++ (xs ++ c ∷ []) ≡ piece ++ (x ∷ xs ++ c ∷ [])
    all = append_assoc piece (x ∷ []) (xs ++ c ∷ [])

    stays-or-begins : (b : Bool) → stays piece x ≡ b → cond b (pieces_from (piece ++ x ∷ []) xs) (piece ∷ pieces_from (x ∷ []) xs) ≡ (piece ++ (x ∷ xs)) ∷ [] → (pieces_from (piece ++ x ∷ []) xs ≡ ((piece ++ x ∷ []) ++ xs) ∷ [] → pieces_from (piece ++ x ∷ []) (xs ++ c ∷ []) ≡ ((piece ++ x ∷ []) ++ (xs ++ c ∷ [])) ∷ []) → cond b (pieces_from (piece ++ x ∷ []) (xs ++ c ∷ [])) (piece ∷ pieces_from (x ∷ []) (xs ++ c ∷ [])) ≡ (piece ++ (x ∷ xs ++ c ∷ [])) ∷ []
    stays-or-begins true e whole more = more (whole ∙ ap (λ ys. ys ∷ []) (sym (append_assoc piece (x ∷ []) xs))) ∙ ap (λ ys. ys ∷ []) all
    stays-or-begins false e whole more = absurd (two (from_head x [] xs))
      where
        two : (ys : List ℕ) × (rest : List (List ℕ)) × (pieces_from (x ∷ []) xs ≡ (x ∷ ys) ∷ rest) → ⊥
        two t = some_two (ap (λ ps. piece ∷ ps) (sym t.2) ∙ whole)
          where
            some_two : piece ∷ ((x ∷ t.0) ∷ t.1) ≡ (piece ++ (x ∷ xs)) ∷ [] → ⊥
            some_two e = cc

line_one : (d : ℕ) → is_just 10 (d ∷ []) ≡ false → IsLine (d ∷ [])
line_one d h = rw (ne_eqb d 10 (eqb-false d 10 h)) refl

own_from : (c : ℕ) (xs cs : List ℕ) → pieces (c ∷ xs) ≡ (c ∷ xs) ∷ [] → (is_just 10 (c ∷ xs) ≡ false → IsLine (c ∷ xs)) → AllByRecursion IsPiece (pieces_from (c ∷ xs) cs)
own_from c xs [] one line = (record { one = one; line = line }, tt)
own_from c xs (d ∷ cs) one line = own-next (stays (c ∷ xs) d) refl (λ o l. own_from c (xs ++ d ∷ []) cs o l) (own_from d [] cs refl (line_one d))
  where
    longer : stays (c ∷ xs) d ≡ true → is_just 10 (c ∷ xs ++ d ∷ []) ≡ false → IsLine (c ∷ xs ++ d ∷ [])
    longer is apart = line-more (c ∷ xs) d (line (newline (cases_Bool (is_just 10 (c ∷ xs))))) (stays-newline (c ∷ xs) d is).0
      where
        newline : (is_just 10 (c ∷ xs) ≡ true) ⊎ (is_just 10 (c ∷ xs) ≡ false) → is_just 10 (c ∷ xs) ≡ false
        newline (inr other) = other
        newline (inl just) = absurd ((stays-newline (c ∷ xs) d is).1 (ap last_of (just-is 10 (c ∷ xs) just)))

    own-next : (b : Bool) → stays (c ∷ xs) d ≡ b → (pieces (c ∷ xs ++ d ∷ []) ≡ (c ∷ xs ++ d ∷ []) ∷ [] → (is_just 10 (c ∷ xs ++ d ∷ []) ≡ false → IsLine (c ∷ xs ++ d ∷ [])) → AllByRecursion IsPiece (pieces_from (c ∷ xs ++ d ∷ []) cs)) → AllByRecursion IsPiece (pieces_from (d ∷ []) cs) → AllByRecursion IsPiece (cond b (pieces_from (c ∷ xs ++ d ∷ []) cs) ((c ∷ xs) ∷ pieces_from (d ∷ []) cs))
    own-next true is more rest = more (one_more (c ∷ []) xs d one is) (longer is)
    own-next false is more rest = (record { one = one; line = line }, rest)

pub own : (cs : List ℕ) → AllByRecursion IsPiece (pieces cs)
own [] = tt
own (c ∷ cs) = own_from c [] cs refl (line_one c)

-- ---- lines

record Lined (cs : List ℕ) : Type 0 where
  all : slice_split (is_just 10) (pieces cs) ≡ map pieces (lines_in cs)
  begun : (c : ℕ) (xs : List ℕ) → IsLine (c ∷ xs) → slice_split (is_just 10) (pieces_from (c ∷ xs) cs) ≡ pieces_from (c ∷ xs) (first_part (lines_in cs)) ∷ map pieces (other_parts (lines_in cs))

not_just : (c : ℕ) (xs : List ℕ) → IsLine (c ∷ xs) → is_just 10 (c ∷ xs) ≡ false
not_just c [] h = ne_eqb c 10 (line-head c [] h)
not_just c (d ∷ xs) h = refl

behind_newline : (cs : List ℕ) → pieces (10 ∷ cs) ≡ (10 ∷ []) ∷ pieces cs
behind_newline [] = refl
behind_newline (d ∷ cs) = newline-apart (d == 10)
  where
    newline-apart : (b : Bool) → cond (not (b || true) && belongs 10 (ends_in_half_a_flag (10 ∷ [])) (last_cluster (10 ∷ [])) d) (pieces_from (10 ∷ d ∷ []) cs) ((10 ∷ []) ∷ pieces_from (d ∷ []) cs) ≡ (10 ∷ []) ∷ pieces_from (d ∷ []) cs
    newline-apart true = refl
    newline-apart false = refl

lined : (cs : List ℕ) → Lined cs
lined [] = record { all = refl; begun = λ c xs h. rw (not_just c xs h) refl }
lined (d ∷ cs) = record { all = all (cases_Bool (d == 10)) (lined cs); begun = λ c xs h. begun c xs h (cases_Bool (d == 10)) (lined cs) }
  where
    -- what is behind is split as it is
    onto_line : d ≢ 10 → (first_part (lines_in (d ∷ cs)) ≡ d ∷ first_part (lines_in cs)) × (other_parts (lines_in (d ∷ cs)) ≡ other_parts (lines_in cs))
    onto_line apart =
        let split : lines_in (d ∷ cs) ≡ onto_first d (lines_in cs) = rw (ne_eqb d 10 apart) refl in
        (ap first_part split ∙ first_onto d (lines_in cs), ap other_parts split ∙ others_onto d (lines_in cs))

    newline_all : Lined cs → slice_split (is_just 10) (pieces (10 ∷ cs)) ≡ [] ∷ map pieces (lines_in cs)
    newline_all more = ap (slice_split (is_just 10)) (behind_newline cs) ∙ ap (λ ls. [] ∷ ls) (more.all)

    all : ((d == 10) ≡ true) ⊎ ((d == 10) ≡ false) → Lined cs → slice_split (is_just 10) (pieces (d ∷ cs)) ≡ map pieces (lines_in (d ∷ cs))
    all (inl is) more = rw (eqb-true d 10 is) (newline_all more)
    all (inr other) more =
        let apart = eqb-false d 10 other in
        let o = onto_line apart in
        more.begun d [] (line_one d other)
        ∙ sym (ap (map pieces) (in_parts (λ c. c == 10) (d ∷ cs)) ∙ ap₂ (λ f r. pieces f ∷ map pieces r) o.0 o.1)

    begun : (c : ℕ) (xs : List ℕ) → IsLine (c ∷ xs) → ((d == 10) ≡ true) ⊎ ((d == 10) ≡ false) → Lined cs → slice_split (is_just 10) (pieces_from (c ∷ xs) (d ∷ cs)) ≡ pieces_from (c ∷ xs) (first_part (lines_in (d ∷ cs))) ∷ map pieces (other_parts (lines_in (d ∷ cs)))
    begun c xs h (inl is) more = rw (eqb-true d 10 is) (rw (not_just c xs h) (ap (onto_first (c ∷ xs)) (newline_all more)))
    begun c xs h (inr other) more = choose (cases_Bool (stays (c ∷ xs) d))
      where
        apart : d ≢ 10
        apart = eqb-false d 10 other

        o : (first_part (lines_in (d ∷ cs)) ≡ d ∷ first_part (lines_in cs)) × (other_parts (lines_in (d ∷ cs)) ≡ other_parts (lines_in cs))
        o = onto_line apart

        choose : (stays (c ∷ xs) d ≡ true) ⊎ (stays (c ∷ xs) d ≡ false) → slice_split (is_just 10) (pieces_from (c ∷ xs) (d ∷ cs)) ≡ pieces_from (c ∷ xs) (first_part (lines_in (d ∷ cs))) ∷ map pieces (other_parts (lines_in (d ∷ cs)))
        choose (inl in_it) =
            let goes : (ys : List ℕ) → pieces_from (c ∷ xs) (d ∷ ys) ≡ pieces_from (c ∷ xs ++ d ∷ []) ys = λ ys. rw in_it refl in
            ap (slice_split (is_just 10)) (goes cs) ∙ more.begun c (xs ++ d ∷ []) (line-more (c ∷ xs) d h apart)
            ∙ sym (ap₂ (λ f r. pieces_from (c ∷ xs) f ∷ map pieces r) o.0 o.1 ∙ ap (λ ps. ps ∷ map pieces (other_parts (lines_in cs))) (goes (first_part (lines_in cs))))
        choose (inr parted) =
            let goes : (ys : List ℕ) → pieces_from (c ∷ xs) (d ∷ ys) ≡ (c ∷ xs) ∷ pieces_from (d ∷ []) ys = λ ys. rw parted refl in
            ap (slice_split (is_just 10)) (goes cs) ∙ (rw (not_just c xs h) (ap (onto_first (c ∷ xs)) (more.begun d [] (line_one d other))))
            ∙ sym (ap₂ (λ f r. pieces_from (c ∷ xs) f ∷ map pieces r) o.0 o.1 ∙ ap (λ ps. ps ∷ map pieces (other_parts (lines_in cs))) (goes (first_part (lines_in cs))))

-- the pieces of each line
pub pieces-of_lines : (cs : List ℕ) → slice_split (is_just 10) (pieces cs) ≡ map pieces (lines_in cs)
pieces-of_lines cs = let l = lined cs in l.all

-- a line's pieces
pub line-pieces : (line : List ℕ) → IsLine line → list_all (λ p. not (is_just 10 p)) (pieces line) ≡ true
line-pieces line h = none-newline (pieces line) (own line) (subst IsLine (sym (concat-pieces line)) h)
  where
    none-newline : (ps : List (List ℕ)) → AllByRecursion IsPiece ps → IsLine (concat ps) → list_all (λ p. not (is_just 10 p)) ps ≡ true
    none-newline [] all all_line = refl
    none-newline (p ∷ ps) all all_line =
        let parts = line-parts p (concat ps) all_line in
        rw (apart p (cases_Bool (is_just 10 p)) parts.0) (none-newline ps all.1 parts.1)
      where
        apart : (p : List ℕ) → (is_just 10 p ≡ true) ⊎ (is_just 10 p ≡ false) → IsLine p → is_just 10 p ≡ false
        apart p (inr other) one = other
        apart p (inl is) one = absurd (line-head 10 [] (subst IsLine (just-is 10 p is) one) refl)
