-- What is put for the pieces of a text is the text wrapped line by line, and word by word.
use Rattle.std.proofs.Common.{[], ◌++◌, ◌+◌, ◌∙◌, ◌∷◌, ◌≡◌, ◌≤◌, ◌||◌, ◌⊎◌, Bool, List, None, Option, Some, ap, ap₂, append_assoc, arith, cond, false, inl, inr, map, nat_le, not, refl, sym, true, unwrap_or, ℕ}
use Rattle.std.proofs.lemmas.Bool.{and_parts, cases_Bool, not-true}
use Rattle.std.proofs.lemmas.Bool.Decides.{leb_tells}
use Rattle.std.proofs.lemmas.List.Sums.{sum_by-cons}
use Rattle.std.specs.List.{AllByRecursion, concat, join_with_byte, list_all, onto_first, slice_split}
use Rattle.tabled_width.proofs.Spaces.{just-is}
use Rattle.tabled_width.specs.Columns.{text_width}
use Rattle.tabled_width.specs.Pieces.{columns_in, is_just, is_space, pieces}
use Rattle.tabled_width.specs.WrapSteps.{begins_word, first_word, placed, placed_in_line, put_by, put_from, word_fits}
use Rattle.tabled_width.specs.Wraps.{broken, fits, is_empty, last_used, lines, used_then, with_words, words_wrapped, wrapped_characters, wrapped_line}
use Rattle.tabled_width.specs.declared.wrapping.Placed.{Placed}
use Rattle.unicode_width.proofs.Rules.{str_width-printable}
use borrow.Author.Tests.{le-leb}

-- ---- lists in parts

abbrev pub first_part : {A : Type 0} → List (List A) → List A
first_part [] = []
first_part (part ∷ parts) = part

abbrev pub other_parts : {A : Type 0} → List (List A) → List (List A)
other_parts [] = []
other_parts (part ∷ parts) = parts

pub first_onto : {A : Type 0} (x : A) (parts : List (List A)) → first_part (onto_first x parts) ≡ x ∷ first_part parts
first_onto x [] = refl
first_onto x (part ∷ parts) = refl

pub others_onto : {A : Type 0} (x : A) (parts : List (List A)) → other_parts (onto_first x parts) ≡ other_parts parts
others_onto x [] = refl
others_onto x (part ∷ parts) = refl

-- what is split has a first part
pub in_parts : {A : Type 0} (test : A → Bool) (xs : List A) → slice_split test xs ≡ first_part (slice_split test xs) ∷ other_parts (slice_split test xs)
in_parts test [] = refl
in_parts test (x ∷ xs) = parts-next (test x)
  where
    onto : (parts : List (List _)) → onto_first x parts ≡ first_part (onto_first x parts) ∷ other_parts (onto_first x parts)
    onto [] = refl
    onto (part ∷ parts) = refl

    parts-next : (b : Bool) → cond b ([] ∷ slice_split test xs) (onto_first x (slice_split test xs)) ≡ first_part (cond b ([] ∷ slice_split test xs) (onto_first x (slice_split test xs))) ∷ other_parts (cond b ([] ∷ slice_split test xs) (onto_first x (slice_split test xs)))
    parts-next true = refl
    parts-next false = onto (slice_split test xs)

-- ---- a line

-- no piece is a newline
abbrev pub IsLine : List (List ℕ) → Type 0
IsLine line = list_all (λ p. not (is_just 10 p)) line ≡ true

line_parts : (p : List ℕ) (line : List (List ℕ)) → IsLine (p ∷ line) → (is_just 10 p ≡ false) × IsLine line
line_parts p line h =
    let parts = and_parts (not (is_just 10 p)) (list_all (λ q. not (is_just 10 q)) line) h in
    (not-true (is_just 10 p) parts.0, parts.1)

-- a piece that is put in any case
put_piece : (n : ℕ) (used : Option ℕ) (p rest : List ℕ) → put_by (placed_in_line n used (text_width p)) p ++ rest ≡ cond (fits n used (text_width p)) [] (10 ∷ []) ++ (p ++ rest)
put_piece n used p rest = put_newline (fits n used (text_width p))
  where
    put_newline : (b : Bool) → (cond (not b) (10 ∷ []) [] ++ p) ++ rest ≡ cond b [] (10 ∷ []) ++ (p ++ rest)
    put_newline true = refl
    put_newline false = refl

-- cut between any pieces
put_anywhere : (n : ℕ) (used : Option ℕ) (line : List (List ℕ)) → IsLine line → put_from n false used line ≡ broken n used line
put_anywhere n used [] h = refl
put_anywhere n used (p ∷ line) h =
    let parts = line_parts p line h in
    let then = Some (used_then n used (text_width p)) in
    rw parts.0 (put_piece n used p (put_from n false then line) ∙ ap (λ xs. cond (fits n used (text_width p)) [] (10 ∷ []) ++ (p ++ xs)) (put_anywhere n then line parts.1))

-- ---- words

-- the first word of a line
first_is : (line : List (List ℕ)) → IsLine line → (first_word line ≡ first_part (slice_split (is_just 32) line)) × (begins_word line ≡ not (is_empty (first_part (slice_split (is_just 32) line))))
first_is [] h = (refl, refl)
first_is (p ∷ line) h =
    let parts = line_parts p line h in
    rw parts.0 (first-next (is_just 32 p) (first_is line parts.1).0)
  where
    first-next : (b : Bool) → first_word line ≡ first_part (slice_split (is_just 32) line) → (cond (b || false) [] (p ∷ first_word line) ≡ first_part (cond b ([] ∷ slice_split (is_just 32) line) (onto_first p (slice_split (is_just 32) line)))) × (not (b || false) ≡ not (is_empty (first_part (cond b ([] ∷ slice_split (is_just 32) line) (onto_first p (slice_split (is_just 32) line))))))
    first-next true rest = (refl, refl)
    first-next false rest = (ap (λ ps. p ∷ ps) rest ∙ sym (first_onto p (slice_split (is_just 32) line)), ap (λ ps. not (is_empty ps)) (sym (first_onto p (slice_split (is_just 32) line))))

pub blank_width : text_width (32 ∷ []) ≡ 1
blank_width = str_width-printable false (32 ∷ []) refl

-- pieces that fit stay in the line
pub broken-whole : (n used : ℕ) (ps : List (List ℕ)) → used + columns_in ps ≤ n → (broken n (Some used) ps ≡ concat ps) × (last_used n (Some used) ps ≡ Some (used + columns_in ps))
broken-whole n used [] h = (refl, ap Some (let e : used ≡ used + 0 = omega arith in e))
broken-whole n used (p ∷ ps) h =
    let columns : used + (text_width p + columns_in ps) ≤ n = rw (sum_by-cons text_width p ps) at h in
    let one : nat_le (used + text_width p) n ≡ true = le-leb (used + text_width p) n (omega (arith, columns)) in
    let more = broken-whole n (used + text_width p) ps (omega (arith, columns)) in
    let sum : used + text_width p + columns_in ps ≡ used + columns_in (p ∷ ps) = omega (arith, sum_by-cons text_width p ps) in
    (rw one (ap (λ xs. p ++ xs) more.0), rw one (more.1 ∙ ap Some sum))

-- a blank that fits
blank_fits : (n : ℕ) (used : Option ℕ) → unwrap_or used 0 + 1 ≤ n → (fits n used (text_width (32 ∷ [])) ≡ true) × (used_then n used (text_width (32 ∷ [])) ≡ unwrap_or used 0 + 1)
blank_fits n None h = (refl, ap (λ k. 0 + k) blank_width)
blank_fits n (Some used) h =
    let one : nat_le (used + text_width (32 ∷ [])) n ≡ true = ap (λ k. nat_le (used + k) n) blank_width ∙ le-leb (used + 1) n h in
    (one, rw one (ap (λ k. used + k) blank_width))

module _ (n : ℕ) (line : List (List ℕ)) where
  -- a blank before a word that fits
  stays : (used : Option ℕ) (word : List (List ℕ)) (words : List (List (List ℕ))) → unwrap_or used 0 + 1 + columns_in word ≤ n → first_word line ≡ word → ((k : Option ℕ) → put_from n true k line ≡ broken n k word ++ with_words n (last_used n k word) words) → put_from n true used ((32 ∷ []) ∷ line) ≡ with_words n used (word ∷ words)
  stays used word words h first more =
      let whole = broken-whole n (unwrap_or used 0 + 1) word h in
      let one = blank_fits n used (omega (arith, h)) in
      let yes : nat_le (unwrap_or used 0 + 1 + columns_in word) n ≡ true = le-leb _ n h in
      let fits_too : word_fits n used line ≡ true = ap (λ ps. nat_le (unwrap_or used 0 + 1 + columns_in ps) n) first ∙ yes in
      let is : placed n true used (32 ∷ []) line ≡ placed_in_line n used (text_width (32 ∷ [])) = rw fits_too refl in
      let put : put_from n true used ((32 ∷ []) ∷ line) ≡ 32 ∷ (concat word ++ with_words n (Some (unwrap_or used 0 + 1 + columns_in word)) words) =
      ap (λ (q : Placed). put_by q (32 ∷ []) ++ put_from n true q.used line) is
      ∙ put_piece n used (32 ∷ []) (put_from n true (Some (used_then n used (text_width (32 ∷ [])))) line)
      ∙ rw (one.1, one.0) (ap (λ xs. 32 ∷ xs) (more (Some (unwrap_or used 0 + 1)) ∙ rw (whole.0, whole.1) refl)) in
      put ∙ rw yes refl

  -- a blank before a word that doesn't fit
  turned : (used : Option ℕ) (word : List (List ℕ)) (words : List (List (List ℕ))) → nat_le (unwrap_or used 0 + 1 + columns_in word) n ≡ false → first_word line ≡ word → begins_word line ≡ not (is_empty word) → ((k : Option ℕ) → put_from n true k line ≡ broken n k word ++ with_words n (last_used n k word) words) → put_from n true used ((32 ∷ []) ∷ line) ≡ with_words n used (word ∷ words)
  turned used [] words over first begins more = rw (first, begins, over) (more used)
  turned used (p ∷ word) words over first begins more = rw (first, begins, over) (ap (λ xs. 10 ∷ xs) (more None))

-- pieces are put as words behind a line
put_words : (n : ℕ) (used : Option ℕ) (line : List (List ℕ)) → IsLine line → put_from n true used line ≡ broken n used (first_part (slice_split (is_just 32) line)) ++ with_words n (last_used n used (first_part (slice_split (is_just 32) line))) (other_parts (slice_split (is_just 32) line))
put_words n used [] h = refl
put_words n used (p ∷ line) h = words-next (cases_Bool (is_just 32 p)) (λ k. put_words n k line (line_parts p line h).1)
  where
    parts : (is_just 10 p ≡ false) × IsLine line
    parts = line_parts p line h

    words : List (List (List ℕ))
    words = slice_split (is_just 32) line

    More : Type 0
    More = (k : Option ℕ) → put_from n true k line ≡ broken n k (first_part words) ++ with_words n (last_used n k (first_part words)) (other_parts words)

    blank : More → put_from n true used ((32 ∷ []) ∷ line) ≡ with_words n used words
    blank more =
        let first = first_is line parts.1 in
        elim (leb_tells (unwrap_or used 0 + 1 + columns_in (first_part words)) n) [
          | inl h ↦ stays n line used (first_part words) (other_parts words) h.1 first.0 more
          | inr h ↦ turned n line used (first_part words) (other_parts words) h.0 first.0 first.1 more
        ] ∙ ap (with_words n used) (sym (in_parts (is_just 32) line))

    regroup : (turn first rest : List ℕ) → turn ++ (p ++ (first ++ rest)) ≡ (turn ++ (p ++ first)) ++ rest
    regroup turn first rest = simp append_assoc

    word : More → is_just 32 p ≡ false → put_from n true used (p ∷ line) ≡ broken n used (p ∷ first_part words) ++ with_words n (last_used n used (p ∷ first_part words)) (other_parts words)
    word more other =
        let then = Some (used_then n used (text_width p)) in
        let turn = cond (fits n used (text_width p)) [] (10 ∷ []) in
        let is : placed n true used p line ≡ placed_in_line n used (text_width p) = rw (parts.0, other) refl in
        ap (λ (q : Placed). put_by q p ++ put_from n true q.used line) is
        ∙ put_piece n used p (put_from n true then line)
        ∙ ap (λ xs. turn ++ (p ++ xs)) (more then)
        ∙ regroup turn (broken n then (first_part words)) (with_words n (last_used n then (first_part words)) (other_parts words))

    words-next : (is_just 32 p ≡ true) ⊎ (is_just 32 p ≡ false) → More → put_from n true used (p ∷ line) ≡ broken n used (first_part (slice_split (is_just 32) (p ∷ line))) ++ with_words n (last_used n used (first_part (slice_split (is_just 32) (p ∷ line)))) (other_parts (slice_split (is_just 32) (p ∷ line)))
    words-next (inl is) more = rw (just-is 32 p is) (blank more)
    words-next (inr other) more =
        let split : slice_split (is_just 32) (p ∷ line) ≡ onto_first p words = rw other refl in
        word more other ∙ sym (ap₂ (λ w ws. broken n used w ++ with_words n (last_used n used w) ws) (ap first_part split ∙ first_onto p words) (ap other_parts split ∙ others_onto p words))

-- a line
pub put-line : (n : ℕ) (keeps : Bool) (line : List (List ℕ)) → IsLine line → put_from n keeps None line ≡ wrapped_line n keeps line
put-line n false line h = put_anywhere n None line h
put-line n true line h = put_words n None line h ∙ ap (words_wrapped n) (sym (in_parts (is_just 32) line))

-- ---- lines

-- the first word of a text is that of its first line
first_of_line : (ps : List (List ℕ)) → (first_word ps ≡ first_word (first_part (slice_split (is_just 10) ps))) × (begins_word ps ≡ begins_word (first_part (slice_split (is_just 10) ps)))
first_of_line [] = (refl, refl)
first_of_line (p ∷ ps) = first_of_next (cases_Bool (is_just 10 p)) (first_of_line ps).0
  where
    all : List (List (List ℕ))
    all = slice_split (is_just 10) ps

    first_of_next : (is_just 10 p ≡ true) ⊎ (is_just 10 p ≡ false) → first_word ps ≡ first_word (first_part all) → (first_word (p ∷ ps) ≡ first_word (first_part (slice_split (is_just 10) (p ∷ ps)))) × (begins_word (p ∷ ps) ≡ begins_word (first_part (slice_split (is_just 10) (p ∷ ps))))
    first_of_next (inl is) rest = rw (just-is 10 p is) (refl, refl)
    first_of_next (inr other) rest =
        let split : slice_split (is_just 10) (p ∷ ps) ≡ onto_first p all = rw other refl in
        let first : first_part (slice_split (is_just 10) (p ∷ ps)) ≡ p ∷ first_part all = ap first_part split ∙ first_onto p all in
        (ap (λ ws. cond (is_space p) [] (p ∷ ws)) rest ∙ ap first_word (sym first), ap begins_word (sym first))

-- what stands before the first of lines that are joined
join_front : (front line : List ℕ) (others : List (List ℕ)) → join_with_byte 10 ((front ++ line) ∷ others) ≡ front ++ join_with_byte 10 (line ∷ others)
join_front front line [] = refl
join_front front line (next ∷ others) = append_assoc front line (10 ∷ join_with_byte 10 (next ∷ others))

put_lines : (n : ℕ) (keeps : Bool) (used : Option ℕ) (ps : List (List ℕ)) → put_from n keeps used ps ≡ join_with_byte 10 (put_from n keeps used (first_part (slice_split (is_just 10) ps)) ∷ map (put_from n keeps None) (other_parts (slice_split (is_just 10) ps)))
put_lines n keeps used [] = refl
put_lines n keeps used (p ∷ ps) = lines-next (cases_Bool (is_just 10 p)) (λ k. put_lines n keeps k ps)
  where
    all : List (List (List ℕ))
    all = slice_split (is_just 10) ps

    More : Type 0
    More = (k : Option ℕ) → put_from n keeps k ps ≡ join_with_byte 10 (put_from n keeps k (first_part all) ∷ map (put_from n keeps None) (other_parts all))

    newline : More → 10 ∷ put_from n keeps None ps ≡ join_with_byte 10 ([] ∷ map (put_from n keeps None) all)
    newline more = ap (λ xs. 10 ∷ xs) (more None) ∙ ap (λ ls. join_with_byte 10 ([] ∷ map (put_from n keeps None) ls)) (sym (in_parts (is_just 10) ps))

    same : placed n keeps used p ps ≡ placed n keeps used p (first_part all)
    same = let first = first_of_line ps in rw (first.0, first.1) refl

    other : More → put_from n keeps used (p ∷ ps) ≡ join_with_byte 10 (put_from n keeps used (p ∷ first_part all) ∷ map (put_from n keeps None) (other_parts all))
    other more =
        ap (λ (q : Placed). put_by q p ++ put_from n keeps q.used ps) same
        ∙ ap (λ xs. put_by (placed n keeps used p (first_part all)) p ++ xs) (more (placed n keeps used p (first_part all)).used)
        ∙ sym (join_front (put_by (placed n keeps used p (first_part all)) p) (put_from n keeps (placed n keeps used p (first_part all)).used (first_part all)) (map (put_from n keeps None) (other_parts all)))

    lines-next : (is_just 10 p ≡ true) ⊎ (is_just 10 p ≡ false) → More → put_from n keeps used (p ∷ ps) ≡ join_with_byte 10 (put_from n keeps used (first_part (slice_split (is_just 10) (p ∷ ps))) ∷ map (put_from n keeps None) (other_parts (slice_split (is_just 10) (p ∷ ps))))
    lines-next (inl is) more = rw (just-is 10 p is) (newline more)
    lines-next (inr apart) more =
        let split : slice_split (is_just 10) (p ∷ ps) ≡ onto_first p all = rw apart refl in
        other more ∙ sym (ap₂ (λ l ls. join_with_byte 10 (put_from n keeps used l ∷ map (put_from n keeps None) ls)) (ap first_part split ∙ first_onto p all) (ap other_parts split ∙ others_onto p all))

-- the lines of a text have no newline
pub are-lines : (ps : List (List ℕ)) → AllByRecursion IsLine (slice_split (is_just 10) ps)
are-lines [] = (refl, tt)
are-lines (p ∷ ps) = next-lines (cases_Bool (is_just 10 p)) (slice_split (is_just 10) ps) (are-lines ps)
  where
    onto : is_just 10 p ≡ false → (all : List (List (List ℕ))) → AllByRecursion IsLine all → AllByRecursion IsLine (onto_first p all)
    onto apart [] h = (rw apart refl, tt)
    onto apart (line ∷ all) h = (rw apart h.0, h.1)

    next-lines : (is_just 10 p ≡ true) ⊎ (is_just 10 p ≡ false) → (all : List (List (List ℕ))) → AllByRecursion IsLine all → AllByRecursion IsLine (cond (is_just 10 p) ([] ∷ all) (onto_first p all))
    next-lines (inl is) all h = rw is (refl, h)
    next-lines (inr apart) all h = rw apart (onto apart all h)

put_each : (n : ℕ) (keeps : Bool) (all : List (List (List ℕ))) → AllByRecursion IsLine all → map (put_from n keeps None) all ≡ map (wrapped_line n keeps) all
put_each n keeps [] h = refl
put_each n keeps (line ∷ all) h = ap₂ (λ (x : List ℕ) (xs : List (List ℕ)). x ∷ xs) (put-line n keeps line h.0) (put_each n keeps all h.1)

-- a text
pub put-text : (n : ℕ) (keeps : Bool) (cs : List ℕ) → put_from n keeps None (pieces cs) ≡ wrapped_characters n keeps cs
put-text n keeps cs =
    put_lines n keeps None (pieces cs)
    ∙ ap (λ ls. join_with_byte 10 (map (put_from n keeps None) ls)) (sym (in_parts (is_just 10) (pieces cs)))
    ∙ ap (join_with_byte 10) (put_each n keeps (lines cs) (are-lines (pieces cs)))
