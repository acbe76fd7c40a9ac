-- Plain texts, wrapped.
use Rattle.std.proofs.Common.{[], ◌++◌, ◌+◌, ◌<◌, ◌≤◌, ◌==◌, ◌∙◌, ◌∷◌, ◌≡◌, Bool, List, None, Option, Some, ap, ap₂, append_assoc, arith, cond, encode_utf8, encode_utf8_all, false, length, map, nat_le, ne_eqb, refl, sym, true, unwrap_or, zero-add, ℕ}
use Rattle.std.proofs.lemmas.Bool.{lt-leb}
use Rattle.std.proofs.lemmas.List.Elements.{All-head, All-tail}
use Rattle.std.proofs.lemmas.List.Splits.{slice_split_first, slice_split_none}
use Rattle.std.proofs.lemmas.List.Sums.{fails_before_first, fold-append}
use Rattle.std.proofs.lemmas.Str.{encodes-append}
use Rattle.std.specs.List.{after_first, before_first, concat, join_with_byte, onto_first, position_or_len, slice_split}
use Rattle.std.specs.Str.{chars}
use Rattle.tabled_width.proofs.PlainPieces.{plain-bytes, plain-line, plain-pieces, plain-width, singles, singles-columns, singles-concat}
use Rattle.tabled_width.proofs.WrapLines.{broken-whole}
use Rattle.tabled_width.specs.Columns.{text_width}
use Rattle.tabled_width.specs.Pieces.{columns_in, is_just, pieces}
use Rattle.tabled_width.specs.Plain.{ArePlain, IsPlain, blank_words}
use Rattle.tabled_width.specs.Wraps.{broken, fits, is_empty, last_used, used_then, with_words, words_wrapped, wrapped, wrapped_characters, wrapped_line}
use borrow.Author.Tests.{le-leb}

-- ---- between any characters

singles-append : (xs ys : List ℕ) → singles (xs ++ ys) ≡ singles xs ++ singles ys
singles-append [] ys = refl
singles-append (x ∷ xs) ys = ap (λ ps. (x ∷ []) ∷ ps) (singles-append xs ys)

broken-append : (n : ℕ) (used : Option ℕ) (ps qs : List (List ℕ)) → broken n used (ps ++ qs) ≡ broken n used ps ++ broken n (last_used n used ps) qs
broken-append n used [] qs = refl
broken-append n used (p ∷ ps) qs =
    let then = Some (used_then n used (text_width p)) in
    ap (λ xs. cond (fits n used (text_width p)) [] (10 ∷ []) ++ (p ++ xs)) (broken-append n then ps qs)
    ∙ regroup (cond (fits n used (text_width p)) [] (10 ∷ [])) (broken n then ps) (broken n (last_used n then ps) qs)
  where
    regroup : (a b c : List ℕ) → a ++ (p ++ (b ++ c)) ≡ (a ++ (p ++ b)) ++ c
    regroup a b c = simp append_assoc

last-append : (n : ℕ) (used : Option ℕ) (ps qs : List (List ℕ)) → last_used n used (ps ++ qs) ≡ last_used n (last_used n used ps) qs
last-append n used ps qs = fold-append (λ before p. Some (used_then n before (text_width p))) used ps qs

-- those that fit in a line stand there
pub line-some : (n b : ℕ) (bs : List ℕ) → ArePlain (b ∷ bs) → length (b ∷ bs) ≤ n → (broken n None (singles (b ∷ bs)) ≡ b ∷ bs) × (last_used n None (singles (b ∷ bs)) ≡ Some (length (b ∷ bs)))
line-some n b bs all le =
    let columns = singles-columns bs (All-tail IsPlain b bs all) in
    let one = plain-width b (All-head IsPlain b bs all) in
    let whole = broken-whole n (0 + text_width (b ∷ [])) (singles bs) (omega (arith, columns, one, le)) in
    (ap (λ xs. b ∷ xs) (whole.0 ∙ singles-concat bs), whole.1 ∙ ap Some (omega (arith, columns, one)))

pub line-whole : (n : ℕ) (bs : List ℕ) → ArePlain bs → length bs ≤ n → (broken n None (singles bs) ≡ bs) × (unwrap_or (last_used n None (singles bs)) 0 ≡ length bs)
line-whole n [] all le = (refl, refl)
line-whole n (b ∷ bs) all le = let some = line-some n b bs all le in (some.0, ap (λ used. unwrap_or used 0) some.1)

-- behind a line that is full, the next one begins
turned : (n d : ℕ) (ds : List ℕ) → IsPlain d → (broken n (Some n) (singles (d ∷ ds)) ≡ 10 ∷ broken n None (singles (d ∷ ds))) × (last_used n (Some n) (singles (d ∷ ds)) ≡ last_used n None (singles (d ∷ ds)))
turned n d ds h =
    let over : nat_le (n + text_width (d ∷ [])) n ≡ false = lt-leb _ n (omega (arith, plain-width d h)) in
    let then : used_then n (Some n) (text_width (d ∷ [])) ≡ used_then n None (text_width (d ∷ [])) = (rw over refl) ∙ sym (zero-add (text_width (d ∷ []))) in
    let turn : cond (fits n (Some n) (text_width (d ∷ []))) [] (10 ∷ []) ≡ 10 ∷ [] = rw over refl in
    (ap₂ (λ front k. front ++ (d ∷ broken n (Some k) (singles ds))) turn then, ap (λ k. last_used n (Some k) (singles ds)) then)

pub line-full : (n : ℕ) (xs ys : List ℕ) → 1 ≤ n → length xs ≡ n → ArePlain xs → ArePlain ys → 1 ≤ length ys → (broken n None (singles (xs ++ ys)) ≡ xs ++ 10 ∷ broken n None (singles ys)) × (last_used n None (singles (xs ++ ys)) ≡ last_used n None (singles ys))
line-full n [] ys some full plain others more = absurd (omega (arith, some, full))
line-full n (x ∷ xs) [] some full plain others more = absurd (omega (arith, more))
line-full n (x ∷ xs) (d ∷ ds) some full plain others more =
    let line = line-some n x xs plain (omega (arith, full)) in
    let used : last_used n None (singles (x ∷ xs)) ≡ Some n = line.1 ∙ ap Some full in
    let turn = turned n d ds (All-head IsPlain d ds others) in
    let parts = singles-append (x ∷ xs) (d ∷ ds) in (
      ap (broken n None) parts ∙ broken-append n None (singles (x ∷ xs)) (singles (d ∷ ds)) ∙ ap₂ (λ front back. front ++ back) line.0 (ap (λ u. broken n u (singles (d ∷ ds))) used ∙ turn.0),
      ap (last_used n None) parts ∙ last-append n None (singles (x ∷ xs)) (singles (d ∷ ds)) ∙ ap (λ u. last_used n u (singles (d ∷ ds))) used ∙ turn.1,
    )

-- ---- between words

pub words-behind : (n : ℕ) (used : Option ℕ) (words : List (List (List ℕ))) → with_words n used words ≡ with_words n (Some (unwrap_or used 0)) words
words-behind n (Some used) words = refl
words-behind n None [] = refl
words-behind n None (word ∷ words) =
    ap (λ xs. cond (nat_le (0 + 1 + columns_in word) n) (32 ∷ (concat word ++ with_words n (Some (0 + 1 + columns_in word)) words)) (cond (is_empty word) xs (10 ∷ (broken n None word ++ with_words n (last_used n None word) words)))) (words-behind n None words)

pub words-single : (bs : List ℕ) → slice_split (is_just 32) (singles bs) ≡ map singles (blank_words bs)
words-single [] = refl
words-single (b ∷ bs) = parted (b == 32) (blank_words bs) (words-single bs)
  where
    parted : (t : Bool) (ws : List (List ℕ)) → slice_split (is_just 32) (singles bs) ≡ map singles ws → cond t ([] ∷ slice_split (is_just 32) (singles bs)) (onto_first (b ∷ []) (slice_split (is_just 32) (singles bs))) ≡ map singles (cond t ([] ∷ ws) (onto_first b ws))
    parted true ws e = ap (λ xs. [] ∷ xs) e
    parted false [] e = ap (onto_first (b ∷ [])) e
    parted false (w ∷ ws) e = ap (onto_first (b ∷ [])) e

-- the first word is before the first blank, and the others are behind it
pub first-split : (bs first others : List ℕ) → (first ≡ before_first (λ b. b == 32) bs) × (others ≡ after_first (λ b. b == 32) bs) × (position_or_len (λ b. b == 32) bs < length bs) → blank_words bs ≡ first ∷ blank_words others
first-split bs first others is = slice_split_first (λ b. b == 32) bs 0 is.2 ∙ ap₂ (λ word rest. word ∷ blank_words rest) (sym is.0) (sym is.1)

pub never-split : (bs : List ℕ) → position_or_len (λ b. b == 32) bs ≡ length bs → blank_words bs ≡ bs ∷ []
never-split bs none = slice_split_none (λ b. b == 32) bs (λ k d less. fails_before_first (λ b. b == 32) bs k d (omega (arith, none, less)))

-- a word that fits behind a blank
pub word-fits : (n used : ℕ) (word : List ℕ) (words : List (List (List ℕ))) → ArePlain word → used + 1 + length word ≤ n → with_words n (Some used) (singles word ∷ words) ≡ 32 ∷ (word ++ with_words n (Some (used + 1 + length word)) words)
word-fits n used word words all le =
    let columns = singles-columns word all in
    let yes : nat_le (used + 1 + columns_in (singles word)) n ≡ true = le-leb _ n (omega (arith, columns, le)) in
    rw yes (rw (singles-concat word, columns) refl)

-- one without characters that doesn't
pub none-goes : (n used : ℕ) (words : List (List (List ℕ))) → n < used + 1 → with_words n (Some used) ([] ∷ words) ≡ with_words n (Some used) words
none-goes n used words over = let no : nat_le (used + 1 + 0) n ≡ false = lt-leb _ n (omega (arith, over)) in rw no refl

-- and any other one
pub word-turns : (n used : ℕ) (word : List ℕ) (words : List (List (List ℕ))) → ArePlain word → 1 ≤ length word → n < used + 1 + length word → with_words n (Some used) (singles word ∷ words) ≡ 10 ∷ (broken n None (singles word) ++ with_words n (Some (unwrap_or (last_used n None (singles word)) 0)) words)
word-turns n used [] words all some over = absurd (omega (arith, some))
word-turns n used (b ∷ bs) words all some over =
    let no : nat_le (used + 1 + columns_in (singles (b ∷ bs))) n ≡ false = lt-leb _ n (omega (arith, singles-columns (b ∷ bs) all, over)) in
    (rw no refl) ∙ ap (λ xs. 10 ∷ (broken n None (singles (b ∷ bs)) ++ xs)) (words-behind n (last_used n None (singles (b ∷ bs))) words)

-- ---- as bytes

-- what stands before others, as bytes
pub encode-behind : (out xs ys : List ℕ) → ArePlain xs → out ++ encode_utf8_all (xs ++ ys) ≡ (out ++ xs) ++ encode_utf8_all ys
encode-behind out xs ys all = ap (λ bs. out ++ bs) (encodes-append xs ys ∙ ap (λ bs. bs ++ encode_utf8_all ys) (plain-bytes xs all)) ∙ sym (append_assoc out xs (encode_utf8_all ys))

pub encode-after : (out xs ys : List ℕ) → out ++ encode_utf8_all (xs ++ ys) ≡ (out ++ encode_utf8_all xs) ++ encode_utf8_all ys
encode-after out xs ys = ap (λ bs. out ++ bs) (encodes-append xs ys) ∙ sym (append_assoc out (encode_utf8_all xs) (encode_utf8_all ys))

pub encode-char : (out : List ℕ) (c : ℕ) (ys : List ℕ) → out ++ encode_utf8_all (c ∷ ys) ≡ (out ++ encode_utf8 c) ++ encode_utf8_all ys
encode-char out c ys = sym (append_assoc out (encode_utf8 c) (encode_utf8_all ys))

-- a plain text is one line
pub wrapped-plain : (n : ℕ) (keeps : Bool) (text : List ℕ) → 1 ≤ n → ArePlain text → encode_utf8_all (wrapped_line n keeps (pieces (chars text))) ≡ wrapped (n, keeps) text
wrapped-plain n keeps text some all =
    let whole : wrapped_line n keeps (singles text) ≡ wrapped_characters n keeps (chars text) = ap (λ ls. join_with_byte 10 (map (wrapped_line n keeps) ls)) (sym (plain-line text all)) in
    rw (ne_eqb n 0 (λ e. omega (arith, e, some))) (ap encode_utf8_all (ap (wrapped_line n keeps) (plain-pieces text all) ∙ whole))

-- ---- cut between any characters, line by line

-- one line more is put
pub cut-more : (n : ℕ) (out line others rest new all : List ℕ) → 1 ≤ n → ArePlain line → ArePlain others → 1 ≤ length others → length line ≡ n → rest ≡ line ++ others → new ≡ (out ++ line) ++ encode_utf8 10 → out ++ encode_utf8_all (broken n None (singles rest)) ≡ all → new ++ encode_utf8_all (broken n None (singles others)) ≡ all
cut-more n out line others rest new all some plain more_plain more full whole is before =
    let next = broken n None (singles others) in
    ap (λ bs. bs ++ encode_utf8_all next) is
    ∙ sym (encode-char (out ++ line) 10 next)
    ∙ sym (encode-behind out line (10 ∷ next) plain)
    ∙ ap (λ cs. out ++ encode_utf8_all cs) (sym (ap (λ bs. broken n None (singles bs)) whole ∙ (line-full n line others some full plain more_plain more).0))
    ∙ before

-- and the last one
pub cut-last : (n : ℕ) (out rest new all : List ℕ) → ArePlain rest → length rest ≤ n → new ≡ out ++ rest → out ++ encode_utf8_all (broken n None (singles rest)) ≡ all → new ≡ all
cut-last n out rest new all plain le is before = is ∙ ap (λ bs. out ++ bs) (sym (ap encode_utf8_all (line-whole n rest plain le).0 ∙ plain-bytes rest plain)) ∙ before

-- ---- between words, one by one

module _ (n used : ℕ) (out word : List ℕ) (words : List (List (List ℕ))) (all : ArePlain word) where
  together : out ++ encode_utf8_all (with_words n (Some used) (pieces (chars word) ∷ words)) ≡ out ++ encode_utf8_all (with_words n (Some used) (singles word ∷ words))
  together = ap (λ ps. out ++ encode_utf8_all (with_words n (Some used) (ps ∷ words))) (plain-pieces word all)

  pub put-fits : (new : List ℕ) → used + 1 + length word ≤ n → new ≡ (out ++ encode_utf8 32) ++ word → out ++ encode_utf8_all (with_words n (Some used) (pieces (chars word) ∷ words)) ≡ new ++ encode_utf8_all (with_words n (Some (used + 1 + length word)) words)
  put-fits new le is =
      let rest = with_words n (Some (used + 1 + length word)) words in
      together ∙ ap (λ cs. out ++ encode_utf8_all cs) (word-fits n used word words all le) ∙ encode-char out 32 (word ++ rest) ∙ encode-behind (out ++ encode_utf8 32) word rest all ∙ ap (λ bs. bs ++ encode_utf8_all rest) (sym is)

  pub put-none : word ≡ [] → n < used + 1 → out ++ encode_utf8_all (with_words n (Some used) (pieces (chars word) ∷ words)) ≡ out ++ encode_utf8_all (with_words n (Some used) words)
  put-none none over = together ∙ ap (λ w. out ++ encode_utf8_all (with_words n (Some used) (singles w ∷ words))) none ∙ ap (λ cs. out ++ encode_utf8_all cs) (none-goes n used words over)

  pub put-turns : (new : List ℕ) (columns : ℕ) → 1 ≤ length word → n < used + 1 + length word → new ≡ (out ++ encode_utf8 10) ++ encode_utf8_all (broken n None (pieces (chars word))) → columns ≡ unwrap_or (last_used n None (pieces (chars word))) 0 → out ++ encode_utf8_all (with_words n (Some used) (pieces (chars word) ∷ words)) ≡ new ++ encode_utf8_all (with_words n (Some columns) words)
  put-turns new columns some over is used_is =
      let single = plain-pieces word all in
      let rest = with_words n (Some (unwrap_or (last_used n None (singles word)) 0)) words in
      together ∙ ap (λ cs. out ++ encode_utf8_all cs) (word-turns n used word words all some over) ∙ encode-char out 10 (broken n None (singles word) ++ rest) ∙ encode-after (out ++ encode_utf8 10) (broken n None (singles word)) rest
      ∙ ap₂ (λ bs k. bs ++ encode_utf8_all (with_words n (Some k) words)) (sym (is ∙ ap (λ ps. (out ++ encode_utf8 10) ++ encode_utf8_all (broken n None ps)) single)) (sym (used_is ∙ ap (λ ps. unwrap_or (last_used n None ps) 0) single))

-- the first word
pub first-put : (n : ℕ) (out text first new : List ℕ) (others : List (List ℕ)) (columns : ℕ) → ArePlain text → ArePlain first → blank_words text ≡ first ∷ others → new ≡ out ++ encode_utf8_all (broken n None (pieces (chars first))) → columns ≡ unwrap_or (last_used n None (pieces (chars first))) 0 → new ++ encode_utf8_all (with_words n (Some columns) (map singles others)) ≡ out ++ encode_utf8_all (wrapped_line n true (pieces (chars text)))
first-put n out text first new others columns plain first_plain parts is used_is =
    let single = plain-pieces first first_plain in
    let line = broken n None (singles first) in
    let rest = with_words n (last_used n None (singles first)) (map singles others) in
    let all : words_wrapped n (slice_split (is_just 32) (pieces (chars text))) ≡ line ++ rest = ap (λ ps. words_wrapped n (slice_split (is_just 32) ps)) (plain-pieces text plain) ∙ ap (words_wrapped n) (words-single text ∙ ap (map singles) parts) in
    ap₂ (λ bs k. bs ++ encode_utf8_all (with_words n (Some k) (map singles others))) (is ∙ ap (λ ps. out ++ encode_utf8_all (broken n None ps)) single) (used_is ∙ ap (λ ps. unwrap_or (last_used n None ps) 0) single)
    ∙ ap (λ cs. (out ++ encode_utf8_all line) ++ encode_utf8_all cs) (sym (words-behind n (last_used n None (singles first)) (map singles others)))
    ∙ sym (encode-after out line rest)
    ∙ ap (λ cs. out ++ encode_utf8_all cs) (sym all)
