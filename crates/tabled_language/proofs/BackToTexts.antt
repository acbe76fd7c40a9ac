-- What is written of texts is read as these texts.
use Rattle.tabled_language.proofs.Common.{[], ◌++◌, ◌∙◌, ◌∷◌, ◌≡◌, All-from_recursion, AllByRecursion, Bool, IsUtf8, List, Some, all-append, ap, append_assoc, before, codes, cond, eq-eqb, eqb, eqb-true, escaped, escaped_byte, false, flat_map, is_utf8-from_IsUtf8, join_with_byte, line, lines_of, map, refl, slice_split, slice_split_at, slice_split_none, sym, tab_separated, text_of_word, texts_of, true, unescaped, words_of, ℕ}
use Rattle.tabled_language.proofs.Escapes.{unescaped-plain}

-- a byte stands nowhere in a list
abbrev pub Lacks : ℕ → List ℕ → Type 0
Lacks at bytes = AllByRecursion (λ b. eqb b at ≡ false) bytes

-- a byte's escape is undone, whatever follows
unescaped-byte : (b : ℕ) (bs : List ℕ) → unescaped (escaped_byte b ++ bs) ≡ before b (unescaped bs)
unescaped-byte b bs = escape_undone (eqb b 9) (eqb b 10) (eqb b 92) refl refl refl
  where
    escape_undone : (t n s : Bool) → eqb b 9 ≡ t → eqb b 10 ≡ n → eqb b 92 ≡ s → unescaped (cond t (codes "\\t") (cond n (codes "\\n") (cond s (codes "\\\\") (b ∷ []))) ++ bs) ≡ before b (unescaped bs)
    escape_undone true n s et en es = ap (λ c. before c (unescaped bs)) (sym (eqb-true b 9 et))
    escape_undone false true s et en es = ap (λ c. before c (unescaped bs)) (sym (eqb-true b 10 en))
    escape_undone false false true et en es = ap (λ c. before c (unescaped bs)) (sym (eqb-true b 92 es))
    escape_undone false false false et en es = unescaped-plain b bs es

-- the word that stands for a text is read as that text
pub unescaped-escaped : (text : List ℕ) → unescaped (escaped text) ≡ Some text
unescaped-escaped [] = refl
unescaped-escaped (b ∷ bs) = unescaped-byte b (escaped bs) ∙ ap (before b) (unescaped-escaped bs)

pub text_of_word-escaped : (text : List ℕ) → IsUtf8 text → text_of_word (escaped text) ≡ Some text
text_of_word-escaped text utf8 = rw (unescaped-escaped text, is_utf8-from_IsUtf8 text utf8) refl

pub texts_of-escaped : (texts : List (List ℕ)) → AllByRecursion IsUtf8 texts → texts_of (map escaped texts) ≡ Some texts
texts_of-escaped [] utf8 = refl
texts_of-escaped (text ∷ texts) utf8 = rw (text_of_word-escaped text utf8.0, texts_of-escaped texts utf8.1) refl

lacks-byte : (at b : ℕ) → eqb 92 at ≡ false → eqb 116 at ≡ false → eqb 110 at ≡ false → (eqb b 9 ≡ false → eqb b 10 ≡ false → eqb b at ≡ false) → Lacks at (escaped_byte b)
lacks-byte at b slash t n plain = escape_lacks (eqb b 9) (eqb b 10) (eqb b 92) refl refl
  where
    escape_lacks : (x y z : Bool) → eqb b 9 ≡ x → eqb b 10 ≡ y → Lacks at (cond x (codes "\\t") (cond y (codes "\\n") (cond z (codes "\\\\") (b ∷ []))))
    escape_lacks true y z ex ey = (slash, (t, tt))
    escape_lacks false true z ex ey = (slash, (n, tt))
    escape_lacks false false true ex ey = (slash, (slash, tt))
    escape_lacks false false false ex ey = (plain ex ey, tt)

-- no tab and no newline stands in a word that was written
pub lacks_tab : (text : List ℕ) → Lacks 9 (escaped text)
lacks_tab [] = tt
lacks_tab (b ∷ bs) = all-append (λ c. eqb c 9 ≡ false) (escaped_byte b) (escaped bs) (lacks-byte 9 b refl refl refl (λ tab newline. tab)) (lacks_tab bs)

pub lacks_newline : (text : List ℕ) → Lacks 10 (escaped text)
lacks_newline [] = tt
lacks_newline (b ∷ bs) = all-append (λ c. eqb c 10 ≡ false) (escaped_byte b) (escaped bs) (lacks-byte 10 b refl refl refl (λ tab newline. newline)) (lacks_newline bs)

-- words joined by a byte that stands in none of them are parted at it
pub split-joined : (at : ℕ) (word : List ℕ) (words : List (List ℕ)) → Lacks at word → AllByRecursion (Lacks at) words → slice_split (λ b. eqb b at) (join_with_byte at (word ∷ words)) ≡ word ∷ words
split-joined at word [] here others = slice_split_none (λ b. eqb b at) word (All-from_recursion _ _ here)
split-joined at word (next ∷ words) here others =
    slice_split_at (λ b. eqb b at) word at (join_with_byte at (next ∷ words)) (All-from_recursion _ _ here) (eq-eqb at at refl)
    ∙ ap (λ parts. word ∷ parts) (split-joined at next words others.0 others.1)

all_lack_tab : (texts : List (List ℕ)) → AllByRecursion (Lacks 9) (map escaped texts)
all_lack_tab [] = tt
all_lack_tab (text ∷ texts) = (lacks_tab text, all_lack_tab texts)

-- the words of a written line are those that were written
pub words_of-joined : (text : List ℕ) (texts : List (List ℕ)) → words_of (tab_separated (text ∷ texts)) ≡ map escaped (text ∷ texts)
words_of-joined text texts = split-joined 9 (escaped text) (map escaped texts) (lacks_tab text) (all_lack_tab texts)

pub texts_of-joined : (text : List ℕ) (texts : List (List ℕ)) → IsUtf8 text → AllByRecursion IsUtf8 texts → texts_of (words_of (tab_separated (text ∷ texts))) ≡ Some (text ∷ texts)
texts_of-joined text texts here others = ap texts_of (words_of-joined text texts) ∙ texts_of-escaped (text ∷ texts) (here, others)

join-lacks : (at c : ℕ) (words : List (List ℕ)) → eqb c at ≡ false → AllByRecursion (Lacks at) words → Lacks at (join_with_byte c words)
join-lacks at c [] other all = tt
join-lacks at c (word ∷ []) other all = all.0
join-lacks at c (word ∷ next ∷ words) other all = all-append (λ b. eqb b at ≡ false) word (c ∷ join_with_byte c (next ∷ words)) all.0 (other, join-lacks at c (next ∷ words) other all.1)

all_lack_newline : (texts : List (List ℕ)) → AllByRecursion (Lacks 10) (map escaped texts)
all_lack_newline [] = tt
all_lack_newline (text ∷ texts) = (lacks_newline text, all_lack_newline texts)

-- no newline stands in a written line
pub joined_lacks_newline : (texts : List (List ℕ)) → Lacks 10 (tab_separated texts)
joined_lacks_newline texts = join-lacks 10 9 (map escaped texts) refl (all_lack_newline texts)

-- written lines are read as these lines, before those of what follows
pub lines_of-line : (texts : List (List ℕ)) (rest : List ℕ) → lines_of (line texts ++ rest) ≡ tab_separated texts ∷ lines_of rest
lines_of-line texts rest = ap lines_of (append_assoc (tab_separated texts) (10 ∷ []) rest) ∙ slice_split_at (λ b. eqb b 10) (tab_separated texts) 10 rest (All-from_recursion _ _ (joined_lacks_newline texts)) refl

pub lines_of-lines : {A : Type 0} (texts_in : A → List (List ℕ)) (xs : List A) (rest : List ℕ) → lines_of (flat_map (λ x. line (texts_in x)) xs ++ rest) ≡ map (λ x. tab_separated (texts_in x)) xs ++ lines_of rest
lines_of-lines texts_in [] rest = refl
lines_of-lines texts_in (x ∷ xs) rest =
    ap lines_of (append_assoc (line (texts_in x)) (flat_map (λ y. line (texts_in y)) xs) rest)
    ∙ lines_of-line (texts_in x) (flat_map (λ y. line (texts_in y)) xs ++ rest)
    ∙ ap (λ lines. tab_separated (texts_in x) ∷ lines) (lines_of-lines texts_in xs rest)
