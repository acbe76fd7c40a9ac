-- What a reader takes what stands for texts in Markdown for.
use Rattle.std.proofs.lemmas.Bool.Decides.{nat_tests}
use Rattle.std.proofs.lemmas.Fmt.{decimal_by_steps, decimal_is_IsNumeral}
use Rattle.std.proofs.lemmas.Slice.Eq.{bytes_eq-Decides}
use Rattle.std.specs.Char.{is_ascii_punctuation, is_control, is_whitespace}
use Rattle.std.specs.Fmt.{decimal}
use Rattle.std.specs.List.{before_first, position_or_len}
use Rattle.std.specs.Option.{option_and_then, option_map}
use Rattle.std.specs.Prelude.{chars, codes}
use Rattle.std.specs.Str.{bytes_eq}
use Rattle.tabled_draw.proofs.Common.{AllByRecursion, Bool, List, Some, [], all-append, ap, append_assoc, ap₂, arith, cases_lt, cond, eqb, eqb-true, false, get_or, inl, inr, length, ne_eqb, refl, suc, sym, take, true, ℕ, ◌&&◌, ◌++◌, ◌+◌, ◌<◌, ◌||◌, ◌∙◌, ◌∷◌, ◌≡◌, ◌≤◌, ◌⊎◌, false≢true}
use Rattle.std.proofs.Common.{◌^◌}
use Rattle.tabled_draw.specs.Markdown.{escape, escaped, escaped_behind, goes_on, is_mark, is_markup, is_numbered}
use Rattle.tabled_draw.specs.MarkdownRead.{first_read, read_behind, reference}

-- ---- numbers

pub digits-only : (n : ℕ) → n < 2 ^ 64 → AllByRecursion (λ d. (48 ≤ d) × (d ≤ 57)) (decimal n)
digits-only n small = decimal_by_steps (λ n ds. AllByRecursion (λ d. (48 ≤ d) × (d ≤ 57)) ds) (λ n less. ((omega arith, omega (arith, less)), tt)) (λ n ds more all. all-append (λ d. (48 ≤ d) × (d ≤ 57)) ds _ all ((omega arith, omega arith), tt)) n small

take-front : (ds rest : List ℕ) → take (length ds) (ds ++ rest) ≡ ds
take-front [] rest = refl
take-front (d ∷ ds) rest = ap (λ xs. d ∷ xs) (take-front ds rest)

semicolon-at : (ds rest : List ℕ) → AllByRecursion (λ d. (48 ≤ d) × (d ≤ 57)) ds → position_or_len (λ c. eqb c 59) (ds ++ (59 ∷ rest)) ≡ length ds
semicolon-at [] rest all = refl
semicolon-at (d ∷ ds) rest all = rw (ne_eqb d 59 (λ e. omega (arith, e, all.0.1))) (ap (λ n. 1 + n) (semicolon-at ds rest all.1) ∙ (let e : 1 + length ds ≡ suc (length ds) = omega arith in e))

before-semicolon : (ds rest : List ℕ) → AllByRecursion (λ d. (48 ≤ d) × (d ≤ 57)) ds → before_first (λ c. eqb c 59) (ds ++ (59 ∷ rest)) ≡ ds
before-semicolon ds rest all = ap (λ n. take n (ds ++ (59 ∷ rest))) (semicolon-at ds rest all) ∙ take-front ds (59 ∷ rest)

same-bytes : (xs : List ℕ) → bytes_eq xs xs ≡ true
same-bytes xs = (bytes_eq-Decides xs xs).1 refl

-- the number of a character is read
number-read : (c : ℕ) (rest : List ℕ) → c < 2 ^ 64 → reference (35 ∷ (decimal c ++ (59 ∷ rest))) ≡ Some (c, suc (suc (length (decimal c))))
unfolding reference
number-read c rest small =
    rw (before-semicolon (decimal c) rest (digits-only c small), (decimal_is_IsNumeral c small).1, same-bytes (decimal c)) refl

no-control : (c : ℕ) → 20000 ≤ c → is_control c ≡ false
no-control c big = grind (arith, nat_tests)

no-blank : (c : ℕ) → 20000 ≤ c → is_whitespace c ≡ false
no-blank c big = grind (arith, nat_tests)

pub numbered-small : (before c after : ℕ) → is_numbered before c after ≡ true → c < 2 ^ 64
unfolding is_numbered
numbered-small before c after is = below (cases_lt c 20000)
  where
    below : (c < 20000) ⊎ (20000 ≤ c) → c < 2 ^ 64
    below (inl less) = omega (arith, less)
    below (inr big) = absurd (false≢true (sym (ap₂ (λ x y. x || (y && (is_whitespace before || eqb after 10))) (no-control c big) (no-blank c big)) ∙ is))

-- ---- marks

other : (c n : ℕ) → is_ascii_punctuation c ≡ false → is_ascii_punctuation n ≡ true → eqb c n ≡ false
other c n not_c is_n = ne_eqb c n (λ e. false≢true (sym not_c ∙ ap is_ascii_punctuation e ∙ is_n))

markup-punctuation : (before c after : ℕ) → is_markup before c after ≡ true → is_ascii_punctuation c ≡ true
unfolding is_markup is_mark
markup-punctuation before c after is = decided (is_ascii_punctuation c) refl
  where
    decided : (b : Bool) → is_ascii_punctuation c ≡ b → is_ascii_punctuation c ≡ true
    decided true e = e
    decided false e = absurd (false≢true (sym (rw (other c 92 e refl, other c 96 e refl, other c 42 e refl, other c 95 e refl, other c 91 e refl, other c 93 e refl, other c 126 e refl, other c 124 e refl, other c 58 e refl, other c 46 e refl) refl) ∙ is))

same-markup : (m k g h d w v : Bool) → (h ≡ true → g ≡ true) → (v ≡ true → w ≡ true) → (m || ((k && g) || (d && w))) ≡ false → (m || ((k && h) || (d && v))) ≡ false
same-markup m k g h d w v more back is = grind (arith)

-- ---- a character that is read

-- behind which character the next one stands, where it is read
abbrev is_w : ℕ → Bool
is_w c = eqb c 119 || eqb c 87

first-goes_on : (c : ℕ) (cs : List ℕ) → goes_on (get_or (escaped_behind c cs) 0 32) ≡ true → goes_on (get_or cs 0 10) ≡ true
unfolding escape goes_on
first-goes_on c [] is = absurd (false≢true is)
first-goes_on c (d ∷ ds) is = first (eqb d 10) (eqb d 38) (eqb d 60) (is_numbered c d (get_or ds 0 10)) (is_markup c d (get_or ds 0 10)) is
  where
    first : (n a l r m : Bool) → goes_on (get_or (cond n (codes "<br>") (cond a (codes "&amp;") (cond l (codes "&lt;") (cond r (codes "&#" ++ (decimal d ++ codes ";")) (cond m (92 ∷ d ∷ []) (d ∷ []))))) ++ escaped_behind d ds) 0 32) ≡ true → goes_on d ≡ true
    first true a l r m is = absurd (false≢true is)
    first false true l r m is = absurd (false≢true is)
    first false false true r m is = absurd (false≢true is)
    first false false false true m is = absurd (false≢true is)
    first false false false false true is = absurd (false≢true is)
    first false false false false false is = is

skip-digits : (ds : List ℕ) (p : ℕ) (rest : List ℕ) → read_behind p (suc (length ds)) (ds ++ (59 ∷ rest)) ≡ read_behind 59 0 rest
skip-digits [] p rest = refl
skip-digits (d ∷ ds) p rest = skip-digits ds d rest

read-break : (q : ℕ) (rest : List ℕ) → read_behind q 0 (codes "<br>" ++ rest) ≡ option_map (λ t. 10 ∷ t) (read_behind 62 0 rest)
unfolding first_read
read-break q rest = refl

read-ampersand : (q : ℕ) (rest : List ℕ) → read_behind q 0 (codes "&amp;" ++ rest) ≡ option_map (λ t. 38 ∷ t) (read_behind 59 0 rest)
unfolding first_read reference
read-ampersand q rest = refl

read-less : (q : ℕ) (rest : List ℕ) → read_behind q 0 (codes "&lt;" ++ rest) ≡ option_map (λ t. 60 ∷ t) (read_behind 59 0 rest)
unfolding first_read reference
read-less q rest = refl

read-number : (q c : ℕ) (rest : List ℕ) → c < 2 ^ 64 → read_behind q 0 ((codes "&#" ++ (decimal c ++ codes ";")) ++ rest) ≡ option_map (λ t. c ∷ t) (read_behind 59 0 rest)
unfolding first_read
read-number q c rest small =
    ap (λ xs. read_behind q 0 (38 ∷ 35 ∷ xs)) (append_assoc (decimal c) (59 ∷ []) rest)
    ∙ ap (λ r. option_and_then (λ (first : ℕ × ℕ). option_map (λ text. first.0 ∷ text) (read_behind 38 first.1 (35 ∷ (decimal c ++ (59 ∷ rest))))) r) (number-read c rest small)
    ∙ ap (option_map (λ text. c ∷ text)) (skip-digits (decimal c) 35 rest)

read-mark : (q c : ℕ) (rest : List ℕ) → is_ascii_punctuation c ≡ true → read_behind q 0 (92 ∷ c ∷ rest) ≡ option_map (λ t. c ∷ t) (read_behind c 0 rest)
unfolding first_read
read-mark q c rest is = rw is refl

read-plain : (q c : ℕ) (rest : List ℕ) → eqb c 92 ≡ false → eqb c 60 ≡ false → eqb c 38 ≡ false → is_control c ≡ false → is_markup q c (get_or rest 0 32) ≡ false → read_behind q 0 (c ∷ rest) ≡ option_map (λ t. c ∷ t) (read_behind c 0 rest)
unfolding first_read
read-plain q c rest backslash less ampersand control markup = rw (backslash, less, ampersand, control, markup) refl

-- ---- a text that is read

pub or-false : (a b : Bool) → (a || b) ≡ false → a ≡ false
or-false true b is = absurd (false≢true (sym is))
or-false false b is = refl

no-backslash : (before c after : ℕ) → is_markup before c after ≡ false → eqb c 92 ≡ false
unfolding is_markup is_mark
no-backslash before c after is = or-false (eqb c 92) _ (or-false (is_mark c) _ is)

unnumbered-control : (before c after : ℕ) → is_numbered before c after ≡ false → is_control c ≡ false
unfolding is_numbered
unnumbered-control before c after is = or-false (is_control c) _ is

no-markup : (q before c after next : ℕ) → (is_w q ≡ true → is_w before ≡ true) → (goes_on next ≡ true → goes_on after ≡ true) → is_markup before c after ≡ false → is_markup q c next ≡ false
unfolding is_markup
no-markup q before c after next back more is = same-markup (is_mark c) (eqb c 58) (goes_on after) (goes_on next) (eqb c 46) (is_w before) (is_w q) more back is

-- a character is read from what stands for it, and those behind it from what is behind that
record Reads (q c : ℕ) (token rest : List ℕ) : Type 0 where
  last : ℕ
  same : is_w last ≡ true → is_w c ≡ true
  is : read_behind q 0 (token ++ rest) ≡ option_map (λ t. c ∷ t) (read_behind last 0 rest)

read-one : (q before c after : ℕ) (rest : List ℕ) → (is_w q ≡ true → is_w before ≡ true) → (goes_on (get_or rest 0 32) ≡ true → goes_on after ≡ true) → Reads q c (escape before c after) rest
unfolding escape
read-one q before c after rest back more = one (eqb c 10) (eqb c 38) (eqb c 60) (is_numbered before c after) (is_markup before c after) refl refl refl refl refl
  where
    one : (n a l r m : Bool) → eqb c 10 ≡ n → eqb c 38 ≡ a → eqb c 60 ≡ l → is_numbered before c after ≡ r → is_markup before c after ≡ m → Reads q c (cond n (codes "<br>") (cond a (codes "&amp;") (cond l (codes "&lt;") (cond r (codes "&#" ++ (decimal c ++ codes ";")) (cond m (92 ∷ c ∷ []) (c ∷ [])))))) rest
    one true a l r m en ea el er em = record { last = 62; same = λ w. absurd (false≢true w); is = read-break q rest ∙ ap (λ k. option_map (λ t. k ∷ t) (read_behind 62 0 rest)) (sym (eqb-true c 10 en)) }
    one false true l r m en ea el er em = record { last = 59; same = λ w. absurd (false≢true w); is = read-ampersand q rest ∙ ap (λ k. option_map (λ t. k ∷ t) (read_behind 59 0 rest)) (sym (eqb-true c 38 ea)) }
    one false false true r m en ea el er em = record { last = 59; same = λ w. absurd (false≢true w); is = read-less q rest ∙ ap (λ k. option_map (λ t. k ∷ t) (read_behind 59 0 rest)) (sym (eqb-true c 60 el)) }
    one false false false true m en ea el er em = record { last = 59; same = λ w. absurd (false≢true w); is = read-number q c rest (numbered-small before c after er) }
    one false false false false true en ea el er em = record { last = c; same = λ w. w; is = read-mark q c rest (markup-punctuation before c after em) }
    one false false false false false en ea el er em = record { last = c; same = λ w. w; is = read-plain q c rest (no-backslash before c after em) el ea (unnumbered-control before c after er) (no-markup q before c after (get_or rest 0 32) back more em) }

read-characters : (cs : List ℕ) (q before : ℕ) → (is_w q ≡ true → is_w before ≡ true) → read_behind q 0 (escaped_behind before cs) ≡ Some cs
read-characters [] q before back = refl
read-characters (c ∷ cs) q before back =
    let one = read-one q before c (get_or cs 0 10) (escaped_behind c cs) back (first-goes_on c cs) in
    one.is ∙ ap (option_map (λ t. c ∷ t)) (read-characters cs one.last c one.same)

-- any text is read from what stands for it
pub read-escaped : (text : List ℕ) → read_behind 10 0 (escaped text) ≡ Some (chars text)
read-escaped text = read-characters (chars text) 10 10 (λ w. w)
