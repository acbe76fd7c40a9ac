-- What rows and words mean as lines, and where a line comes from.
use Rattle.tabled_language.proofs.Common.{[], ◌++◌, ◌+◌, ◌-◌, ◌<◌, ◌∙◌, ◌∷◌, ◌≡◌, ◌≢◌, ◌≤◌, ◌⊎◌, AllByRecursion, Bool, EmptyLine, IsUtf8, Line, List, RecordLine, ap, append_assoc, arith, codes, cond, ended_lines, eqb, escaped, escaped_byte, false, get_or, inl, inr, leb, leb_tells, length, length-append, length-map, lines_between, map, parse, parse_between, refl, says_line, says_words, script_or_fault, sym, tab_separated, true, ℕ}
use Rattle.std.proofs.Math.Seq.{get_or-append_right}
use Rattle.std.proofs.lemmas.List.{get_or-map, get_or_append_left}
use Rattle.tabled_language.specs.Origins.{origin_of, said_at}
use Rattle.tabled_language.specs.Output.{row_lines}
use Rattle.tabled_language.specs.declared.origin.Origin.TheVariants.{Line as InLine, Words}
use Rattle.tabled_language.proofs.BackToLines.{all_back, row_back}
use Rattle.tabled_language.proofs.BackToTexts.{texts_of-joined}
use Rattle.tabled_language.proofs.EndedLines.{ended-lines, parse_between-alone}
use Rattle.tabled_language.proofs.ScriptLines.{line_of-texts}

-- rows are `row` lines before the bytes
pub rows-lines : (rows : List (List (List ℕ))) (input : List ℕ) (words : List (List (List ℕ))) → AllByRecursion (AllByRecursion IsUtf8) rows → lines_between rows input words ≡ lines_between [] (row_lines rows ++ input) words
rows-lines rows input words utf8 =
    let said : map says_line (ended_lines (row_lines rows ++ input)) ≡ map RecordLine rows ++ map says_line (ended_lines input) =
    ap (map says_line) (ended-lines (λ (row : List (List ℕ)). codes "row" ∷ row) rows input)
    ∙ all_back (λ (row : List (List ℕ)). codes "row" ∷ row) RecordLine (AllByRecursion IsUtf8) row_back rows (ended_lines input) utf8 in
    sym (append_assoc (map RecordLine rows) (map says_line (ended_lines input)) (map says_words words)) ∙ ap (λ lines. lines ++ map says_words words) (sym said)

-- so a script behind rows is one that begins with `row` lines
pub rows-script : (rows : List (List (List ℕ))) (input : List ℕ) → AllByRecursion (AllByRecursion IsUtf8) rows → parse_between rows input [] ≡ parse (row_lines rows ++ input)
rows-script rows input utf8 = ap script_or_fault (rows-lines rows input [] utf8) ∙ parse_between-alone (row_lines rows ++ input)

-- words mean what their line says
pub words-line : (words : List (List ℕ)) → AllByRecursion IsUtf8 words → says_words words ≡ says_line (tab_separated words)
words-line [] utf8 = refl
words-line ([] ∷ []) utf8 = refl
words-line ([] ∷ text ∷ texts) utf8 = sym (line_of-texts (tab_separated ([] ∷ text ∷ texts)) ([] ∷ text ∷ texts) (omega arith) (texts_of-joined [] (text ∷ texts) utf8.0 utf8.1))
words-line ((b ∷ bs) ∷ texts) utf8 = sym (line_of-texts (tab_separated ((b ∷ bs) ∷ texts)) ((b ∷ bs) ∷ texts) (some texts) (texts_of-joined (b ∷ bs) texts utf8.0 utf8.1))
  where
    byte_some : (tab newline backslash : Bool) → 0 < length (cond tab (codes "\\t") (cond newline (codes "\\n") (cond backslash (codes "\\\\") (b ∷ []))))
    byte_some true newline backslash = omega arith
    byte_some false true backslash = omega arith
    byte_some false false true = omega arith
    byte_some false false false = omega arith

    text_some : 0 < length (escaped (b ∷ bs))
    text_some = omega (arith, byte_some (eqb b 9) (eqb b 10) (eqb b 92), length-append (escaped_byte b) (escaped bs))

    some : (texts : List (List ℕ)) → length (tab_separated ((b ∷ bs) ∷ texts)) ≢ 0
    some [] = omega (arith, text_some)
    some (text ∷ texts) = omega (arith, text_some, length-append (escaped (b ∷ bs)) (9 ∷ tab_separated (text ∷ texts)))

-- what is said where a line comes from is what that line says
module _ (rows : List (List (List ℕ))) (input : List ℕ) (words : List (List (List ℕ))) (n : ℕ) where
  row : n + 1 ≤ length rows → RecordLine (get_or rows (n + 1 - 1) []) ≡ get_or (lines_between rows input words) n EmptyLine
  row here =
      let same : n + 1 - 1 ≡ n = omega arith in
      rw same (sym (get_or_append_left (map RecordLine rows) (map says_line (ended_lines input) ++ map says_words words) EmptyLine n (omega (arith, here, length-map rows RecordLine)) ∙ get_or-map RecordLine rows n [] EmptyLine (omega (arith, here))))

  behind : length rows < n + 1 → get_or (lines_between rows input words) n EmptyLine ≡ get_or (map says_line (ended_lines input) ++ map says_words words) (n - length rows) EmptyLine
  behind later =
      let same : n - length (map RecordLine rows) ≡ n - length rows = omega (arith, length-map rows RecordLine) in
      get_or-append_right (map RecordLine rows) (map says_line (ended_lines input) ++ map says_words words) n EmptyLine (omega (arith, later, length-map rows RecordLine))
      ∙ ap (λ i. get_or (map says_line (ended_lines input) ++ map says_words words) i EmptyLine) same

  line_of_bytes : length rows < n + 1 → n + 1 - length rows ≤ length (ended_lines input) → says_line (get_or (ended_lines input) (n + 1 - length rows - 1) []) ≡ get_or (lines_between rows input words) n EmptyLine
  line_of_bytes later here =
      let same : n + 1 - length rows - 1 ≡ n - length rows = omega (arith, later) in
      rw same (sym (behind later
      ∙ get_or_append_left (map says_line (ended_lines input)) (map says_words words) EmptyLine (n - length rows) (omega (arith, later, here, length-map (ended_lines input) says_line))
      ∙ get_or-map says_line (ended_lines input) (n - length rows) [] EmptyLine (omega (arith, later, here))))

  line_of_words : n < length (lines_between rows input words) → length rows < n + 1 → length (ended_lines input) < n + 1 - length rows → says_words (get_or words (n + 1 - length rows - length (ended_lines input) - 1) []) ≡ get_or (lines_between rows input words) n EmptyLine
  line_of_words within later last =
      let lines = length-map (ended_lines input) says_line in
      let i = n - length rows - length (ended_lines input) in
      let same : n + 1 - length rows - length (ended_lines input) - 1 ≡ i = omega (arith, later, last) in
      let place : n - length rows - length (map says_line (ended_lines input)) ≡ i = omega (arith, lines) in
      let some : i < length words = omega (arith, within, later, last, lines, length-map rows RecordLine, length-map words says_words, length-append (map RecordLine rows) (map says_line (ended_lines input) ++ map says_words words), length-append (map says_line (ended_lines input)) (map says_words words)) in
      rw same (sym (behind later
      ∙ get_or-append_right (map says_line (ended_lines input)) (map says_words words) (n - length rows) EmptyLine (omega (arith, later, last, lines))
      ∙ ap (λ j. get_or (map says_words words) j EmptyLine) place
      ∙ get_or-map says_words words i [] EmptyLine some))

  pub origin_said : n < length (lines_between rows input words) → said_at rows input words (origin_of (length rows) (length (ended_lines input)) (n + 1)) ≡ get_or (lines_between rows input words) n EmptyLine
  origin_said within = row_or_later (leb_tells (n + 1) (length rows))
    where
      line_or_words : length rows < n + 1 → ((leb (n + 1 - length rows) (length (ended_lines input)) ≡ true) × (n + 1 - length rows ≤ length (ended_lines input))) ⊎ ((leb (n + 1 - length rows) (length (ended_lines input)) ≡ false) × (length (ended_lines input) < n + 1 - length rows)) → said_at rows input words (cond (leb (n + 1 - length rows) (length (ended_lines input))) (InLine (n + 1 - length rows)) (Words (n + 1 - length rows - length (ended_lines input)))) ≡ get_or (lines_between rows input words) n EmptyLine
      line_or_words later (inl (is, here)) = rw is (line_of_bytes later here)
      line_or_words later (inr (is, last)) = rw is (line_of_words within later last)

      row_or_later : ((leb (n + 1) (length rows) ≡ true) × (n + 1 ≤ length rows)) ⊎ ((leb (n + 1) (length rows) ≡ false) × (length rows < n + 1)) → said_at rows input words (origin_of (length rows) (length (ended_lines input)) (n + 1)) ≡ get_or (lines_between rows input words) n EmptyLine
      row_or_later (inl (is, here)) = rw is (row here)
      row_or_later (inr (is, later)) = rw is (line_or_words later (leb_tells (n + 1 - length rows) (length (ended_lines input))))
