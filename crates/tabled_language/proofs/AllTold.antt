-- What words tell, each by itself, while they are gone through.
use Rattle.tabled_language.proofs.Common.{[], ◌++◌, ◌<◌, ◌∙◌, ◌∷◌, ◌≡◌, ◌⊎◌, ◌≤◌, EndsEarly, Err, Fault, Faulty, List, None, Ok, Option, OutOfMemory, Result, Some, Vec, ap, append-nil, append_assoc, arith, eqb, eqb-true, false, first_word, inl, inr, length, map, refl, sym, true, vec_len, ℕ}
use Rattle.std.proofs.lemmas.Bool.Decides.{nat_tests}
use Rattle.std.specs.Option.{is_some}
use Rattle.tabled_language.specs.declared.fault.Fault.TheVariants.{NumberRange, WordCount}
use Rattle.tabled_language.specs.LineNames.{NamedLines, reads_named_lines, together}
use Rattle.tabled_language.specs.Parsing.{column_lines, row_lines}
use Rattle.tabled_settings.specs.Named.{all_columns_named, all_rows_named, columns_named, rows_named}
use Rattle.tabled_settings.specs.declared.line_names.ColumnName.{ColumnName}
use Rattle.tabled_settings.specs.declared.line_names.RowName.{RowName}
use Rattle.tabled_language.specs.Words.{all_told, asks_all, in_front, read_all, with_none_left}

-- what was told, before what others tell
abbrev pub onto : {A : Type 0} → List A → Result (List A) Fault → Result (List A) Fault
onto xs (Ok ys) = Ok (xs ++ ys)
onto xs (Err fault) = Err fault

-- the word that is read is the first
pub first_read : (texts left : List (List ℕ)) (word : List ℕ) → first_word texts ≡ Ok (word, left) → texts ≡ word ∷ left
first_read [] left word is = (cc)
first_read (text ∷ texts) left word is =
    let same : (text, texts) ≡ (word, left) = cc in
    ap (λ (parts : List ℕ × List (List ℕ)). parts.0 ∷ parts.1) same

-- no word is left
pub no_words : (texts : List (List ℕ)) → length texts ≤ 0 → texts ≡ []
no_words [] none = refl
no_words (word ∷ texts) none = absurd (omega arith)

no_length : {A : Type 0} (xs : List A) → length xs ≡ 0 → xs ≡ []
no_length [] none = refl
no_length (x ∷ xs) none = absurd (omega arith)

-- nothing is in memory
pub no_items : {A : Type 0} (v : Vec A) → eqb (vec_len v) 0 ≡ true → v.items ≡ []
no_items v none = let few : vec_len v ≡ 0 = eqb-true (vec_len v) 0 none in no_length v.items (sym v.ok.0 ∙ few)

-- something is
pub some_items : {A : Type 0} (v : Vec A) → eqb (vec_len v) 0 ≡ false → 0 < length v.items
some_items v some = grind (arith, nat_tests, v.ok.0)

module _ {A : Type 0} (tells : List ℕ → Option A) where
  onto_front : (xs : List A) (x : A) (told : Result (List A) Fault) → onto xs (in_front (Some x) told) ≡ onto (xs ++ x ∷ []) told
  onto_front xs x (Ok ys) = ap Ok (sym (append_assoc xs (x ∷ []) ys))
  onto_front xs x (Err fault) = refl

  onto_none : (told : Result (List A) Fault) → told ≡ onto [] told
  onto_none (Ok ys) = refl
  onto_none (Err fault) = refl

  -- before the first word nothing is told
  pub none_told : (texts : List (List ℕ)) → all_told tells texts ≡ onto [] (all_told tells texts)
  none_told texts = onto_none (all_told tells texts)

  module _ (texts left : List (List ℕ)) (xs : List A) where
    -- one word more tells something
    pub one_told : (word : List ℕ) (x : A) → tells word ≡ Some x → all_told tells texts ≡ onto xs (all_told tells (word ∷ left)) → all_told tells texts ≡ onto (xs ++ x ∷ []) (all_told tells left)
    one_told word x told before = before ∙ ap (λ (first : Option A). onto xs (in_front first (all_told tells left))) told ∙ onto_front xs x (all_told tells left)

    -- one tells nothing
    pub nothing_told : (word : List ℕ) → tells word ≡ None → all_told tells texts ≡ onto xs (all_told tells (word ∷ left)) → all_told tells texts ≡ Err NumberRange
    nothing_told word none before = before ∙ ap (λ (first : Option A). onto xs (in_front first (all_told tells left))) none

  -- there are no more
  pub all_are_told : (texts : List (List ℕ)) (xs : List A) → all_told tells texts ≡ onto xs (all_told tells []) → all_told tells texts ≡ Ok xs
  all_are_told texts xs before = before ∙ ap Ok (append-nil xs)

  no_first : (x : Option A) (told : Result (List A) Fault) → in_front x told ≡ Ok [] → {P : Type 0} → P
  no_first None told is {P} = (cc)
  no_first (Some x) (Ok xs) is {P} = (cc)
  no_first (Some x) (Err fault) is {P} = (cc)

  -- a faulty word is what is wrong with all of them
  pub read_faulty : (texts : List (List ℕ)) (fault : Fault) → all_told tells texts ≡ Err fault → read_all tells texts ≡ Err fault
  read_faulty [] fault is = (cc)
  read_faulty (word ∷ texts) fault is = rw is refl

  -- no word at all tells nothing
  pub read_none : (texts : List (List ℕ)) → all_told tells texts ≡ Ok [] → read_all tells texts ≡ Err WordCount
  read_none [] is = refl
  read_none (word ∷ texts) is = no_first (tells word) (all_told tells texts) is

  pub read_some : (texts : List (List ℕ)) (x : A) (xs : List A) → all_told tells texts ≡ Ok (x ∷ xs) → read_all tells texts ≡ Ok (x ∷ xs, [])
  read_some [] x xs is = (cc)
  read_some (word ∷ texts) x xs is = rw is refl

  -- memory was asked for once one told something, or nothing was read yet
  pub asked_by : (texts here left : List (List ℕ)) (word : List ℕ) (x : A) → here ≡ word ∷ left → tells word ≡ Some x → (texts ≡ here) ⊎ (asks_all tells texts ≡ true) → asks_all tells texts ≡ true
  asked_by texts here left word x is told (inl same) = ap (asks_all tells) (same ∙ is) ∙ ap is_some told
  asked_by texts here left word x is told (inr asked) = asked

-- of lines that all words left name
module _ (tells : List ℕ → Option NamedLines) (texts : List (List ℕ)) where
  pub lines_faulty : (fault : Fault) → all_told tells texts ≡ Err fault → EndsEarly (reads_named_lines tells) texts (Faulty fault)
  lines_faulty fault is = rw (read_faulty tells texts fault is) refl

  pub lines_missing : all_told tells texts ≡ Ok [] → EndsEarly (reads_named_lines tells) texts (Faulty WordCount)
  lines_missing is = rw (read_none tells texts is) refl

  pub lines_asked : asks_all tells texts ≡ true → EndsEarly (reads_named_lines tells) texts OutOfMemory
  lines_asked is = rw is refl

  pub lines_read : (xs : List NamedLines) → 0 < length xs → all_told tells texts ≡ Ok xs → (reads_named_lines tells).reads texts ≡ Ok (together xs, [])
  lines_read [] some is = absurd (omega arith)
  lines_read (x ∷ xs) some is = rw (read_some tells texts x xs is) refl

-- the lines of names are those that the words of these tell
pub rows_together : (names : List RowName) → together (map row_lines names) ≡ all_rows_named names
rows_together [] = refl
rows_together (name ∷ names) =
    let front : NamedLines → NamedLines = λ lines g. rows_named g name ++ lines g in
    ap front (rows_together names)

pub columns_together : (names : List ColumnName) → together (map column_lines names) ≡ all_columns_named names
columns_together [] = refl
columns_together (name ∷ names) =
    let front : NamedLines → NamedLines = λ lines g. columns_named g name ++ lines g in
    ap front (columns_together names)
