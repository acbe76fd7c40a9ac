-- What a word says of lines, by its first bytes.
use Rattle.tabled_language.proofs.Common.{[], ◌∙◌, ◌∷◌, ◌≡◌, ◌≤◌, ◌<◌, ◌⊎◌, Bool, List, None, Option, Some, ap, ap₂, arith, cases_lt, drop, eqb, false, get_or, inl, inr, length, ne_eqb, not, position_or_len, refl, string_bytes, sym, true, true≢false, ℕ}
use Rattle.std.proofs.lemmas.List.Sums.{passes_at_first, prefix_len-le-length}
use Rattle.std.proofs.lemmas.Str.{IsCharBoundary-before_ascii, IsCharBoundary-end}
use Rattle.std.specs.List.{before_first}
use Rattle.std.specs.Option.{option_map}
use Rattle.std.specs.Str.{IsCharBoundary}
use Rattle.std.specs.Global.{Global}
use Rattle.std.specs.Prelude.{String}
use Rattle.tabled_settings.specs.Named.{rows_where, text_passes}
use Rattle.tabled_settings.specs.declared.line_names.RowName.TheVariants as row
use Rattle.tabled_settings.specs.declared.text_test.TextTest.{TextTest}
use Rattle.tabled_language.specs.Parsing.{row_lines}
use Rattle.tabled_settings.specs.declared.text_test.Comparison.{Comparison}
use Rattle.tabled_grid.specs.declared.config.offset.Offset.TheVariants.{Start}
use Rattle.tabled_select.specs.Locators.{columns_with}
use Rattle.tabled_settings.specs.Sorted.{first_named}
use Rattle.tabled_language.specs.Word.{length_of}
use Rattle.tabled_language.specs.LineNames.{column_told, columns_by, columns_of_word, index_of, lines_told, comparison_with, difference_from, is_operator, number_test, rows_tested, test_told}

-- a comparison without an equals sign
pub comparison_plain : (strict equal : Comparison) (rest : List ℕ) → ((more : List ℕ) → rest ≡ 61 ∷ more → ⊥) → number_test strict rest ≡ comparison_with strict equal rest
comparison_plain strict equal [] plain = refl
comparison_plain strict equal (b ∷ bs) plain = rw (ne_eqb b 61 (λ same. plain bs (ap (λ (c : ℕ). c ∷ bs) same))) refl

difference_plain : (rest : List ℕ) → ((more : List ℕ) → rest ≡ 61 ∷ more → ⊥) → difference_from rest ≡ None
difference_plain [] plain = refl
difference_plain (b ∷ bs) plain = rw (ne_eqb b 61 (λ same. plain bs (ap (λ (c : ℕ). c ∷ bs) same))) refl

-- an exclamation mark without an equals sign is no operator
pub no_difference : (text rest : List ℕ) → text ≡ 33 ∷ rest → ((more : List ℕ) → rest ≡ 61 ∷ more → ⊥) → test_told text ≡ None
no_difference text rest is plain = ap test_told is ∙ difference_plain rest plain

-- other bytes begin none
pub no_operator : (text : List ℕ) → ((more : List ℕ) → text ≡ 61 ∷ more → ⊥) → ((more : List ℕ) → text ≡ 33 ∷ more → ⊥) → ((more : List ℕ) → text ≡ 60 ∷ more → ⊥) → ((more : List ℕ) → text ≡ 62 ∷ more → ⊥) → test_told text ≡ None
no_operator [] equals mark less more = refl
no_operator (b ∷ bs) equals mark less more =
    let other : (c : ℕ) → ((rest : List ℕ) → b ∷ bs ≡ c ∷ rest → ⊥) → eqb b c ≡ false = λ c no. ne_eqb b c (λ same. no bs (ap (λ (d : ℕ). d ∷ bs) same)) in
    rw (other 61 equals, other 33 mark, other 60 less, other 62 more) refl

operator_false : (b : ℕ) → 128 ≤ b → is_operator b ≡ false
operator_false b high = rw (ne_eqb b 61 (λ e. omega (arith, e, high)), ne_eqb b 33 (λ e. omega (arith, e, high)), ne_eqb b 60 (λ e. omega (arith, e, high)), ne_eqb b 62 (λ e. omega (arith, e, high))) refl

operator_ascii : (b : ℕ) → is_operator b ≡ true → (b < 128) ⊎ (128 ≤ b) → b < 128
operator_ascii b is (inl low) = low
operator_ascii b is (inr high) = absurd (true≢false (sym is ∙ operator_false b high))

boundary_at : (word : List ℕ) → (position_or_len is_operator word < length word) ⊎ (length word ≤ position_or_len is_operator word) → IsCharBoundary word (position_or_len is_operator word)
boundary_at word (inl within) = IsCharBoundary-before_ascii word (position_or_len is_operator word) within (operator_ascii (get_or word (position_or_len is_operator word) 0) (passes_at_first is_operator word 0 within) (cases_lt (get_or word (position_or_len is_operator word) 0) 128))
boundary_at word (inr past) =
    let few : position_or_len is_operator word ≤ length word = prefix_len-le-length (λ (b : ℕ). not (is_operator b)) word in
    let end : position_or_len is_operator word ≡ length word = omega (arith, past, few) in
    rw end (IsCharBoundary-end word)

-- a text may be cut at its first operator
pub operator_boundary : (word : List ℕ) → IsCharBoundary word (position_or_len is_operator word)
operator_boundary word = boundary_at word (cases_lt (position_or_len is_operator word) (length word))

-- what a word tests is what its operator tells
pub tested : (word test : List ℕ) (told : Option (List ℕ → Bool)) → test ≡ drop (position_or_len is_operator word) word → told ≡ test_told test → option_map (rows_where (before_first is_operator word)) told ≡ rows_tested word
tested word test told behind is = ap (option_map (rows_where (before_first is_operator word))) (is ∙ ap test_told behind)

-- the name of rows and its test
pub where_lines : (title : String Global) (test : TextTest) (name : List ℕ) (passes : List ℕ → Bool) → string_bytes title ≡ name → text_passes test ≡ passes → row_lines (row.Where title test) ≡ rows_where name passes
where_lines title test name passes = ap₂ rows_where

-- an index from the start
pub index_plain : (text : List ℕ) → ((more : List ℕ) → text ≡ 45 ∷ more → ⊥) → option_map Start (length_of text) ≡ index_of text
index_plain [] plain = refl
index_plain (b ∷ bs) plain = rw (ne_eqb b 45 (λ same. plain bs (ap (λ (c : ℕ). c ∷ bs) same))) refl

-- a name to sort by without an equals sign
pub column_plain : (word : List ℕ) → ((more : List ℕ) → word ≡ 61 ∷ more → ⊥) → length_of word ≡ None → first_named word ≡ column_told word
column_plain [] plain none = refl
column_plain (b ∷ bs) plain none = rw (ne_eqb b 61 (λ same. plain bs (ap (λ (c : ℕ). c ∷ bs) same)), none) refl

-- columns without an equals sign
pub columns_plain : (word : List ℕ) → ((more : List ℕ) → word ≡ 61 ∷ more → ⊥) → columns_by (lines_told word) word ≡ columns_of_word word
columns_plain [] plain = refl
columns_plain (b ∷ bs) plain = rw (ne_eqb b 61 (λ same. plain bs (ap (λ (c : ℕ). c ∷ bs) same))) refl
