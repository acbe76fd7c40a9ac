-- Texts that stand with no quotes are read back.
use Rattle.std.proofs.lemmas.Bool.Decides.{nat_tests}
use Rattle.std.proofs.lemmas.Slice.Eq.{bytes_eq-Decides}
use Rattle.std.specs.List.{AllByRecursion}
use Rattle.std.specs.Str.{bytes_eq}
use Rattle.tabled_json.proofs.Common.{◌≡◌, ◌==◌, ◌∷◌, ◌∙◌, ◌++◌, ◌||◌, ◌&&◌, [], ℕ, List, Bool, true, false, refl, sym, ap, arith, if◌then◌else◌, ◌⊎◌, inl, inr}
use Rattle.tabled_json.proofs.Written.{string-written}
use Rattle.tabled_json.specs.Grammar.{NumberAt, ScalarAt, WordAt, false_word, true_word}
use Rattle.tabled_json.specs.Numbers.{are_decimals, are_digits, behind_digits, behind_numerals, behind_sign, is_digit, is_exponent, is_fraction, is_none, is_number, is_numeric, is_unsigned, numerals}
use Rattle.tabled_json.specs.Space.{behind_space, is_space}
use Rattle.tabled_json.specs.Writing.{is_bare, string_of, value_of}
use Rattle.tabled_json.specs.declared.form.Values.{Values}
use Rattle.tabled_json.specs.declared.form.Values.TheVariants.{Strings, Bare}

-- each byte may stand in a number
abbrev AreNumeric : List ℕ → Type 0
AreNumeric bytes = AllByRecursion (λ b. is_numeric b ≡ true) bytes

digit-numeric : (b : ℕ) → is_digit b ≡ true → is_numeric b ≡ true
digit-numeric b e = rw e refl

and-first : (a b : Bool) → (a && b) ≡ true → a ≡ true
and-first true b e = refl
and-first false b e = e

and-second : (a b : Bool) → (a && b) ≡ true → b ≡ true
and-second true b e = e
and-second false b e = cc

behind-numeric : (bytes : List ℕ) → AreNumeric (behind_digits bytes) → AreNumeric bytes
behind-numeric [] all = tt
behind-numeric (b ∷ bytes) all = of-first (is_digit b) refl (behind-numeric bytes)
  where
    of-first : (d : Bool) → is_digit b ≡ d → (AreNumeric (behind_digits bytes) → AreNumeric bytes) → AreNumeric (b ∷ bytes)
    of-first true e more = (digit-numeric b e, more (rw e at all))
    of-first false e more = rw e at all

none-numeric : (bytes : List ℕ) → is_none bytes ≡ true → AreNumeric bytes
none-numeric [] e = tt
none-numeric (b ∷ bytes) e = cc

digits-numeric : (bytes : List ℕ) → are_digits bytes ≡ true → AreNumeric bytes
digits-numeric [] e = tt
digits-numeric (b ∷ bytes) e = (
  digit-numeric b (and-first (is_digit b) (is_none (behind_digits bytes)) e),
  behind-numeric bytes (none-numeric (behind_digits bytes) (and-second (is_digit b) (is_none (behind_digits bytes)) e)),
)

sign-numeric : (bytes : List ℕ) → AreNumeric (behind_sign bytes) → AreNumeric bytes
sign-numeric [] all = tt
sign-numeric (b ∷ bytes) all = of-first ((b == 43) || (b == 45)) refl
  where
    of-first : (s : Bool) → ((b == 43) || (b == 45)) ≡ s → AreNumeric (b ∷ bytes)
    of-first true e = (grind (arith, nat_tests), rw e at all)
    of-first false e = rw e at all

exponent-numeric : (bytes : List ℕ) → is_exponent bytes ≡ true → AreNumeric bytes
exponent-numeric [] e = tt
exponent-numeric (b ∷ bytes) e =
    let first : ((b == 69) || (b == 101)) ≡ true = and-first ((b == 69) || (b == 101)) (are_digits (behind_sign bytes)) e in
    (grind (arith, nat_tests), sign-numeric bytes (digits-numeric (behind_sign bytes) (and-second ((b == 69) || (b == 101)) (are_digits (behind_sign bytes)) e)))

decimals-numeric : (bytes : List ℕ) → are_decimals bytes ≡ true → AreNumeric bytes
decimals-numeric [] e = tt
decimals-numeric (b ∷ bytes) e = (
  digit-numeric b (and-first (is_digit b) (is_exponent (behind_digits bytes)) e),
  behind-numeric bytes (exponent-numeric (behind_digits bytes) (and-second (is_digit b) (is_exponent (behind_digits bytes)) e)),
)

fraction-numeric : (bytes : List ℕ) → is_fraction bytes ≡ true → AreNumeric bytes
fraction-numeric [] e = tt
fraction-numeric (b ∷ bytes) e = of-first (b == 46) refl
  where
    of-first : (p : Bool) → (b == 46) ≡ p → AreNumeric (b ∷ bytes)
    of-first true f = (grind (arith, nat_tests), decimals-numeric bytes (rw f at e))
    of-first false f = exponent-numeric (b ∷ bytes) (rw f at e)

unsigned-numeric : (bytes : List ℕ) → is_unsigned bytes ≡ true → AreNumeric bytes
unsigned-numeric [] e = tt
unsigned-numeric (b ∷ bytes) e = of-first (b == 48) refl
  where
    of-first : (z : Bool) → (b == 48) ≡ z → AreNumeric (b ∷ bytes)
    of-first true f = (grind (arith, nat_tests), fraction-numeric bytes (rw f at e))
    of-first false f =
        let both : (is_digit b && is_fraction (behind_digits bytes)) ≡ true = rw f at e in (
          digit-numeric b (and-first (is_digit b) (is_fraction (behind_digits bytes)) both),
          behind-numeric bytes (fraction-numeric (behind_digits bytes) (and-second (is_digit b) (is_fraction (behind_digits bytes)) both)),
        )

number-numeric : (bytes : List ℕ) → is_number bytes ≡ true → AreNumeric bytes
number-numeric [] e = tt
number-numeric (b ∷ bytes) e = of-first (b == 45) refl
  where
    of-first : (m : Bool) → (b == 45) ≡ m → AreNumeric (b ∷ bytes)
    of-first true f = (grind (arith, nat_tests), unsigned-numeric bytes (rw f at e))
    of-first false f = unsigned-numeric (b ∷ bytes) (rw f at e)

-- no byte that may stand in a number is at the front
pub record EndsNumber (rest : List ℕ) : Type 0 where
  pub none : numerals rest ≡ []
  pub all : behind_numerals rest ≡ rest

numerals-all : (text rest : List ℕ) → AreNumeric text → EndsNumber rest → numerals (text ++ rest) ≡ text
numerals-all [] rest all ends = ends.none
numerals-all (b ∷ text) rest all ends =
    let first = all.0 in
    rw first (ap (λ (l : List ℕ). b ∷ l) (numerals-all text rest all.1 ends))

behind-all : (text rest : List ℕ) → AreNumeric text → EndsNumber rest → rest ≡ behind_numerals (text ++ rest)
behind-all [] rest all ends = sym ends.all
behind-all (b ∷ text) rest all ends =
    let first = all.0 in
    rw first (behind-all text rest all.1 ends)

number-written : (text rest : List ℕ) → is_number text ≡ true → EndsNumber rest → NumberAt (text ++ rest) text rest
number-written text rest e ends =
    let all = number-numeric text e in
    let same = numerals-all text rest all ends in
    record { text_is = sym same; after_is = behind-all text rest all ends; is = ap is_number same ∙ e }

or-cases : (a b : Bool) → (a || b) ≡ true → (a ≡ true) ⊎ (b ≡ true)
or-cases true b e = inl refl
or-cases false b e = inr e

same-text : (xs ys : List ℕ) → bytes_eq xs ys ≡ true → xs ≡ ys
same-text xs ys e = (bytes_eq-Decides xs ys).0 e

bare-written : (text rest : List ℕ) → is_bare text ≡ true → EndsNumber rest → ScalarAt (text ++ rest) text rest
bare-written text rest e ends = of-kind (or-cases (is_number text) (bytes_eq text true_word || bytes_eq text false_word) e)
  where
    of-word : (bytes_eq text true_word ≡ true) ⊎ (bytes_eq text false_word ≡ true) → ScalarAt (text ++ rest) text rest
    of-word (inl t) =
        let is = same-text text true_word t in
        ScalarAt.word (WordAt.is_true (rw is refl) is)
    of-word (inr f) =
        let is = same-text text false_word f in
        ScalarAt.word (WordAt.is_false (rw is refl) is)

    of-kind : (is_number text ≡ true) ⊎ ((bytes_eq text true_word || bytes_eq text false_word) ≡ true) → ScalarAt (text ++ rest) text rest
    of-kind (inl n) = ScalarAt.number (number-written text rest n ends)
    of-kind (inr w) = of-word (or-cases (bytes_eq text true_word) (bytes_eq text false_word) w)

pub value-written : (values : Values) (text rest : List ℕ) → EndsNumber rest → ScalarAt (value_of values text ++ rest) text rest
value-written Strings text rest ends = ScalarAt.string (string-written text rest)
value-written Bare text rest ends = of-text (is_bare text) refl
  where
    of-text : (b : Bool) → is_bare text ≡ b → ScalarAt ((if b then text else string_of text) ++ rest) text rest
    of-text true e = bare-written text rest e ends
    of-text false e = ScalarAt.string (string-written text rest)

-- ---- no whitespace is before a value

numeric-tight : (text rest : List ℕ) → AreNumeric text → is_none text ≡ false → behind_space (text ++ rest) ≡ text ++ rest
numeric-tight [] rest all some = cc
numeric-tight (b ∷ text) rest all some =
    let first = all.0 in
    let other : is_space b ≡ false = grind (arith, nat_tests) in
    rw other refl

bare-tight : (text rest : List ℕ) → is_bare text ≡ true → behind_space (text ++ rest) ≡ text ++ rest
bare-tight text rest e = of-kind (or-cases (is_number text) (bytes_eq text true_word || bytes_eq text false_word) e)
  where
    some : (bytes : List ℕ) → is_number bytes ≡ true → is_none bytes ≡ false
    some [] n = cc
    some (b ∷ bytes) n = refl

    of-word : (bytes_eq text true_word ≡ true) ⊎ (bytes_eq text false_word ≡ true) → behind_space (text ++ rest) ≡ text ++ rest
    of-word (inl t) = rw (same-text text true_word t) refl
    of-word (inr f) = rw (same-text text false_word f) refl

    of-kind : (is_number text ≡ true) ⊎ ((bytes_eq text true_word || bytes_eq text false_word) ≡ true) → behind_space (text ++ rest) ≡ text ++ rest
    of-kind (inl n) = numeric-tight text rest (number-numeric text n) (some text n)
    of-kind (inr w) = of-word (or-cases (bytes_eq text true_word) (bytes_eq text false_word) w)

pub value-tight : (values : Values) (text rest : List ℕ) → behind_space (value_of values text ++ rest) ≡ value_of values text ++ rest
value-tight Strings text rest = refl
value-tight Bare text rest = of-text (is_bare text) refl
  where
    of-text : (b : Bool) → is_bare text ≡ b → behind_space ((if b then text else string_of text) ++ rest) ≡ (if b then text else string_of text) ++ rest
    of-text true e = bare-tight text rest e
    of-text false e = refl
