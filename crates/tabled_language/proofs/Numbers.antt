-- What `parse` reads of a text without a sign, in the words of `number_of`.
use Rattle.tabled_language.proofs.Common.{[], ◌&&◌, ◌<◌, ◌^◌, ◌∙◌, ◌∷◌, ◌≡◌, ◌≢◌, ◌≤◌, Bool, Err, List, None, Ok, ParsesUnsigned, Result, Some, all_ascii_digits, ap, arith, cond, digits_value, eqb, false, get_or, integer_of, leb, length, nat_tests, ne_eqb, not, number_of, number_to, refl, result_ok, true, ℕ}
use Rattle.std.proofs.lemmas.Str.Parse.{IsNumeralModel, numerals_by_value, tells_all_ascii_digits, parse_plain}

-- digits and their value are std's
pub numerals : IsNumeralModel (λ ds. all_ascii_digits ds ≡ true) (digits_value 10)
numerals = numerals_by_value _ tells_all_ascii_digits

none_unless : (p q r : Bool) (n : ℕ) → (p ≡ true → q ≡ true → r ≡ true → ⊥) → None ≡ cond (p && (q && r)) (Some n) None
none_unless true true true n h = absurd (h refl refl refl)
none_unless true true false n h = refl
none_unless true false r n h = refl
none_unless false q r n h = refl

pub some_if : (p q r : Bool) (n : ℕ) → p ≡ true → q ≡ true → r ≡ true → Some n ≡ cond (p && (q && r)) (Some n) None
some_if p q r n a b c = rw (a, b, c) refl

-- a text that `parse` refuses is no number
pub number_to-refused : {E : Type 0} (largest : ℕ) (text : List ℕ) (r : Result ℕ E) → largest < 2 ^ 64 → ParsesUnsigned 64 10 text r → get_or text 0 0 ≢ 43 → None ≡ result_ok r → None ≡ number_to largest text
number_to-refused {E} largest text (Ok n) high h plain e = cc
number_to-refused {E} largest text (Err e) high h plain is =
    none_unless (not (eqb (length text) 0)) (all_ascii_digits text) (leb (digits_value 10 text) largest) (digits_value 10 text) (λ some digits small.
    let least : 0 < length text = grind (arith, nat_tests) in
    let most : digits_value 10 text ≤ largest = grind (arith, nat_tests) in
    let fits : digits_value 10 text < 2 ^ 64 = omega arith in
    parse_plain numerals {E = E} 64 text (Err e) h plain (digits, least, fits))

-- what it reads is the number, if that isn't too large
pub number_to-read : {E : Type 0} (largest : ℕ) (text : List ℕ) (r : Result ℕ E) (n : ℕ) → ParsesUnsigned 64 10 text r → get_or text 0 0 ≢ 43 → Some n ≡ result_ok r → n ≤ largest → Some n ≡ number_to largest text
number_to-read {E} largest text (Err e) n h plain is small = cc
number_to-read {E} largest text (Ok m) n h plain is small =
    let read = parse_plain numerals {E = E} 64 text (Ok m) h plain in
    let same : n ≡ m = cc in
    let value : m ≡ digits_value 10 text = read.1 in
    let least : 0 < length text = read.0.1 in
    ap Some (same ∙ value) ∙ some_if (not (eqb (length text) 0)) (all_ascii_digits text) (leb (digits_value 10 text) largest) (digits_value 10 text) (grind (arith, nat_tests)) read.0.0 (grind (arith, nat_tests))

-- what it reads is no number, if it is too large
pub number_to-large : {E : Type 0} (largest : ℕ) (text : List ℕ) (r : Result ℕ E) (n : ℕ) → ParsesUnsigned 64 10 text r → get_or text 0 0 ≢ 43 → Some n ≡ result_ok r → largest < n → None ≡ number_to largest text
number_to-large {E} largest text (Err e) n h plain is high = cc
number_to-large {E} largest text (Ok m) n h plain is high =
    let read = parse_plain numerals {E = E} 64 text (Ok m) h plain in
    let same : n ≡ m = cc in
    let value : m ≡ digits_value 10 text = read.1 in
    none_unless (not (eqb (length text) 0)) (all_ascii_digits text) (leb (digits_value 10 text) largest) (digits_value 10 text) (λ some digits small.
    let most : digits_value 10 text ≤ largest = grind (arith, nat_tests) in
    omega (arith, high, same, value, most))

-- a text without a minus that is no number is no integer
pub integer_of-unsigned : (text : List ℕ) → ((rest : List ℕ) → text ≡ 45 ∷ rest → ⊥) → number_of text ≡ None → integer_of text ≡ None
integer_of-unsigned [] plain none = refl
integer_of-unsigned (c ∷ cs) plain none =
    let other : eqb c 45 ≡ false = ne_eqb c 45 (λ same. plain cs (ap (λ d. d ∷ cs) same)) in
    rw (other, none) refl
