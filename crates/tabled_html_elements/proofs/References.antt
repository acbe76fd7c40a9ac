-- Numbers past all characters are read alike.
use Rattle.std.proofs.Common.{◌≡◌, ◌+◌, ◌-◌, ◌*◌, ◌<◌, ◌≤◌, ◌⊎◌, ℕ, Bool, true, false, List, [], ◌∷◌, Some, ap, arith, cond, eqb, inl, inr, min, refl}
use Rattle.std.proofs.lemmas.Bool.{cases_lt, lt-ltb}
use Rattle.std.proofs.lemmas.Bool.Decides.{nat_tests}
use Rattle.tabled_html_reading.specs.Characters.{hexadecimal_value, is_digit, is_hexadecimal}
use Rattle.tabled_html_reading.specs.Tokenizing.{after, before, in_data, referenced, tokens_from}
use Rattle.tabled_html_reading.specs.Tokenizing.State.{Data, Decimal, Hexadecimal}
use Rattle.tabled_html_reading.specs.Tokenizing.Step.{Emits, Moves}

zero-not : (n : ℕ) → 1114111 < n → eqb n 0 ≡ false
zero-not n past = grind (arith, nat_tests)

referenced-past : (m n : ℕ) → 1114111 < m → 1114111 < n → referenced m ≡ referenced n
referenced-past m n past further = rw (zero-not m past, zero-not n further, lt-ltb 1114111 m past, lt-ltb 1114111 n further) refl

pub decimal-past : (bs : List ℕ) (m n : ℕ) → 1114111 < m → 1114111 < n → tokens_from bs (Decimal m) ≡ tokens_from bs (Decimal n)
decimal-past [] m n past further = ap Some (referenced-past m n past further)
decimal-past (b ∷ bs) m n past further = of-tests (is_digit b) (eqb b 59) (decimal-past bs (m * 10 + (b - 48)) (n * 10 + (b - 48)) (omega (arith, past)) (omega (arith, further)))
  where
    of-tests : (d e : Bool) → tokens_from bs (Decimal (m * 10 + (b - 48))) ≡ tokens_from bs (Decimal (n * 10 + (b - 48))) → after (λ t. tokens_from bs t) (cond d (Moves (Decimal (m * 10 + (b - 48)))) (cond e (Emits (referenced m) Data) (before (referenced m) (in_data b))))
        ≡ after (λ t. tokens_from bs t) (cond d (Moves (Decimal (n * 10 + (b - 48)))) (cond e (Emits (referenced n) Data) (before (referenced n) (in_data b))))
    of-tests true e behind = behind
    of-tests false true behind = ap (λ out. after (λ t. tokens_from bs t) (Emits out Data)) (referenced-past m n past further)
    of-tests false false behind = ap (λ out. after (λ t. tokens_from bs t) (before out (in_data b))) (referenced-past m n past further)

pub hexadecimal-past : (bs : List ℕ) (m n : ℕ) → 1114111 < m → 1114111 < n → tokens_from bs (Hexadecimal m) ≡ tokens_from bs (Hexadecimal n)
hexadecimal-past [] m n past further = ap Some (referenced-past m n past further)
hexadecimal-past (b ∷ bs) m n past further = of-tests (is_hexadecimal b) (eqb b 59) (hexadecimal-past bs (m * 16 + hexadecimal_value b) (n * 16 + hexadecimal_value b) (omega (arith, past)) (omega (arith, further)))
  where
    of-tests : (d e : Bool) → tokens_from bs (Hexadecimal (m * 16 + hexadecimal_value b)) ≡ tokens_from bs (Hexadecimal (n * 16 + hexadecimal_value b)) → after (λ t. tokens_from bs t) (cond d (Moves (Hexadecimal (m * 16 + hexadecimal_value b))) (cond e (Emits (referenced m) Data) (before (referenced m) (in_data b))))
        ≡ after (λ t. tokens_from bs t) (cond d (Moves (Hexadecimal (n * 16 + hexadecimal_value b))) (cond e (Emits (referenced n) Data) (before (referenced n) (in_data b))))
    of-tests true e behind = behind
    of-tests false true behind = ap (λ out. after (λ t. tokens_from bs t) (Emits out Data)) (referenced-past m n past further)
    of-tests false false behind = ap (λ out. after (λ t. tokens_from bs t) (before out (in_data b))) (referenced-past m n past further)

-- a number is as good as the first past all characters, where it is past it
module _ (bs : List ℕ) (n : ℕ) where
  pub decimal_min : tokens_from bs (Decimal n) ≡ tokens_from bs (Decimal (min n 1114112))
  decimal_min = of-size (cases_lt 1114111 n)
    where
      of-size : (1114111 < n) ⊎ (n ≤ 1114111) → tokens_from bs (Decimal n) ≡ tokens_from bs (Decimal (min n 1114112))
      of-size (inl past) = decimal-past bs n (min n 1114112) past (omega (arith, past))
      of-size (inr within) = let e : n ≡ min n 1114112 = omega (arith, within) in ap (λ k. tokens_from bs (Decimal k)) e

  pub hexadecimal_min : tokens_from bs (Hexadecimal n) ≡ tokens_from bs (Hexadecimal (min n 1114112))
  hexadecimal_min = of-size (cases_lt 1114111 n)
    where
      of-size : (1114111 < n) ⊎ (n ≤ 1114111) → tokens_from bs (Hexadecimal n) ≡ tokens_from bs (Hexadecimal (min n 1114112))
      of-size (inl past) = hexadecimal-past bs n (min n 1114112) past (omega (arith, past))
      of-size (inr within) = let e : n ≡ min n 1114112 = omega (arith, within) in ap (λ k. tokens_from bs (Hexadecimal k)) e
