-- Numbers as integers: how many millionths they are.
use Rattle.std.proofs.Common.{◌≡◌, ℕ, ◌+◌, ◌-◌, ◌*◌, ◌^◌, ◌≤◌, ℤ, pos, neg_ℤ, ◌*ℤ◌, ap, sym, ◌∙◌, ap₂, arith, int_cmp, pow-add, mul-pos}
use Rattle.std.proofs.Math.Nat.{one-le-pow}
use Rattle.std.specs.Prelude.{◌<ℤ◌}
use Rattle.tabled_decimal.specs.Integers.{int-cmp-scaled, scaled-twice}
use Rattle.tabled_decimal.specs.Numbers.{Number, number_cmp}

-- a number is so many millionths: it has at most six digits behind its point
abbrev pub AreMillionths : Number → ℤ → Type 0
AreMillionths a n = (a.places ≤ 6) × (n ≡ a.units *ℤ pos (10 ^ (6 - a.places)))

-- an integer has at most eighteen digits
abbrev pub HasEighteenDigits : ℤ → Type 0
HasEighteenDigits n = (neg_ℤ (pos (10 ^ 18)) <ℤ n) × (n <ℤ pos (10 ^ 18))

grouped : (a b c n : ℕ) → n ≡ a * b → a * (b * c) ≡ c * n
grouped a b c n e = let f : c * n ≡ c * (a * b) = ap (λ (m : ℕ). c * m) e in omega arith

-- the powers of the places of two numbers, with what makes the first one's millionths
powers : (p q : ℕ) → p ≤ 6 → 10 ^ (6 - p) * (10 ^ p * 10 ^ q) ≡ 10 ^ q * 10 ^ 6
powers p q few =
    let all : 6 ≡ 6 - p + p = omega arith in
    grouped (10 ^ (6 - p)) (10 ^ p) (10 ^ q) (10 ^ 6) (ap (λ (n : ℕ). 10 ^ n) all ∙ pow-add 10 (6 - p) p)

-- of two numbers the first one's millionths, in parts of both
in-parts : (a b : Number) (m : ℤ) → AreMillionths a m → m *ℤ pos (10 ^ a.places * 10 ^ b.places) ≡ (a.units *ℤ pos (10 ^ b.places)) *ℤ pos (10 ^ 6)
in-parts a b m is = ap (λ (z : ℤ). z *ℤ pos (10 ^ a.places * 10 ^ b.places)) is.1
    ∙ scaled-twice a.units (10 ^ (6 - a.places)) (10 ^ a.places * 10 ^ b.places)
    ∙ ap (λ (n : ℕ). a.units *ℤ pos n) (powers a.places b.places is.0)
    ∙ sym (scaled-twice a.units (10 ^ b.places) (10 ^ 6))

-- numbers are in the order of their millionths
pub cmp-millionths : (a b : Number) (m n : ℤ) → AreMillionths a m → AreMillionths b n → number_cmp a b ≡ int_cmp m n
cmp-millionths a b m n is js =
    let turned : n *ℤ pos (10 ^ a.places * 10 ^ b.places) ≡ (b.units *ℤ pos (10 ^ a.places)) *ℤ pos (10 ^ 6) = ap (λ (k : ℕ). n *ℤ pos k) (omega arith) ∙ in-parts b a n js in
    sym (int-cmp-scaled (a.units *ℤ pos (10 ^ b.places)) (b.units *ℤ pos (10 ^ a.places)) (10 ^ 6) (omega arith))
    ∙ ap₂ int_cmp (sym (in-parts a b m is)) (sym turned)
    ∙ int-cmp-scaled m n (10 ^ a.places * 10 ^ b.places) (mul-pos (one-le-pow _ _ (omega arith)) (one-le-pow _ _ (omega arith)))
