-- The order of numbers is total.
use Rattle.std.proofs.Common.{◌≡◌, ℕ, ◌*◌, ◌^◌, ℤ, pos, ◌*ℤ◌, ap, sym, ◌∙◌, arith, int_cmp, mul_comm, ap₂}
use Rattle.std.proofs.Math.Nat.{one-le-pow}
use Rattle.std.specs.Cmp.{IsTotalOrder, int_cmp_total}
use Rattle.tabled_decimal.specs.Integers.{int-cmp-scaled, scaled-twice}
use Rattle.tabled_decimal.specs.Numbers.{Number, number_cmp}

-- two numbers compared in parts of a third one, too
in-parts : (a b c : Number) → int_cmp (a.units *ℤ pos (10 ^ b.places * 10 ^ c.places)) (b.units *ℤ pos (10 ^ a.places * 10 ^ c.places)) ≡ number_cmp a b
in-parts a b c = sym (ap₂ int_cmp (scaled-twice a.units (10 ^ b.places) (10 ^ c.places)) (scaled-twice b.units (10 ^ a.places) (10 ^ c.places))) ∙ (int-cmp-scaled (a.units *ℤ pos (10 ^ b.places)) (b.units *ℤ pos (10 ^ a.places)) (10 ^ c.places) (one-le-pow _ _ (omega arith)))

turned : (a b c : Number) → a.units *ℤ pos (10 ^ b.places * 10 ^ c.places) ≡ a.units *ℤ pos (10 ^ c.places * 10 ^ b.places)
turned a b c = ap (λ (n : ℕ). a.units *ℤ pos n) (mul_comm (10 ^ b.places) (10 ^ c.places))

first : (a b c : Number) → number_cmp a b ≡ int_cmp (a.units *ℤ pos (10 ^ b.places * 10 ^ c.places)) (b.units *ℤ pos (10 ^ a.places * 10 ^ c.places))
first a b c = sym (in-parts a b c)

second : (a b c : Number) → number_cmp b c ≡ int_cmp (b.units *ℤ pos (10 ^ a.places * 10 ^ c.places)) (c.units *ℤ pos (10 ^ a.places * 10 ^ b.places))
second a b c = sym (in-parts b c a) ∙ ap (λ (z : ℤ). int_cmp z (c.units *ℤ pos (10 ^ b.places * 10 ^ a.places))) (turned b c a) ∙ ap (int_cmp (b.units *ℤ pos (10 ^ a.places * 10 ^ c.places))) (turned c b a)

third : (a b c : Number) → number_cmp a c ≡ int_cmp (a.units *ℤ pos (10 ^ b.places * 10 ^ c.places)) (c.units *ℤ pos (10 ^ a.places * 10 ^ b.places))
third a b c = sym (in-parts a c b) ∙ ap (λ (z : ℤ). int_cmp z (c.units *ℤ pos (10 ^ a.places * 10 ^ b.places))) (turned a c b)

-- the order of numbers is total
pub number_cmp-total : IsTotalOrder number_cmp
number_cmp-total = record {
  antisymm = λ a b. int_cmp_total.antisymm (a.units *ℤ pos (10 ^ b.places)) (b.units *ℤ pos (10 ^ a.places));
  trans = λ a b c g h. third a b c ∙ int_cmp_total.trans (a.units *ℤ pos (10 ^ b.places * 10 ^ c.places)) (b.units *ℤ pos (10 ^ a.places * 10 ^ c.places)) (c.units *ℤ pos (10 ^ a.places * 10 ^ b.places)) (sym (first a b c) ∙ g) (sym (second a b c) ∙ h);
  congr = λ a b c g. third a b c ∙ int_cmp_total.congr (a.units *ℤ pos (10 ^ b.places * 10 ^ c.places)) (b.units *ℤ pos (10 ^ a.places * 10 ^ c.places)) (c.units *ℤ pos (10 ^ a.places * 10 ^ b.places)) (sym (first a b c) ∙ g) ∙ sym (second a b c);
}
