-- Integers with a sign of their own, scaled and compared.
use Rattle.std.proofs.Common.{◌≡◌, ℕ, ◌*◌, ◌<◌, ◌&&◌, ℤ, pos, negsuc, neg_ℤ, ◌*ℤ◌, Bool, true, false, if◌then◌else◌, nat_lt, refl, ap, sym, ◌∙◌, subst, arith, nat_cmp, int_cmp, zero, suc, mul-pos, zero-lt-suc, true≢false, mul_assoc, ap₂}
use Rattle.std.proofs.lemmas.Bool.Decides.{nat_tests}
use Rattle.std.specs.declared.cmp.Ordering.TheVariants.{Greater, Less}
use Rattle.tabled_decimal.specs.Products.{above, cmp-scaled, cmp-shifted}
use lib.IntN.{negsuc-*ℤ-pos, pos-*ℤ-pos}

cmp-positive : (m n : ℕ) → int_cmp (pos m) (pos n) ≡ nat_cmp m n
cmp-positive m n = grind (arith, nat_tests)

negsuc-cmp : (m n : ℕ) → int_cmp (negsuc m) (negsuc n) ≡ nat_cmp n m
negsuc-cmp m n = grind (arith, nat_tests)

-- n or -n
abbrev pub signed : Bool → ℕ → ℤ
signed negative n = if negative then neg_ℤ (pos n) else pos n

cmp-negative : (m n : ℕ) → int_cmp (signed true m) (signed true n) ≡ nat_cmp n m
cmp-negative zero zero = refl
cmp-negative zero (suc n) = grind (arith, nat_tests)
cmp-negative (suc m) zero = grind (arith, nat_tests)
cmp-negative (suc m) (suc n) = negsuc-cmp m n ∙ sym (cmp-shifted n m 1 (suc n) (suc m) (omega arith) (omega arith))

below-cmp : (m n : ℕ) → 0 < m → int_cmp (signed true m) (pos n) ≡ Less
below-cmp zero n h = absurd (omega arith)
below-cmp (suc m) n h = refl

above-cmp : (m n : ℕ) → 0 < n → int_cmp (pos m) (signed true n) ≡ Greater
above-cmp m zero h = absurd (omega arith)
above-cmp m (suc n) h = refl

signed-scaled : (negative : Bool) (n k : ℕ) → signed negative n *ℤ pos k ≡ signed negative (n * k)
signed-scaled false n k = pos-*ℤ-pos n k
signed-scaled true zero k = let e : 0 * k ≡ 0 = omega arith in pos-*ℤ-pos 0 k ∙ subst (λ (n : ℕ). pos n ≡ signed true n) (sym e) refl
signed-scaled true (suc n) k = negsuc-*ℤ-pos n k

-- what isn't below 0 has no sign, and what is has one
plain : (x : Bool) (m : ℕ) → (x && nat_lt 0 m) ≡ false → signed x m ≡ pos m
plain false m h = refl
plain true zero h = refl
plain true (suc m) h = absurd (true≢false (sym (above (suc m) (zero-lt-suc m)) ∙ h))

below : (x : Bool) (m : ℕ) → (x && nat_lt 0 m) ≡ true → (x ≡ true) × (0 < m)
below false m h = absurd (true≢false (sym h))
below true zero h = absurd (true≢false (sym h))
below true (suc m) h = (refl, zero-lt-suc m)

plain-scaled : (x : Bool) (m k : ℕ) → (x && nat_lt 0 m) ≡ false → signed x m *ℤ pos k ≡ pos (m * k)
plain-scaled x m k h = ap (λ (z : ℤ). z *ℤ pos k) (plain x m h) ∙ pos-*ℤ-pos m k

below-scaled : (x : Bool) (m k : ℕ) → (x && nat_lt 0 m) ≡ true → signed x m *ℤ pos k ≡ signed true (m * k)
below-scaled x m k h = signed-scaled x m k ∙ ap (λ (b : Bool). signed b (m * k)) (below x m h).0

-- two numbers that are not below 0 are in the order of what stands behind their signs
pub cmp-plain : (x y : Bool) (m n p q : ℕ) → (x && nat_lt 0 m) ≡ false → (y && nat_lt 0 n) ≡ false → int_cmp (signed x m *ℤ pos q) (signed y n *ℤ pos p) ≡ nat_cmp (m * q) (n * p)
cmp-plain x y m n p q g h = ap₂ int_cmp (plain-scaled x m q g) (plain-scaled y n p h) ∙ cmp-positive (m * q) (n * p)

-- two numbers below 0 are in the opposite order of that
pub cmp-below : (x y : Bool) (m n p q : ℕ) → (x && nat_lt 0 m) ≡ true → (y && nat_lt 0 n) ≡ true → int_cmp (signed x m *ℤ pos q) (signed y n *ℤ pos p) ≡ nat_cmp (n * p) (m * q)
cmp-below x y m n p q g h = ap₂ int_cmp (below-scaled x m q g) (below-scaled y n p h) ∙ cmp-negative (m * q) (n * p)

-- a number below 0 comes before one that isn't
pub cmp-first : (x y : Bool) (m n p q : ℕ) → 0 < q → (x && nat_lt 0 m) ≡ true → (y && nat_lt 0 n) ≡ false → int_cmp (signed x m *ℤ pos q) (signed y n *ℤ pos p) ≡ Less
cmp-first x y m n p q some g h = ap₂ int_cmp (below-scaled x m q g) (plain-scaled y n p h) ∙ below-cmp (m * q) (n * p) (mul-pos (below x m g).1 some)

-- and one that isn't comes behind one below 0
pub cmp-second : (x y : Bool) (m n p q : ℕ) → 0 < p → (x && nat_lt 0 m) ≡ false → (y && nat_lt 0 n) ≡ true → int_cmp (signed x m *ℤ pos q) (signed y n *ℤ pos p) ≡ Greater
cmp-second x y m n p q some g h = ap₂ int_cmp (plain-scaled x m q g) (below-scaled y n p h) ∙ above-cmp (m * q) (n * p) (mul-pos (below y n h).1 some)

-- a factor above 0 of both changes nothing
pub int-cmp-scaled : (x y : ℤ) (k : ℕ) → 0 < k → int_cmp (x *ℤ pos k) (y *ℤ pos k) ≡ int_cmp x y
int-cmp-scaled (pos m) (pos n) k some = ap₂ int_cmp (pos-*ℤ-pos m k) (pos-*ℤ-pos n k) ∙ cmp-positive (m * k) (n * k) ∙ cmp-scaled m n k some ∙ sym (cmp-positive m n)
int-cmp-scaled (pos m) (negsuc n) k some = ap₂ int_cmp (pos-*ℤ-pos m k) (negsuc-*ℤ-pos n k) ∙ above-cmp (m * k) (suc n * k) (mul-pos (zero-lt-suc n) some)
int-cmp-scaled (negsuc m) (pos n) k some = ap₂ int_cmp (negsuc-*ℤ-pos m k) (pos-*ℤ-pos n k) ∙ below-cmp (suc m * k) (n * k) (mul-pos (zero-lt-suc m) some)
int-cmp-scaled (negsuc m) (negsuc n) k some = ap₂ int_cmp (negsuc-*ℤ-pos m k) (negsuc-*ℤ-pos n k) ∙ cmp-negative (suc m * k) (suc n * k) ∙ cmp-scaled (suc n) (suc m) k some ∙ sym (cmp-negative (suc m) (suc n))

-- factors one after another are their product
pub scaled-twice : (x : ℤ) (j k : ℕ) → (x *ℤ pos j) *ℤ pos k ≡ x *ℤ pos (j * k)
scaled-twice (pos n) j k = ap (λ (z : ℤ). z *ℤ pos k) (pos-*ℤ-pos n j) ∙ pos-*ℤ-pos (n * j) k ∙ ap pos (mul_assoc n j k) ∙ sym (pos-*ℤ-pos n (j * k))
scaled-twice (negsuc n) j k = ap (λ (z : ℤ). z *ℤ pos k) (negsuc-*ℤ-pos n j) ∙ signed-scaled true (suc n * j) k ∙ ap (λ (m : ℕ). neg_ℤ (pos m)) (mul_assoc (suc n) j k) ∙ sym (negsuc-*ℤ-pos n (j * k))
