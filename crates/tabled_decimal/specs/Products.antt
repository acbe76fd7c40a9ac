-- Products, compared.
use Rattle.std.proofs.Common.{◌≡◌, ℕ, ◌+◌, ◌*◌, ◌<◌, ◌≤◌, true, nat_lt, refl, ap, sym, ◌∙◌, arith, nat_cmp, mul-le-mul_right, mul-lt-mul_of_pos_right}
use Rattle.std.proofs.lemmas.Bool.Decides.{nat_tests}
use Rattle.std.proofs.lemmas.Cmp.{by_ranked, ranked}
use Rattle.std.specs.Ordering.{ordering_then}
use Rattle.std.specs.declared.cmp.Ordering.{Ordering}
use Rattle.std.specs.declared.cmp.Ordering.TheVariants.{Equal, Greater, Less}

-- a number above 0 is found to be
pub above : (n : ℕ) → 0 < n → nat_lt 0 n ≡ true
above n h = grind (arith, nat_tests)

-- a number below another one compares as such
pub cmp-less : (a b : ℕ) → a < b → nat_cmp a b ≡ Less
cmp-less a b h = grind (arith, nat_tests)

-- numbers that are one compare as equal
pub cmp-equal : (a b : ℕ) → a ≡ b → nat_cmp a b ≡ Equal
cmp-equal a b h = grind (arith, nat_tests)

-- a number above another one compares as such
pub cmp-greater : (a b : ℕ) → b < a → nat_cmp a b ≡ Greater
cmp-greater a b h = grind (arith, nat_tests)

-- the heads of two sums decide, where the tails are below one
heads-apart : (n m u v p q : ℕ) → n < m → u < p → 0 < q → (n * p + u) * q < (m * q + v) * p
heads-apart n m u v p q apart below some =
    let one : (n + 1) * p ≤ m * p = mul-le-mul_right p (omega arith) in
    let two : (n * p + u + 1) * q ≤ (m * p) * q = mul-le-mul_right q (omega arith) in
    omega arith

-- a summand of both changes nothing
pub cmp-shifted : (a b k c d : ℕ) → c ≡ k + a → d ≡ k + b → nat_cmp c d ≡ nat_cmp a b
cmp-shifted a b k c d e f = grind (arith, nat_tests)

heads-same : (m p u q : ℕ) → (m * p + u) * q ≡ m * p * q + u * q
heads-same m p u q = omega arith

tails-same : (m p q v : ℕ) → (m * q + v) * p ≡ m * p * q + v * p
tails-same m p q v = omega arith

-- quotients of sums compared: first their heads, and then their tails
pub heads-decide : (n m u v p q : ℕ) → u < p → v < q → nat_cmp ((n * p + u) * q) ((m * q + v) * p) ≡ ordering_then (nat_cmp n m) (nat_cmp (u * q) (v * p))
heads-decide n m u v p q below above = by_ranked (n < m) (n ≡ m) (m < n) (nat_cmp n m) (ranked n m _ refl)
    (λ is apart. rw is (cmp-less _ _ (heads-apart n m u v p q apart below (omega arith))))
    (λ is same. rw is (rw same (cmp-shifted (u * q) (v * p) (m * p * q) _ _ (heads-same m p u q) (tails-same m p q v))))
    (λ is apart. rw is (cmp-greater _ _ (heads-apart m n v u q p apart above (omega arith))))

-- a factor of both changes nothing
pub cmp-scaled : (a b k : ℕ) → 0 < k → nat_cmp (a * k) (b * k) ≡ nat_cmp a b
cmp-scaled a b k some = by_ranked (a < b) (a ≡ b) (b < a) (nat_cmp a b) (ranked a b _ refl)
    (λ is apart. rw is (cmp-less _ _ (mul-lt-mul_of_pos_right apart some)))
    (λ is same. rw is (cmp-equal _ _ (ap (λ (x : ℕ). x * k) same)))
    (λ is apart. rw is (cmp-greater _ _ (mul-lt-mul_of_pos_right apart some)))

-- sums compared: first their heads, and then their tails
pub sums-decide : (n m u v p : ℕ) → u < p → v < p → nat_cmp (n * p + u) (m * p + v) ≡ ordering_then (nat_cmp n m) (nat_cmp u v)
sums-decide n m u v p below above =
    let some : 0 < p = omega arith in
    sym (cmp-scaled (n * p + u) (m * p + v) p some) ∙ heads-decide n m u v p p below above ∙ ap (ordering_then (nat_cmp n m)) (cmp-scaled u v p some)

-- where the first are equal, the rest decides
pub then-rest : (first rest : Ordering) → first ≡ Equal → ordering_then first rest ≡ rest
then-rest first rest e = rw e refl

-- where the first are not equal, they decide
pub then-first : (first rest : Ordering) → (first ≡ Equal → ⊥) → ordering_then first rest ≡ first
then-first Less rest h = refl
then-first Equal rest h = absurd (h refl)
then-first Greater rest h = refl
