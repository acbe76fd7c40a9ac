-- Marks of bytes: a binary digit for each.
use Rattle.std.proofs.lemmas.List.{length-map}
use Rattle.std.proofs.lemmas.Simd.{mask_l-mod}
use Rattle.std.specs.List.{prefix_len}
use lib.Bits.{bit_or}
use lib.Lanes.{mask_l, top, zip2}
use Rattle.tabled_csv.proofs.Common.{[], ◌%◌, ◌*◌, ◌+◌, ◌<◌, ◌==◌, ◌^◌, ◌||◌, ◌∙◌, ◌∷◌, ◌≡◌, ◌≤◌, Bool, List, ap, ap₂, arith, cond, false, get_or, length, list_any, map, ne_eqb, not, refl, suc, take, true, zero, ℕ}

-- a byte of ones where p holds
abbrev pub ones : (ℕ → Bool) → ℕ → ℕ
ones p x = cond (p x) 255 0

-- a byte of ones where one of two tests holds
or-one : (a b : Bool) → bit_or (cond a 255 0) (cond b 255 0) ≡ cond (a || b) 255 0
or-one true true = refl
or-one true false = refl
or-one false true = refl
or-one false false = refl

or-ones : (p q : ℕ → Bool) (v : List ℕ) → zip2 bit_or (map (ones p) v) (map (ones q) v) ≡ map (ones (λ x. p x || q x)) v
or-ones p q [] = refl
or-ones p q (x ∷ xs) = ap₂ (λ (b : ℕ) (bs : List ℕ). b ∷ bs) (or-one (p x) (q x)) (or-ones p q xs)

pub or-are : (p q : ℕ → Bool) (v : List ℕ) {a b : List ℕ} → a ≡ map (ones p) v → b ≡ map (ones q) v → zip2 bit_or a b ≡ map (ones (λ x. p x || q x)) v
or-are p q v e f = ap₂ (zip2 bit_or) e f ∙ or-ones p q v

tops : (p : ℕ → Bool) (v : List ℕ) → map (top 7) (map (ones p) v) ≡ map p v
tops p [] = refl
tops p (x ∷ xs) = ap₂ (λ (b : Bool) (bs : List Bool). b ∷ bs) (one (p x)) (tops p xs)
  where
    one : (a : Bool) → top 7 (cond a 255 0) ≡ a
    one true = refl
    one false = refl

pub marks-are : (p : ℕ → Bool) (v z : List ℕ) → length v ≤ 64 → z ≡ map (ones p) v → mask_l (map (top 7) z) % 2 ^ 64 ≡ mask_l (map p v)
marks-are p v z short e = ap (λ (l : List Bool). mask_l l % 2 ^ 64) (ap (map (top 7)) e ∙ tops p v) ∙ mask_l-mod (map p v) 64 (omega (arith, length-map v p))

-- ---- what marks tell

module _ (p : ℕ → Bool) where
  pub none-marked : (v : List ℕ) → mask_l (map p v) ≡ 0 → list_any p v ≡ false
  none-marked [] e = refl
  none-marked (x ∷ xs) e = unless-first (p x) (mask_l (map p xs)) (list_any p xs) (none-marked xs) e
    where
      unless-first : (b : Bool) (m : ℕ) (r : Bool) → (m ≡ 0 → r ≡ false) → cond b 1 0 + 2 * m ≡ 0 → (b || r) ≡ false
      unless-first true m r ih e = let no : ⊥ = omega arith in absurd no
      unless-first false m r ih e = ih (omega arith)

  some-marked : (v : List ℕ) → 0 < mask_l (map p v) → list_any p v ≡ true
  some-marked [] some = let no : ⊥ = omega arith in absurd no
  some-marked (x ∷ xs) some = unless-first (p x) (mask_l (map p xs)) (list_any p xs) (some-marked xs) some
    where
      unless-first : (b : Bool) (m : ℕ) (r : Bool) → (0 < m → r ≡ true) → 0 < cond b 1 0 + 2 * m → (b || r) ≡ true
      unless-first true m r ih some = refl
      unless-first false m r ih some = ih (omega arith)

  pub any-marked : (v : List ℕ) → list_any p v ≡ not (mask_l (map p v) == 0)
  any-marked v = by-mask (mask_l (map p v)) (none-marked v) (some-marked v)
    where
      by-mask : (m : ℕ) → (m ≡ 0 → list_any p v ≡ false) → (0 < m → list_any p v ≡ true) → list_any p v ≡ not (m == 0)
      by-mask zero none some = none refl
      by-mask (suc m) none some = rw (ne_eqb (suc m) 0 (λ e. omega arith)) (some (omega arith))

  -- the first byte where p holds
  pub record First (v : List ℕ) (place : ℕ) : Type 0 where
    pub inside : place < length v
    pub within : list_any p (take place v) ≡ false
    pub here : p (get_or v place 0) ≡ true

  pub first-marked : (v : List ℕ) → 0 < mask_l (map p v) → First v (prefix_len (λ x. not (p x)) v)
  first-marked [] some = let no : ⊥ = omega arith in absurd no
  first-marked (x ∷ xs) some = unless-first (p x) refl (first-marked xs) some
    where
      unless-first : (b : Bool) → p x ≡ b → (0 < mask_l (map p xs) → First xs (prefix_len (λ y. not (p y)) xs)) → 0 < cond b 1 0 + 2 * mask_l (map p xs)
          → First (x ∷ xs) (cond (not b) (1 + prefix_len (λ y. not (p y)) xs) 0)
      unless-first true e ih some = record { inside = omega arith; within = refl; here = e }
      unless-first false e ih some =
          let f = ih (omega arith) in
          let next : 1 + prefix_len (λ y. not (p y)) xs ≡ suc (prefix_len (λ y. not (p y)) xs) = omega arith in
          rw next (record { inside = omega (arith, f.inside); within = rw e f.within; here = f.here })
