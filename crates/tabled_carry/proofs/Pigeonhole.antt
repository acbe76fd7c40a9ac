-- Lists whose members are paired with those of another list, each with one of its own.
use Rattle.tabled_carry.proofs.Common.{[], ◌*◌, ◌++◌, ◌+◌, ◌-◌, ◌∙◌, ◌∷◌, ◌≡◌, ◌≤◌, ◌⊎◌, List, Member, Position, ap, ap₂, arith, block, flat_map, flat_map-member, inl, inr, length, length-append, map, map-member, member-either, place, range-member, range_with_len, refl, row_places, subst, suc, sym, zero, ℕ}
use Rattle.std.proofs.lemmas.List.FromFn.{length-map-range_with_len}
use Rattle.std.proofs.Math.Nat.{suc-mul, zero-mul}

-- each member stands once
abbrev pub Once : {A : Type 0} → List A → Type 0
Once [] = Unit {0}
Once (x ∷ xs) = (Member x xs → ⊥) × Once xs

-- a list without a member of it
without : {A : Type 0} (x : A) (ys : List A) → Member x ys → (zs : List A) × (length ys ≡ length zs + 1) × ((y : A) → Member y ys → (y ≡ x) ⊎ Member y zs)
without x [] none = absurd none
without x (y ∷ ys) (inl e) = (ys, omega arith, λ z m. elim m [ inl same ↦ inl (same ∙ sym e) | inr h ↦ inr h ])
without x (y ∷ ys) (inr m) =
    let rest = without x ys m in
    (y ∷ rest.0, omega (arith, rest.1), λ z n. elim n [ inl same ↦ inr (inl same) | inr h ↦ elim (rest.2 z h) [ inl same ↦ inl same | inr k ↦ inr (inr k) ] ])

module _ {A B : Type 0} (R : A → B → Type 0) (one : (x y : A) (z : B) → R x z → R y z → x ≡ y) where
  -- the other list is no shorter, and where it is no longer each of its members is in a pair
  pub paired : (xs : List A) (ys : List B) → Once xs → ((x : A) → Member x xs → (y : B) × Member y ys × R x y) → (length xs ≤ length ys) × (length ys ≤ length xs → (y : B) → Member y ys → (x : A) × Member x xs × R x y)
  paired [] [] once goes = (omega arith, λ few y m. absurd m)
  paired [] (y ∷ ys) once goes = (omega arith, λ few. absurd (omega (arith, few)))
  paired (x ∷ xs) ys once goes =
      let to = goes x (inl refl) in
      let rest = without to.0 ys to.1 in
      let shorter = paired xs rest.0 once.1 (λ y m. other rest.0 rest.2 y m (goes y (inr m))) in
      (omega (arith, rest.1, shorter.0), λ few y m. of_pair rest.0 (shorter.1 (omega (arith, rest.1, few))) y (rest.2 y m))
    where
      to : (y : B) × Member y ys × R x y
      to = goes x (inl refl)

      other : (zs : List B) → ((z : B) → Member z ys → (z ≡ to.0) ⊎ Member z zs) → (y : A) → Member y xs → (z : B) × Member z ys × R y z → (z : B) × Member z zs × R y z
      other zs left y m (z, h, r) = elim (left z h) [ inl same ↦ absurd (once.0 (subst (λ a. Member a xs) (one y x to.0 (subst (λ b. R y b) same r) to.2) m)) | inr k ↦ (z, k, r) ]

      of_pair : (zs : List B) → ((z : B) → Member z zs → (y : A) × Member y xs × R y z) → (y : B) → (y ≡ to.0) ⊎ Member y zs → (a : A) × Member a (x ∷ xs) × R a y
      of_pair zs from y (inl same) = (x, inl refl, subst (λ b. R x b) (sym same) to.2)
      of_pair zs from y (inr m) = let p = from y m in (p.0, inr p.1, p.2)

once-append : {A : Type 0} (xs ys : List A) → Once xs → Once ys → ((x : A) → Member x xs → Member x ys → ⊥) → Once (xs ++ ys)
once-append [] ys a b apart = b
once-append (x ∷ xs) ys a b apart = (λ m. elim (member-either x xs ys m) [ inl h ↦ a.0 h | inr h ↦ apart x (inl refl) h ], once-append xs ys a.1 b (λ y m. apart y (inr m)))

once-row : (i a n : ℕ) → Once (map (place i) (range_with_len a n))
once-row i a zero = tt
once-row i a (suc n) = (λ m. let f = map-member (place i) (place i a) (range_with_len (a + 1) n) m in let h = range-member f.0 (a + 1) n f.1 in omega (arith, h.0, ap (λ (p : Position). p.col) f.2), once-row i (a + 1) n)

rows_of : (c d a n : ℕ) → Once (flat_map (row_places c d) (range_with_len a n))
rows_of c d a zero = tt
rows_of c d a (suc n) = once-append (row_places c d a) (flat_map (row_places c d) (range_with_len (a + 1) n)) (once-row a c (d - c)) (rows_of c d (a + 1) n) apart
  where
    apart : (p : Position) → Member p (row_places c d a) → Member p (flat_map (row_places c d) (range_with_len (a + 1) n)) → ⊥
    apart p m k =
        let f = map-member (place a) p (range_with_len c (d - c)) m in
        let g = flat_map-member (row_places c d) p (range_with_len (a + 1) n) k in
        let i = range-member g.0 (a + 1) n g.1 in
        let h = map-member (place g.0) p (range_with_len c (d - c)) g.2 in
        omega (arith, i.0, ap (λ (q : Position). q.row) f.2, ap (λ (q : Position). q.row) h.2)

length-rows_of : (c d a n : ℕ) → length (flat_map (row_places c d) (range_with_len a n)) ≡ n * (d - c)
length-rows_of c d a zero = sym (zero-mul (d - c))
length-rows_of c d a (suc n) = length-append (row_places c d a) (flat_map (row_places c d) (range_with_len (a + 1) n)) ∙ ap₂ (λ k m. k + m) (length-map-range_with_len (place a) c (d - c)) (length-rows_of c d (a + 1) n) ∙ omega (arith, suc-mul n (d - c))

-- each place of a block stands once
pub once-block : (a b c d : ℕ) → Once (block a b c d)
once-block a b c d = rows_of c d a (b - a)

pub length-block : (a b c d : ℕ) → length (block a b c d) ≡ (b - a) * (d - c)
length-block a b c d = length-rows_of c d a (b - a)
