-- What a function gives of one number after another.
use Rattle.std.specs.Prelude.{◌+◌, ◌==◌, ◌&&◌, ◌++◌, ℕ, Bool, List, [], max, nat_le, nat_lt, suc, zero}
use Rattle.std.specs.List.{filter}

-- what f gives of 0, of 1 and so on up to below n, one after another
abbrev pub each : {A : Type 0} → ℕ → (ℕ → List A) → List A
each {A} zero f = []
each {A} (suc n) f = each n f ++ f n

-- the sum of what f gives of 0, of 1 and so on up to below n
abbrev pub total : ℕ → (ℕ → ℕ) → ℕ
total zero f = 0
total (suc n) f = total n f + f n

-- the largest of a number and of what f gives of those below n
abbrev pub largest : ℕ → ℕ → (ℕ → ℕ) → ℕ
largest least zero f = least
largest least (suc n) f = max (largest least n f) (f n)

-- k is one of the n numbers from one on
abbrev pub is_in_range : ℕ → ℕ → ℕ → Bool
is_in_range k at n = nat_le at k && nat_lt k (at + n)

-- what is in a list by a number of each, which are below n: those of one number as they stand in the list
abbrev pub by_number : {A : Type 0} → (A → ℕ) → ℕ → List A → List A
by_number number n xs = each n (λ k. filter (λ x. number x == k) xs)
