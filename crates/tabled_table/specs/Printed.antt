-- Rows of the texts that entries print.
use Rattle.std.specs.Prelude.{◌≡◌, ℕ, List, [], ◌∷◌, Option, IfSome}
use Rattle.std.specs.declared.cmp.Ordering.{Ordering}
use Rattle.std.specs.Cmp.Lexicographic.{slice_cmp}
use Rattle.std.specs.List.{AllZip}
use Rattle.std.specs.List.Sorted.{IsPermutation, IsSorted}
use Rattle.std.specs.Ordering.{nat_cmp}
use Rattle.tabled_table.specs.Builder.{Builder}

-- a text is the one that is printed, where that is stated
abbrev pub Prints : {A : Type 0} → (A → Option (List ℕ)) → A → List ℕ → Type 0
Prints output x text = IfSome (output x) (λ printed. text ≡ printed)

-- the text of a key, and that of its value
pub record PrintsPair {K V : Type 0} (key_output : K → Option (List ℕ)) (value_output : V → Option (List ℕ)) (entry : K × V) (row : List (List ℕ)) : Type 0 where
  pub key : List ℕ
  pub value : List ℕ
  pub is : row ≡ key ∷ value ∷ []
  pub prints_key : Prints key_output entry.0 key
  pub prints_value : Prints value_output entry.1 value

-- the text of a key alone
pub record PrintsOne {K : Type 0} (output : K → Option (List ℕ)) (entry : K) (row : List (List ℕ)) : Type 0 where
  pub key : List ℕ
  pub is : row ≡ key ∷ []
  pub prints_key : Prints output entry key

-- a builder of n columns, with a row an entry in the order of these
pub record HoldsEntries {E : Type 0} (columns : ℕ) (prints : E → List (List ℕ) → Type 0) (entries : List E) (b : Builder) : Type 0 where
  pub rows : List (List (List ℕ))
  pub each : AllZip prints entries rows
  pub is : b ≡ record { columns = columns; rows = rows; empty = [] }

-- by the bytes of the texts, the first text first
abbrev pub row_cmp : List (List ℕ) → List (List ℕ) → Ordering
row_cmp = slice_cmp (slice_cmp nat_cmp)

-- a builder of n columns, with a row an entry, in ascending order of the rows
pub record HoldsSortedEntries {E : Type 0} (columns : ℕ) (prints : E → List (List ℕ) → Type 0) (entries : List E) (b : Builder) : Type 0 where
  pub unsorted : List (List (List ℕ))
  pub each : AllZip prints entries unsorted
  pub rows : List (List (List ℕ))
  pub same : IsPermutation unsorted rows
  pub sorted : IsSorted row_cmp rows
  pub is : b ≡ record { columns = columns; rows = rows; empty = [] }
