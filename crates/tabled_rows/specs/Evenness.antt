-- Rows of one cell, over and over, are an even grid.
use Rattle.std.proofs.Common.{◌≡◌, ℕ, zero, suc, List, refl, ap, length}
use Rattle.std.specs.Prelude.{replicate}
use Rattle.std.specs.List.{AllByRecursion}
use Rattle.tabled_grid.specs.Grid.{IsEven}
use Rattle.tabled_rows.specs.Rows.{Shape, empty_grid, empty_text}

module _ {A : Type 0} where
  length-replicate : (n : ℕ) (x : A) → length (replicate n x) ≡ n
  length-replicate zero x = refl
  length-replicate (suc n) x = ap suc (length-replicate n x)

  wide-replicate : (r c : ℕ) (row : List A) → length row ≡ c → AllByRecursion (λ (row : List A). length row ≡ c) (replicate r row)
  wide-replicate zero c row long = tt
  wide-replicate (suc r) c row long = (long, wide-replicate r c row long)

-- the grid of empty texts is even
pub is_even_empty : (s : Shape) → IsEven (empty_grid s)
is_even_empty s = record {
  tall = length-replicate s.rows (replicate s.columns empty_text);
  wide = wide-replicate s.rows s.columns (replicate s.columns empty_text) (length-replicate s.columns empty_text);
}
