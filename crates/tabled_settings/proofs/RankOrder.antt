-- Ranks are in the order of the numbers that they are of.
use Rattle.std.proofs.Common.{◌≡◌, ℤ, neg_ℤ, Bool, true, false, None, Option, Some, Ordering, Less, Greater, Equal, arith, refl, ap₂, sym, ◌∙◌, int_cmp}
use Rattle.std.proofs.lemmas.Cmp.{int_ranked}
use Rattle.std.proofs.lemmas.Int.{ints}
use Rattle.std.specs.Cmp.{int_cmp_is}
use Rattle.std.specs.Ordering.{MatchOrdering}
use Rattle.std.specs.Prelude.{◌<ℤ◌}
use Rattle.tabled_decimal.specs.Millionths.{AreMillionths, cmp-millionths}
use Rattle.tabled_decimal.specs.Numbers.{Number, number_cmp}
use Rattle.tabled_settings.specs.Ranks.{IsRank, last_rank}
use Rattle.tabled_settings.specs.Sorted.{directed, numbers_first}

-- opposite numbers are in the opposite order
opposite : (m n : ℤ) → int_cmp (neg_ℤ m) (neg_ℤ n) ≡ int_cmp n m
opposite m n = int_cmp_is n m (int_cmp (neg_ℤ m) (neg_ℤ n)) (turned m n (int_cmp (neg_ℤ m) (neg_ℤ n)) (int_ranked (neg_ℤ m) (neg_ℤ n) (int_cmp (neg_ℤ m) (neg_ℤ n)) refl))
  where
    turned : (m n : ℤ) (r : Ordering) → MatchOrdering r (neg_ℤ m <ℤ neg_ℤ n) (neg_ℤ m ≡ neg_ℤ n) (neg_ℤ n <ℤ neg_ℤ m) → MatchOrdering r (n <ℤ m) (n ≡ m) (m <ℤ n)
    turned m n Less h = omega (arith, ints)
    turned m n Equal h = omega (arith, ints)
    turned m n Greater h = omega (arith, ints)

-- ranks are in the order of the numbers, and what is none behind them
pub rank-cmp : (descending : Bool) (a b : Option Number) (r s : ℤ) → IsRank descending a r → IsRank descending b s → int_cmp r s ≡ numbers_first (directed descending number_cmp) a b
rank-cmp false (Some a) (Some b) r s (m, is_a, e, low) (n, is_b, f, below) = ap₂ int_cmp e f ∙ sym (cmp-millionths a b m n is_a is_b)
rank-cmp true (Some a) (Some b) r s (m, is_a, e, low) (n, is_b, f, below) = ap₂ int_cmp e f ∙ opposite m n ∙ sym (cmp-millionths b a n m is_b is_a)
rank-cmp descending (Some a) None r s (m, is_a, e, low) f = ap₂ int_cmp refl f ∙ sym (int_cmp_is r last_rank Less low)
rank-cmp descending None (Some b) r s e (n, is_b, f, low) = ap₂ int_cmp e refl ∙ sym (int_cmp_is last_rank s Greater low)
rank-cmp descending None None r s e f = ap₂ int_cmp e f
