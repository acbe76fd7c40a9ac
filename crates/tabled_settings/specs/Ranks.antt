-- Ranks of texts: whole numbers in the order of the numbers that the texts write.
use Rattle.std.specs.Borrow.{Bor}
use Rattle.std.specs.Prelude.{◌≡◌, ◌<ℤ◌, ℕ, ℤ, neg_ℤ, pos, Bool, if◌then◌else◌, List, None, Option, Some, get_or}
use Rattle.tabled_decimal.specs.Millionths.{AreMillionths}
use Rattle.tabled_decimal.specs.Numbers.{Number, decimal}
use Rattle.tabled_settings.specs.Keys.{lent_text}

-- the rank of what is no number, behind all others
abbrev pub last_rank : ℤ
last_rank = pos 9223372036854775807

-- the rank of a number: how many millionths it is, or, to descend, less than nothing
abbrev pub IsRank : Bool → Option Number → ℤ → Type 0
IsRank descending None rank = rank ≡ last_rank
IsRank descending (Some a) rank = (n : ℤ) × AreMillionths a n × (rank ≡ (if descending then neg_ℤ n else n)) × (rank <ℤ last_rank)

-- each text has its rank, also one past the texts
abbrev pub AreRanks : Bool → List (Bor (List ℕ)) → List ℤ → Type 0
AreRanks descending texts ranks = (i : ℕ) → IsRank descending (decimal (lent_text texts i)) (get_or ranks i last_rank)
