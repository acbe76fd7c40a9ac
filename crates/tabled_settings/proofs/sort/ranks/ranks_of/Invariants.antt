use Rattle.std.proofs.Common.{◌≡◌, ◌<◌, ℕ, get_or, vec_len}
use Rattle.tabled_decimal.specs.Numbers.{decimal}
use Rattle.tabled_settings.specs.Keys.{lent_text}
use Rattle.tabled_settings.specs.Ranks.{IsRank, last_rank}
use Rattle.tabled_settings.proofs.sort.ranks.ranks_of.Given as goal

abbrev pub invariant-loop-text : goal.invariant-loop-text
invariant-loop-text l = (vec_len l.ranks ≡ l.text-index) × ((i : ℕ) → i < l.text-index → IsRank l.descending (decimal (lent_text l.texts i)) (get_or l.ranks.items i last_rank))
