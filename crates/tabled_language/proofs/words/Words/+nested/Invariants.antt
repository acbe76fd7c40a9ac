use Rattle.tabled_language.proofs.Common.{◌*◌, ◌+◌}
use Rattle.tabled_language.proofs.words.Words.+nested.Given as goal

abbrev pub decreases-selector : goal.decreases-selector
decreases-selector l = 5 * l.depth

abbrev pub decreases-inner : goal.decreases-inner
decreases-inner l = 5 * l.depth + 1

abbrev pub decreases-two_inner : goal.decreases-two_inner
decreases-two_inner l = 5 * l.depth + 2

abbrev pub decreases-holding_selector : goal.decreases-holding_selector
decreases-holding_selector l = 5 * l.depth + 3

abbrev pub decreases-selector_behind : goal.decreases-selector_behind
decreases-selector_behind l = 5 * l.depth + 4
