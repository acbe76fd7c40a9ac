use Rattle.tabled_language.proofs.Common.{[], ◌-◌, ◌≡◌, padded_to, texts_in_row, vec_len}
use Rattle.tabled_language.proofs.padding.pad.Given as goal

abbrev pub invariant-loop-row : goal.invariant-loop-row
invariant-loop-row l = padded_to l.columns [] (texts_in_row l.row) ≡ padded_to l.columns [] (texts_in_row l.fn.row)

abbrev pub decreases-loop-row : goal.decreases-loop-row
decreases-loop-row l = l.columns - vec_len l.row
