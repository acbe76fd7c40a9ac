use Rattle.tabled_settings.proofs.Common.{arith, same_count}
use Rattle.tabled_settings.proofs.LineSwaps.{few_swaps, front_kept}
use Rattle.tabled_settings.proofs.lines.bring.Goals as goal

pub truncate_lines-requires-clause-within : goal.truncate_lines-requires-clause-within
truncate_lines-requires-clause-within g c = omega (arith, few_swaps c.args.swaps.now _ c.requires.forward, same_count c.args.axis (g.R.GridStore.grid c.args.records.now) (g.R.GridStore.grid c.swap_forward.new.records) c.swap_forward.ensures.swapped.shape)

pub returns-clause-brought : goal.returns-clause-brought
returns-clause-brought g c = λ indexes bring. front_kept c.args.axis c.args.swaps.now indexes _ _ _ bring c.swap_forward.ensures.swapped c.truncate_lines.ensures.first
