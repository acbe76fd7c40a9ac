use Rattle.tabled_table.proofs.Common.{AllZip, PrintsPair, row_texts}
use Rattle.tabled_table.proofs.builder.maps.pair_rows.Given as goal

abbrev pub invariant-loop-key : goal.invariant-loop-key
invariant-loop-key g l = AllZip (PrintsPair g.K.Display.output g.V.Display.output) l.yielded (row_texts l.all.items)
