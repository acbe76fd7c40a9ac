use Rattle.tabled_table.proofs.Common.{AllZip, PrintsOne, row_texts}
use Rattle.tabled_table.proofs.builder.maps.single_rows.Given as goal

abbrev pub invariant-loop-key : goal.invariant-loop-key
invariant-loop-key g l = AllZip (PrintsOne g.K.Display.output) l.yielded (row_texts l.all.items)
