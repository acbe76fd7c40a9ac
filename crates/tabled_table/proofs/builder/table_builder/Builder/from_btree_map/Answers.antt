use Rattle.tabled_table.proofs.Common.{IfOk-weaker, PrintsPair, ap, even-each, length, row_texts}
use Rattle.tabled_table.proofs.Printed.{all-drained}
use Rattle.tabled_table.proofs.builder.table_builder.Builder.from_btree_map.Goals as goal

pub of_rows-requires : goal.of_rows-requires
of_rows-requires g c = even-each 2 (PrintsPair g.K.Display.output g.V.Display.output) (λ e row r. ap length r.is) _ _ c.in_ok-rows.ensures.4

pub returns : goal.returns
returns g c = IfOk-weaker c.of_rows.result _ _ (λ b e. record { rows = row_texts c.in_ok-rows.rows.items; each = all-drained _ c.args.map.entries _ _ _ c.in_ok-rows.ensures.2.0 c.in_ok-rows.ensures.3 c.in_ok-rows.ensures.4; is = e }) c.of_rows.ensures
