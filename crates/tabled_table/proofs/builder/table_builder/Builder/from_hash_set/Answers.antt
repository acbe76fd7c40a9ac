use Rattle.tabled_table.proofs.Common.{IfOk-weaker, PrintsOne, ap, even-each, length, row_texts}
use Rattle.tabled_table.proofs.Printed.{all-drained, even-permutation}
use Rattle.tabled_table.proofs.builder.table_builder.Builder.from_hash_set.Goals as goal

pub of_rows-requires : goal.of_rows-requires
of_rows-requires g c = even-permutation 1 _ _ c.sort_rows.ensures.same (even-each 1 (PrintsOne g.K.Display.output) (λ e row r. ap length r.is) _ _ c.in_ok-rows.ensures.4)

pub returns : goal.returns
returns g c = IfOk-weaker c.of_rows.result _ _ (λ b e. record { unsorted = row_texts c.in_ok-rows.rows.items; each = all-drained _ c.args.set.keys _ _ _ c.in_ok-rows.ensures.2.0 c.in_ok-rows.ensures.3 c.in_ok-rows.ensures.4; rows = row_texts c.sort_rows.new.rows.items; same = c.sort_rows.ensures.same; sorted = c.in_ok-sort_rows.ensures.sorted; is = e }) c.of_rows.ensures
