use Rattle.tabled_table.proofs.Common.{refl, width-texts}
use Rattle.tabled_table.proofs.builder.table_builder.Builder.from_vec.Goals as goal

pub invariant_of-result : goal.invariant_of-result
invariant_of-result c = rw (c.width-count_columns.ensures, c.deref.ensures.value, ← width-texts c.args.rows.items) c.requires.even

pub returns : goal.returns
returns c = record { rows = rw (c.width-count_columns.ensures, c.deref.ensures.value, ← width-texts c.args.rows.items, c.new.ensures.bytes) refl }
