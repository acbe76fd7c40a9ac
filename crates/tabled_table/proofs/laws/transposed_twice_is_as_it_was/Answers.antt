use Rattle.tabled_table.proofs.Indexed.{transposed_twice}
use Rattle.tabled_table.proofs.laws.transposed_twice_is_as_it_was.Goals as goal

pub returns : goal.returns
returns c = transposed_twice c.args.builder.now c.keeps_its_shape.ensures
