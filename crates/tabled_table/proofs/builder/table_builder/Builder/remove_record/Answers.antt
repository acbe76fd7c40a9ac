use Rattle.tabled_table.proofs.Common.{all-remove, map-remove, refl, texts_of}
use Rattle.tabled_table.proofs.builder.table_builder.Builder.remove_record.Goals as goal

pub invariant_of-self : goal.invariant_of-self
invariant_of-self c = rw (c.remove-record.ensures.items, map-remove texts_of c.self.inside.rows.items c.args.i) (all-remove _ _ c.args.i c.self.invariant)

pub returns : goal.returns
returns c = record { removed = rw (← c.self.view_is, c.remove-record.ensures.items, map-remove texts_of c.self.inside.rows.items c.args.i) refl }
