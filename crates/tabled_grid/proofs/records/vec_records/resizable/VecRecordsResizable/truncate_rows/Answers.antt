use Rattle.tabled_grid.proofs.FlatStore.{rows_cut}
use Rattle.tabled_grid.proofs.records.vec_records.resizable.VecRecordsResizable.truncate_rows.Goals as goal

pub returns-else-count-eq0-clause-first : goal.returns-else-count-eq0-clause-first
returns-else-count-eq0-clause-first g c = rw (← c.self.view_is) (rows_cut _ _ _ c.self.inside.full c.args.count _ (rw (← c.self.view_is) at c.requires.within) c.if-count-eq0.false c.truncate.ensures.items)
