use Rattle.tabled_grid.proofs.Across.{turned_all, turned_once}
use Rattle.tabled_grid.proofs.records.vec_records.turn.turn.Goals as goal

pub gather-requires-clause-once : goal.gather-requires-clause-once
gather-requires-clause-once g c = rw (c.count_rows-rows.ensures.rows, c.count_columns-columns.ensures.columns) (turned_once (g.R.GridStore.grid c.args.records.now))

pub returns-clause-ok : goal.returns-clause-ok
returns-clause-ok g c = turned_all (g.R.GridStore.grid c.args.records.now) g.R.Cell.Blank.is_blank _ (g.R.GridStore.even _ c.requires.well) c.requires.some (rw (c.count_rows-rows.ensures.rows, c.count_columns-columns.ensures.columns) at c.in_ok-gather.ensures.ok)
