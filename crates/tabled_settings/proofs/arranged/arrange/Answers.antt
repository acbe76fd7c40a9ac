use Rattle.tabled_settings.proofs.KeptLines.{kept_read}
use Rattle.tabled_settings.proofs.LineReads.{counted}
use Rattle.tabled_settings.proofs.arranged.arrange.Goals as goal

pub new-requires : goal.new-requires
new-requires g c = rw (c.shape_of-table.ensures.rows, c.shape_of-table.ensures.columns, counted c.args.axis (g.R.GridStore.grid c.args.records.now)) c.requires.once

pub bring-requires-clause-forward : goal.bring-requires-clause-forward
bring-requires-clause-forward g c =
    let e = c.in_ok-arrangement.ensures in
    let bring = (rw (e.axis, e.indexes, e.table, c.shape_of-table.ensures.rows, c.shape_of-table.ensures.columns, counted c.args.axis (g.R.GridStore.grid c.args.records.now)) at c.in_ok-arrangement.arrangement.bring) in
    rw c.deref.ensures.value bring.forward

pub returns-clause-ok : goal.returns-clause-ok
returns-clause-ok g c =
    let grid = g.R.GridStore.grid c.args.records.now in
    let e = c.in_ok-arrangement.ensures in
    let bring = (rw (e.axis, e.indexes, e.table, c.shape_of-table.ensures.rows, c.shape_of-table.ensures.columns, counted c.args.axis grid) at c.in_ok-arrangement.arrangement.bring) in
    let moved = (rw (c.in_ok-fitting.ensures.table, e.axis, e.indexes, e.table, c.shape_of-table.ensures.rows, c.shape_of-table.ensures.columns) at c.carry_along.ensures.carried) in
    (kept_read c.args.axis c.args.indexes.items grid _ (c.bring.ensures.brought c.args.indexes.items (rw c.deref.ensures.value bring)), moved)
