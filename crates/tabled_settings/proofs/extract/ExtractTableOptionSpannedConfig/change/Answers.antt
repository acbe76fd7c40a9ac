use Rattle.tabled_settings.proofs.Common.{◌∙◌, ap, end_index}
use Rattle.tabled_settings.proofs.KeptLines.{extract_carried, extract_done}
use Rattle.tabled_settings.proofs.extract.ExtractTableOptionSpannedConfig.change.Goals as goal

pub returns-clause-ok : goal.returns-clause-ok
returns-clause-ok g c =
    let in_rows = g.A.ToBounds.bounds_of c.self.inside.rows in
    let in_columns = g.B.ToBounds.bounds_of c.self.inside.columns in
    let rows = c.shape_of-table.ensures.rows in
    let columns = c.shape_of-table.ensures.columns in
    let r = c.to_range-in_rows.ensures in
    let k = c.to_range-in_columns.ensures in
    rw (← c.self.view_is) (
      extract_done in_rows in_columns _ _ _ _ _ _ _ r.start (r.end ∙ ap (end_index in_rows.1) rows) k.start (k.end ∙ ap (end_index in_columns.1) columns) c.keep.ensures.kept c.keep-2.ensures.kept,
      extract_carried in_rows in_columns _ _ _ _ _ _ _ _ _ c.args.cfg.now _ r.start r.end k.start k.end rows columns c.of-part.ensures (rw c.in_ok-fitting.ensures.table at c.carry_along.ensures.carried),
    )
