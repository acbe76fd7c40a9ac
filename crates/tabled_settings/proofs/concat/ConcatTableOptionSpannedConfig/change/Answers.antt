use Rattle.tabled_settings.proofs.Common.{◌∙◌, ◌≡◌, Size, ap, ap₂, carried, carried-stays, corner_of, joined_places, keep_fitting, rules, sym}
use Rattle.tabled_settings.proofs.Joins.{joined_keeps}
use Rattle.tabled_settings.proofs.concat.ConcatTableOptionSpannedConfig.change.Goals as goal

pub returns-clause-ok : goal.returns-clause-ok
returns-clause-ok g c =
    let grid = g.R.GridStore.grid c.args.records.now in
    let corner = corner_of c.args.self.0 grid.rows grid.columns in
    let stays : carried (joined_places corner c.args.self.1 grid.rows grid.columns) grid.rows grid.columns c.args.cfg.now ≡ keep_fitting grid.rows grid.columns c.args.cfg.now = carried-stays (joined_places corner c.args.self.1 grid.rows grid.columns) grid.rows grid.columns c.args.cfg.now (joined_keeps corner c.args.self.1 grid.rows grid.columns) in
    let kept = ap₂ (λ rows columns. keep_fitting rows columns c.args.cfg.now) (ap (λ (size : Size). size.height) c.in_ok-fitting.ensures.table ∙ c.shape_of-table.ensures.rows) (ap (λ (size : Size). size.width) c.in_ok-fitting.ensures.table ∙ c.shape_of-table.ensures.columns) in
    (search rules, c.stay.ensures ∙ kept ∙ sym stays)
