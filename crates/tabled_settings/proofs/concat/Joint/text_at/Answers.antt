use Rattle.tabled_settings.proofs.Common.{IsEven-map_grid, arith, inl, inr}
use Rattle.std.specs.String.{string_bytes}
use Rattle.tabled_grid.specs.Evenness.{is_even_grid}
use Rattle.tabled_settings.proofs.Joins.{none_put}
use Rattle.tabled_settings.proofs.concat.Joint.text_at.Goals as goal

pub returns-then-pos-count_rows : goal.returns-then-pos-count_rows
returns-then-pos-count_rows c =
    let s = c.self.inside in
    let even = IsEven-map_grid string_bytes s.second.now.grid (is_even_grid s.second.now) in
    rw (← c.self.view_is) (none_put s.corner _ s.default.now c.args.row c.args.col even (omega (arith, c.if-row-self.false)) (omega (arith, c.if-col-self.false))
    (elim c.then-pos-count_rows.branch [
      | goal.then-pos-count_rows-via-then-pos-count_rows w ↦ inl (omega (arith, w.if-pos-count_rows.true, c.count_rows.ensures.rows))
      | goal.then-pos-count_rows-via-else-pos-count_rows+then-pos-count_columns w ↦ inr (omega (arith, w.if-pos-count_columns.true, w.count_columns.ensures.columns))
    ]))
