use Rattle.tabled_settings.proofs.Common.{◌∙◌, ap, arith, map_grid, refl}
use Rattle.std.specs.String.{string_bytes}
use Rattle.tabled_settings.proofs.Joins.{join_done, join_undone}
use Rattle.tabled_settings.proofs.concat.Joint.join.Goals as goal

pub grow-requires-clause-rowless : goal.grow-requires-clause-rowless
grow-requires-clause-rowless g c = λ none.
    let s = c.self.inside in
    let room = c.self.invariant in
    let rows = ap (λ j. j.size.height) c.self.view_is ∙ c.requires.rows in
    let columns = ap (λ j. j.size.width) c.self.view_is ∙ c.requires.columns in
    let first = g.met.R.Resizable.rowless c.args.records.now c.requires.well (omega (arith, none, rows, room.tall)) in
    let second = s.second.now.rowless (omega (arith, none, room.tall)) in
    omega (arith, first, second, columns, room.wide, room.col)

pub returns-in-Err-clause-err : goal.returns-in-Err-clause-err
returns-in-Err-clause-err g c =
    let s = c.self.inside in
    let room = c.self.invariant in
    let rows = ap (λ j. j.size.height) c.self.view_is ∙ c.requires.rows in
    let columns = ap (λ j. j.size.width) c.self.view_is ∙ c.requires.columns in
    join_undone g.R.Cell.Blank.is_blank _ s.corner (map_grid string_bytes s.second.now.grid) s.default.now s.size.height s.size.width s.new_size _ _ _ rows columns
    0 0 _ _ _ (g.R.GridStore.even _ c.requires.well) (g.met.R.Resizable.rowless _ c.requires.well) (omega (arith, rows, room.tall)) (omega (arith, columns, room.wide)) c.in_ok-grow.ensures.ok (rw (← c.self.view_is) at c.fill.ensures.kept) c.truncate_columns.ensures.first c.truncate_rows.ensures.first

pub returns-clause-ok : goal.returns-clause-ok
returns-clause-ok g c =
    let s = c.self.inside in
    let room = c.self.invariant in
    let rows = ap (λ j. j.size.height) c.self.view_is ∙ c.requires.rows in
    let columns = ap (λ j. j.size.width) c.self.view_is ∙ c.requires.columns in
    rw (← c.self.view_is) (join_done g.R.Cell.Blank.is_blank g.R.Cell.CellText.text_of s.corner (map_grid string_bytes s.second.now.grid) s.default.now s.size.height s.size.width s.new_size _ _ _ rows columns
    _ g.met.R.Cell.CellText.blank_is_empty (omega (arith, rows, room.tall)) (omega (arith, columns, room.wide)) refl c.in_ok-grow.ensures.ok (rw (c.in_default.is, ← c.self.view_is) at c.fill.ensures.ok))
