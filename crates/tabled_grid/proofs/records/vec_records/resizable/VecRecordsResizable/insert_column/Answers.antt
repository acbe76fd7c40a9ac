use Rattle.tabled_grid.proofs.Common.{◌*◌, ◌≡◌, arith, common_steps, with_items}
use Rattle.tabled_grid.proofs.FlatStore.{blanks_put, column_inserted}
use Rattle.tabled_grid.proofs.records.vec_records.resizable.VecRecordsResizable.insert_column.Goals as goal

pub spread-requires-clause-blanks : goal.spread-requires-clause-blanks
spread-requires-clause-blanks g c =
    let all : c.self.inside.rows * 1 ≡ c.self.inside.rows = omega arith in
    rw (all, c.deref_mut.ensures.value) (blanks_put _ _ _ c.self.inside.full g.T.Blank.is_blank _ _ c.in_ok-push_blanks.ensures.ok)

pub returns-clause-ok : goal.returns-clause-ok
returns-clause-ok g c =
    let items : (with_items c.push_blanks.new.cells c.spread.new.cells).items ≡ c.spread.new.cells = grind (arith, common_steps) in
    rw (← c.self.view_is)
    (column_inserted _ _ _ c.self.inside.full g.T.Blank.is_blank _ _ c.in_ok-push_blanks.ensures.ok c.args.j _ (rw (← c.self.view_is) at c.requires.within) c.if-self-eq0.false (rw items (rw c.deref_mut.ensures.value at c.spread.ensures)))
