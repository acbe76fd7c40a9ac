use Rattle.tabled_grid.proofs.Common.{◌+◌, ◌≡◌, arith, common_steps, rules, with_items}
use Rattle.tabled_grid.proofs.AddedColumns.{columns_added_none}
use Rattle.tabled_grid.proofs.FlatStore.{columns_put, full_put}
use Rattle.tabled_grid.proofs.records.vec_records.resizable.VecRecordsResizable.push_columns.Goals as goal

pub returns-then-many-eq0-clause-ok : goal.returns-then-many-eq0-clause-ok
returns-then-many-eq0-clause-ok g c = rw c.if-many-eq0.true (columns_added_none g.T.Blank.is_blank _)

pub invariant_of-self-inside-2 : goal.invariant_of-self-inside-2
invariant_of-self-inside-2 g c =
    let items : (with_items c.push_blanks.new.cells c.spread.new.cells).items ≡ c.spread.new.cells = grind (arith, common_steps) in
    let sum : c.in-Some.columns ≡ c.self.inside.columns + c.args.many = search rules in
    (rw items (full_put _ _ _ c.self.inside.full g.T.Blank.is_blank _ _ c.in_ok-push_blanks.ensures.ok _ _ _ c.if-self-eq0.false sum (rw c.deref_mut.ensures.value at c.spread.ensures)), tt)

pub returns-clause-ok : goal.returns-clause-ok
returns-clause-ok g c =
    let items : (with_items c.push_blanks.new.cells c.spread.new.cells).items ≡ c.spread.new.cells = grind (arith, common_steps) in
    let sum : c.in-Some.columns ≡ c.self.inside.columns + c.args.many = search rules in
    rw (← c.self.view_is)
    (columns_put _ _ _ c.self.inside.full g.T.Blank.is_blank _ _ c.in_ok-push_blanks.ensures.ok _ _ _ c.if-self-eq0.false sum (rw items (rw c.deref_mut.ensures.value at c.spread.ensures)))
