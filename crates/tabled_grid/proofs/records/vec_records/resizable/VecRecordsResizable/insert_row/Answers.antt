use Rattle.tabled_grid.proofs.Common.{◌+◌, ◌≡◌, rules}
use Rattle.tabled_grid.proofs.FlatStore.{row_inserted, row_inserted_full}
use Rattle.tabled_grid.proofs.records.vec_records.resizable.VecRecordsResizable.insert_row.Goals as goal

pub invariant_of-self-inside-2 : goal.invariant_of-self-inside-2
invariant_of-self-inside-2 g c =
    let more : c.in-Some.rows ≡ c.self.inside.rows + 1 = search rules in
    (row_inserted_full _ _ _ c.self.inside.full g.T.Blank.is_blank c.args.i _ _ (rw (← c.self.view_is) at c.requires.within) more c.in_ok-insert_blanks.ensures.ok, tt)

pub returns-clause-ok : goal.returns-clause-ok
returns-clause-ok g c =
    let more : c.in-Some.rows ≡ c.self.inside.rows + 1 = search rules in
    rw (← c.self.view_is) (row_inserted _ _ _ c.self.inside.full g.T.Blank.is_blank c.args.i _ _ (rw (← c.self.view_is) at c.requires.within) more c.in_ok-insert_blanks.ensures.ok)
