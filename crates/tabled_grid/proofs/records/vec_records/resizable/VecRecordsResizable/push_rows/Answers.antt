use Rattle.tabled_grid.proofs.Common.{◌*◌, ◌+◌, ◌≡◌, rules}
use Rattle.tabled_grid.proofs.FlatStore.{rows_put, rows_put_full}
use Rattle.tabled_grid.proofs.records.vec_records.resizable.VecRecordsResizable.push_rows.Goals as goal

pub invariant_of-self-inside-2 : goal.invariant_of-self-inside-2
invariant_of-self-inside-2 g c =
    let sum : c.in-Some.rows ≡ c.self.inside.rows + c.args.many = search rules in
    let product : c.in-Some-checked_mul.count ≡ c.self.inside.columns * c.args.many = search rules in
    (rows_put_full _ _ _ c.self.inside.full g.T.Blank.is_blank _ _ _ _ sum product c.in_ok-push_blanks.ensures.ok, tt)

pub returns-clause-ok : goal.returns-clause-ok
returns-clause-ok g c =
    let sum : c.in-Some.rows ≡ c.self.inside.rows + c.args.many = search rules in
    let product : c.in-Some-checked_mul.count ≡ c.self.inside.columns * c.args.many = search rules in
    rw (← c.self.view_is) (rows_put _ _ _ c.self.inside.full g.T.Blank.is_blank _ _ _ _ sum product c.in_ok-push_blanks.ensures.ok)
