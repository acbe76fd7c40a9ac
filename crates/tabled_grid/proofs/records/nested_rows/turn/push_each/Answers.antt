use Rattle.tabled_grid.proofs.Common.{◌+◌, ◌≤◌, AllWithin-more_set, Vec, arith, get_or, suc, vec_capacity, vec_len}
use Rattle.tabled_grid.proofs.Turned.{pushed_more, pushed_next}
use Rattle.tabled_grid.proofs.records.nested_rows.turn.push_each.Goals as goal

pub push_reserved-requires : goal.push_reserved-requires
push_reserved-requires g c = rw (pushed_next _ _ _ _ c.loop-row.row-index c.row-item.result c.loop-row.invariant.pushed) (c.requires.room _ _ (omega arith))

pub loop-row-preserved : goal.loop-row-preserved
loop-row-preserved g c =
    let i = c.loop-row.row-index in
    let d = c.row-item.result in
    let same = pushed_next _ _ _ _ i d c.loop-row.invariant.pushed in
    let row = get_or c.loop-row.rows i d in
    record {
      pushed = pushed_more _ _ _ _ i d c.push_reserved.new.self c.in-Some.item (omega arith) c.push_reserved.ensures.items (rw c.in-Some.ensures.items at c.loop-row.invariant.pushed);
      left = λ n room. AllWithin-more_set _ _ _ (omega arith) (λ (row : Vec g.row.T.Denot). vec_len row + n ≤ vec_capacity row) (c.loop-row.invariant.left n room) (let free : vec_len row + suc n ≤ vec_capacity row = rw same (room i d (omega arith)) in omega (arith, c.push_reserved.ensures.len, c.push_reserved.ensures.capacity, free));
    }

pub returns-clause-left : goal.returns-clause-left
returns-clause-left g c n room k d below = c.loop-row.invariant.left n room k d (omega arith) (omega (arith, below))
