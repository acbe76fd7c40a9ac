use Rattle.tabled_steps.proofs.Common.{◌-◌, ◌≡◌, arith, on_ok_weaker}
use Rattle.tabled_steps.proofs.Outside.{row_end, row_more}
use Rattle.tabled_steps.proofs.groups.push_row.Goals as goal

pub loop-j-preserved : goal.loop-j-preserved
loop-j-preserved c = record {
  bounded = omega arith;
  so_far = row_more c.args.i c.args.columns.0 c.loop-j.j c.args.groups.now.items c.loop-j.groups.items _ c.loop-j.auto.j c.loop-j.invariant.so_far c.in_ok-push.ensures.items;
}

pub returns : goal.returns
returns c =
    let all : c.loop-j.j - c.args.columns.0 ≡ c.args.within - c.args.columns.0 = omega (arith, c.loop-j-test.false, c.loop-j.invariant.bounded, c.loop-j.auto.j) in
    on_ok_weaker c.push_outside.result (λ last. row_end c.args.i c.loop-j.j c.saturating_sub.result c.args.within c.args.columns c.args.groups.now.items c.loop-j.groups.items c.push_outside.new.groups.items all c.saturating_sub.ensures c.loop-j.invariant.so_far last) c.push_outside.ensures
