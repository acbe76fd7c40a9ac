use Rattle.tabled_steps.proofs.Common.{◌-◌, ◌∙◌, ◌≤◌, Group, ap, arith, drop, length, refl, rules, sym}
use Rattle.tabled_steps.proofs.GroupSteps.{drop-into, drop-past, passed-into, passed-past, skipped}
use Rattle.tabled_steps.proofs.StepsUntil.{none_left}
use Rattle.tabled_steps.proofs.groups.skip_counted.Goals as goal

pub loop-group-preserved-then-group-ahead : goal.loop-group-preserved-then-group-ahead
loop-group-preserved-then-group-ahead c =
    let items = c.in-Some.ensures.steps.0 in
    let lengths = ap length items in
    let ahead = c.loop-group.ahead in
    let group = c.in-Some.group in
    record {
      can = search rules;
      ends = search rules;
      counted = omega (arith, lengths, c.in-Some.ensures.steps.1, c.loop-group.invariant.counted);
      so_far = λ rows columns each. passed-past drop _ rows columns ahead (ahead - group.count) group _ c.loop-group.left.items (λ x ps. drop-past x ps ahead group.count c.if-group-ahead.true) (rw items at (c.loop-group.invariant.so_far rows columns each));
    }

pub loop-group-preserved : goal.loop-group-preserved
loop-group-preserved c =
    let items = c.in-Some.ensures.steps.0 in
    let lengths = ap length items in
    let ahead = c.loop-group.ahead in
    let group = c.in-Some.group in
    let part : Group = record { entity = group.entity; count = group.count - ahead } in
    let some : 1 ≤ part.count = omega (arith, c.if-group-ahead.false) in
    let few : part.count ≤ group.count = omega arith in
    record {
      can = search rules;
      ends = search rules;
      counted = omega (arith, lengths, c.in-Some.ensures.steps.1, c.loop-group.invariant.counted);
      so_far = λ rows columns each. passed-into drop _ rows columns ahead 0 group part _ c.loop-group.left.items _ c.in_ok-push.ensures.items refl some few (λ x ps. drop-into x ps ahead group.count c.if-group-ahead.false) (rw items at (c.loop-group.invariant.so_far rows columns each));
    }

pub returns : goal.returns
returns c =
    let none = none_left _ (sym c.loop-group.invariant.counted ∙ c.in-None.ensures.steps.0) in
    skipped c.args.n c.args.groups.items c.loop-group.left.items c.loop-group.ahead (λ rows columns each. rw none at (c.loop-group.invariant.so_far rows columns each))
