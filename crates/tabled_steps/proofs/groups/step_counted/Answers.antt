use Rattle.tabled_steps.proofs.Common.{◌%◌, ◌+◌, ◌-◌, ◌/◌, ◌<◌, ◌∙◌, ◌≡◌, ◌≤◌, Group, StepsBy, ap, arith, div-le_self, every_from, length, refl, rules, subst, suc, sym}
use Rattle.tabled_steps.proofs.GroupSteps.{every_from-past, passed-into, passed-past, step-into, stepped}
use Rattle.tabled_steps.proofs.StepsUntil.{none_left}
use Rattle.tabled_steps.proofs.groups.step_counted.Goals as goal

pub loop-group-preserved-then-group-ahead : goal.loop-group-preserved-then-group-ahead
loop-group-preserved-then-group-ahead c =
    let items = c.in-Some.ensures.steps.0 in
    let lengths = ap length items in
    let ahead = c.loop-group.ahead in
    let group = c.in-Some.group in
    record {
      can = search rules;
      ends = search rules;
      counted = omega (arith, lengths, c.in-Some.ensures.steps.1, c.loop-group.invariant.counted);
      so_far = λ rows columns each. passed-past (every_from (c.args.n - 1)) _ rows columns ahead (ahead - group.count) group _ c.loop-group.left.items (λ x ps. every_from-past x ps (c.args.n - 1) ahead group.count c.if-group-ahead.true) (rw items at (c.loop-group.invariant.so_far rows columns each));
    }

pub loop-group-preserved : goal.loop-group-preserved
loop-group-preserved c =
    let items = c.in-Some.ensures.steps.0 in
    let lengths = ap length items in
    let ahead = c.loop-group.ahead in
    let group = c.in-Some.group in
    let some_step : 0 < c.args.n = omega (arith, c.if-n-eq0.false) in
    let part : Group = record { entity = group.entity; count = (group.count - ahead - 1) / c.args.n + 1 } in
    let some : 1 ≤ part.count = omega arith in
    let few : part.count ≤ group.count = omega (arith, div-le_self (group.count - ahead - 1) c.args.n, c.if-group-ahead.false) in
    record {
      can = search rules;
      ends = search rules;
      counted = omega (arith, lengths, c.in-Some.ensures.steps.1, c.loop-group.invariant.counted);
      so_far = λ rows columns each. passed-into (every_from (c.args.n - 1)) _ rows columns ahead (c.args.n - 1 - (group.count - ahead - 1) % c.args.n) group part _ c.loop-group.left.items _ c.in_ok-push.ensures.items refl some few (λ x ps. step-into x ps c.args.n ahead group.count some_step c.if-group-ahead.false) (rw items at (c.loop-group.invariant.so_far rows columns each));
    }

pub returns : goal.returns
returns c =
    let some_step : 0 < c.args.n = omega (arith, c.if-n-eq0.false) in
    let none = none_left _ (sym c.loop-group.invariant.counted ∙ c.in-None.ensures.steps.0) in
    let n_is : suc (c.args.n - 1) ≡ c.args.n = omega (arith, some_step) in
    subst (λ n. StepsBy n c.args.groups.items c.loop-group.left.items) n_is (stepped (c.args.n - 1) c.args.groups.items c.loop-group.left.items c.loop-group.ahead (λ rows columns each. rw none at (c.loop-group.invariant.so_far rows columns each)))
