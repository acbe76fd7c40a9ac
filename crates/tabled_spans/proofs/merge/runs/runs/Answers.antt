use Rattle.tabled_spans.proofs.Common.{AreTails, RunsFrom, [], ap, arith, drop, length, map_grid, place, rectangle, replicate, reverse, reverse-append, rules, size_of_run, subst, sym, take_at, ◌++◌, ◌+◌, ◌-◌, ◌∙◌, ◌∷◌, ◌≡◌}
use Rattle.tabled_spans.proofs.Anchored.{stand_higher, stand_none}
use Rattle.tabled_spans.proofs.RunsFrom.{from_end, from_first, none_below, none_put, run_put}
use Rattle.tabled_spans.proofs.Tails.{tails_below, tails_end}
use Rattle.tabled_spans.proofs.merge.runs.runs.Goals as goal

pub loop-i-init : goal.loop-i-init
loop-i-init g c =
    let texts = map_grid g.R.Cell.CellText.text_of (g.R.GridStore.grid c.args.records.now) in
    let block = c.args.block in
    let end = block.first.row + block.size.height in
    let ones : c.in_ok-lengths.lengths.items ≡ replicate block.size.width 1 = search (rules, c.in_ok-lengths.ensures.items) in (
      λ e is. (
        subst (λ es. RunsFrom c.args.axis e texts c.args.cfg.now block end block.first.col (reverse es)) (sym c.new-sizes.ensures.items) (none_below c.args.axis e texts c.args.cfg.now block end block.first.col (omega arith)),
        subst (AreTails c.args.axis e texts c.args.cfg.now block end block.first.col) (sym ones) (tails_below c.args.axis e texts c.args.cfg.now block is end block.first.col (omega arith)),
      ),
      λ row _. rw c.rectangles-ahead.ensures.rectangles (stand_none c.args.cfg.now row),
    )

pub loop-j-init : goal.loop-j-init
loop-j-init g c =
    let texts = map_grid g.R.Cell.CellText.text_of (g.R.GridStore.grid c.args.records.now) in
    let block = c.args.block in
    let i = c.loop-i.i - 1 in
    let j = block.first.col + block.size.width in
    let back : c.loop-i.i ≡ i + 1 = omega (arith, c.loop-i-test.true) in (
      λ e is. let held = c.loop-i.invariant.0 e is in (
        from_end c.args.axis e texts c.args.cfg.now block i j _ (omega arith) (subst (λ n. RunsFrom c.args.axis e texts c.args.cfg.now block n block.first.col (reverse c.loop-i.sizes.items)) back held.0),
        tails_end c.args.axis e texts c.args.cfg.now block is i j _ (omega arith) (subst (λ n. AreTails c.args.axis e texts c.args.cfg.now block n block.first.col c.loop-i.lengths.items) back held.1),
      ),
      omega arith,
    )

pub run_from-many-requires-clause-lengths : goal.run_from-many-requires-clause-lengths
run_from-many-requires-clause-lengths g c = λ e is.
    let texts = map_grid g.R.Cell.CellText.text_of (g.R.GridStore.grid c.args.records.now) in
    let back : c.loop-j.j ≡ c.loop-j.j - 1 + 1 = omega (arith, c.loop-j-test.true) in
    rw c.deref_mut.ensures.value (subst (λ n. AreTails c.args.axis e texts c.args.cfg.now c.args.block (c.loop-i.i - 1) n c.loop-j.lengths.items) back (c.loop-j.invariant.0 e is).1)

pub loop-i-preserved : goal.loop-i-preserved
loop-i-preserved g c =
    let texts = map_grid g.R.Cell.CellText.text_of (g.R.GridStore.grid c.args.records.now) in
    let block = c.args.block in
    let i = c.loop-i.i - 1 in (
      λ e is. subst (λ n. RunsFrom c.args.axis e texts c.args.cfg.now block i n (reverse c.loop-j.sizes.items) × AreTails c.args.axis e texts c.args.cfg.now block i n c.loop-j.lengths.items) (omega (arith, c.loop-j-test.false, c.loop-j.invariant.1)) (c.loop-j.invariant.0 e is),
      λ row low. stand_higher c.args.cfg.now i row _ (omega (arith, low)) c.up_to_row-ahead.ensures,
    )

pub loop-j-preserved-in-Continue-branch-2 : goal.loop-j-preserved-in-Continue-branch-2
loop-j-preserved-in-Continue-branch-2 g c = (
  λ e is.
      let texts = map_grid g.R.Cell.CellText.text_of (g.R.GridStore.grid c.args.records.now) in
      let block = c.args.block in
      let i = c.loop-i.i - 1 in
      let j = c.loop-j.j - 1 in
      let back : c.loop-j.j ≡ j + 1 = omega (arith, c.loop-j-test.true) in
      let many = c.run_from-many.result in
      let es = c.loop-j.sizes.items in
      let held = c.loop-j.invariant.0 e is in
      let so_far = subst (λ n. RunsFrom c.args.axis e texts c.args.cfg.now block i n (reverse es)) back held.0 in
      let added : c.push.new.self.items ≡ es ++ (rectangle (place i j) (size_of_run c.args.axis many) ∷ []) = subst (λ s. c.push.new.self.items ≡ es ++ (rectangle (place i j) s ∷ [])) c.resized-size.ensures.size c.in_ok-push.ensures.items in
      let first : reverse c.push.new.self.items ≡ rectangle (place i j) (size_of_run c.args.axis many) ∷ reverse es = ap reverse added ∙ reverse-append es (rectangle (place i j) (size_of_run c.args.axis many) ∷ []) in
      let new = c.run_from-many.new.lengths in
      let tails = c.run_from-many.ensures.lengths e is in
      let same : length c.loop-j.lengths.items ≡ c.loop-j.lengths.len = search rules in
      let long : length new ≡ c.loop-j.lengths.len = omega (arith, tails.size, held.1.size, same) in (
        subst (RunsFrom c.args.axis e texts c.args.cfg.now block i j) (sym first) (run_put c.args.axis e texts c.args.cfg.now block i j _ so_far many (omega (arith, c.if-many-gt1.true)) (record { top = omega (arith, c.loop-i-test.true); bottom = omega (arith, c.loop-i.auto.i, c.loop-i-test.true); left = omega (arith, c.loop-j-test.true); right = omega (arith, c.loop-j.auto.j, c.loop-j-test.true) }) (c.run_from-many.ensures.run e is)),
        subst (AreTails c.args.axis e texts c.args.cfg.now block i j) (sym (take_at new (drop (length new) c.loop-j.lengths.items) c.loop-j.lengths.len long)) tails,
      ),
  omega (arith, c.loop-j-test.true),
)

pub loop-j-preserved : goal.loop-j-preserved
loop-j-preserved g c = (
  λ e is.
      let texts = map_grid g.R.Cell.CellText.text_of (g.R.GridStore.grid c.args.records.now) in
      let block = c.args.block in
      let i = c.loop-i.i - 1 in
      let j = c.loop-j.j - 1 in
      let back : c.loop-j.j ≡ j + 1 = omega (arith, c.loop-j-test.true) in
      let held = c.loop-j.invariant.0 e is in
      let so_far = subst (λ n. RunsFrom c.args.axis e texts c.args.cfg.now block i n (reverse c.loop-j.sizes.items)) back held.0 in
      let new = c.run_from-many.new.lengths in
      let tails = c.run_from-many.ensures.lengths e is in
      let same : length c.loop-j.lengths.items ≡ c.loop-j.lengths.len = search rules in
      let long : length new ≡ c.loop-j.lengths.len = omega (arith, tails.size, held.1.size, same) in (
        none_put c.args.axis e texts c.args.cfg.now block i j _ so_far c.run_from-many.result (omega (arith, c.if-many-gt1.false)) (c.run_from-many.ensures.run e is),
        subst (AreTails c.args.axis e texts c.args.cfg.now block i j) (sym (take_at new (drop (length new) c.loop-j.lengths.items) c.loop-j.lengths.len long)) tails,
      ),
  omega (arith, c.loop-j-test.true),
)

pub returns : goal.returns
returns g c = λ e is.
    let texts = map_grid g.R.Cell.CellText.text_of (g.R.GridStore.grid c.args.records.now) in
    subst (RunsFrom c.args.axis e texts c.args.cfg.now c.args.block 0 0) (sym c.reverse.ensures.items) (from_first c.args.axis e texts c.args.cfg.now c.args.block c.loop-i.i _ (omega (arith, c.loop-i-test.false)) (c.loop-i.invariant.0 e is).0)
