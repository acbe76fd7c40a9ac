use Rattle.tabled_grid.proofs.Common.{◌∙◌, ap, hider_counts, length, length-map, length-replicate, map, sym, take_all}
use Rattle.tabled_grid.proofs.Hiders.{hiders-more, hiders-none}
use Rattle.tabled_grid.proofs.config.hiders.count_each.Goals as goal

pub loop-k-init : goal.loop-k-init
loop-k-init g c = record {
  size = sym (length-map c.args.hiders.now g.N.Count.value) ∙ ap length c.requires.none ∙ length-replicate _ _;
  counted = hiders-none c.args.block (map g.N.Count.value c.args.hiders.now) c.requires.none;
}

pub loop-k-preserved : goal.loop-k-preserved
loop-k-preserved g c =
    let xs = map g.N.Count.value c.loop-k.hiders in
    let ys = map g.N.Count.value c.step_each.new.hiders in
    record {
      size = c.step_each.ensures.size;
      counted = hiders-more c.args.anchors.now c.loop-k.k _ xs ys c.args.block (g.N.Count.value c.one.result) g.N.Count.limit c.requires.sorted c.loop-k-test.true c.requires.fits c.one.ensures c.step_each.ensures.steps c.loop-k.invariant.counted;
    }

pub returns-clause-counted : goal.returns-clause-counted
returns-clause-counted g c = c.loop-k.invariant.counted ∙ ap (λ es. hider_counts es c.args.block) (take_all c.loop-k.k c.args.anchors.now c.loop-k-test.false)
