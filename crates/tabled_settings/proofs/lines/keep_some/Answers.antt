use Rattle.tabled_settings.proofs.Common.{◌+◌, ◌≡◌, arith, get_or, length, refl, same_count}
use Rattle.tabled_settings.proofs.KeptLines.{brings_more, brings_none, kept_all}
use Rattle.tabled_settings.proofs.RisingLists.{index_within, length_within}
use Rattle.tabled_settings.proofs.lines.keep_some.Goals as goal

pub loop-k-init : goal.loop-k-init
loop-k-init g c = record { well = c.requires.well; brings = brings_none _ _ _ (g.R.GridStore.even _ c.requires.well) }

pub swap-requires-clause-i_within : goal.swap-requires-clause-i_within
swap-requires-clause-i_within g c =
    let same = same_count c.args.axis (g.R.GridStore.grid c.args.records.now) (g.R.GridStore.grid c.loop-k.records) c.loop-k.invariant.brings.shape in
    omega (arith, same, index_within c.args.kept.now c.requires.rising c.loop-k.k c.loop-k-test.true, c.requires.within c.loop-k.k c.loop-k-test.true)

pub loop-k-preserved : goal.loop-k-preserved
loop-k-preserved g c =
    let i = c.loop-k.invariant in
    let same = same_count c.args.axis (g.R.GridStore.grid c.args.records.now) (g.R.GridStore.grid c.loop-k.records) i.brings.shape in
    record {
      well = c.swap.ensures.well;
      brings = brings_more c.args.axis c.args.kept.now c.requires.rising c.loop-k.k (c.loop-k.k + 1) (get_or c.args.kept.now c.loop-k.k 0) _ _ _ i.brings c.loop-k-test.true refl c.swap.ensures.swapped refl (omega (arith, same, c.requires.within c.loop-k.k c.loop-k-test.true));
    }

pub truncate_lines-requires-clause-within : goal.truncate_lines-requires-clause-within
truncate_lines-requires-clause-within g c =
    let same = same_count c.args.axis (g.R.GridStore.grid c.args.records.now) (g.R.GridStore.grid c.loop-k.records) c.loop-k.invariant.brings.shape in
    omega (arith, same, length_within c.args.kept.now _ c.requires.rising c.requires.within)

pub returns-clause-kept : goal.returns-clause-kept
returns-clause-kept g c =
    let all : c.loop-k.k ≡ length c.args.kept.now = omega (arith, c.loop-k-test.false, c.loop-k.auto.k-end) in
    let same = same_count c.args.axis (g.R.GridStore.grid c.args.records.now) (g.R.GridStore.grid c.loop-k.records) c.loop-k.invariant.brings.shape in
    kept_all c.args.axis c.args.kept.now c.loop-k.k _ _ _ c.loop-k.invariant.brings all (omega (arith, same, all, length_within c.args.kept.now _ c.requires.rising c.requires.within)) (rw (← all) at c.truncate_lines.ensures.first)
