use Rattle.tabled_language.proofs.Common.{◌+◌, ◌∙◌, btree_map_len}
use Rattle.tabled_language.proofs.Cleared.{clear-last, clear-none, drops-less, ends_above, last_here, reaches, smaller}
use Rattle.tabled_language.proofs.walk.is_clear.Goals as goal

pub returns-then-not-ends_by-clause-clear : goal.returns-then-not-ends_by-clause-clear
returns-then-not-ends_by-clause-clear c =
    let near = c.in-Some.near in
    clear-last c.args.reaching.now c.loop-near.reaching c.args.anchor c.requires.keyed c.requires.beside c.loop-near.invariant near c.ends_by-then-not-ends_by.result c.in-Some.ensures
    (reaches c.ends_by.result (near.first.row + near.size.height) c.args.anchor.first.row c.ends_by.ensures c.if-not-ends_by.true) c.ends_by-then-not-ends_by.ensures

pub loop-near-smaller : goal.loop-near-smaller
loop-near-smaller c =
    let here = last_here c.args.reaching.now c.loop-near.reaching c.args.anchor.first.row (c.args.anchor.first.col + c.args.anchor.size.width) c.in-Some.near c.requires.keyed c.loop-near.invariant c.in-Some.ensures in
    smaller c.remove.result c.in-Some.near (btree_map_len c.remove.new.self) (btree_map_len c.loop-near.reaching) c.remove.ensures.len (c.remove.ensures.value ∙ here)

pub loop-near-preserved : goal.loop-near-preserved
loop-near-preserved c =
    let near = c.in-Some.near in
    drops-less c.args.reaching.now c.loop-near.reaching c.args.anchor c.requires.keyed c.requires.beside c.loop-near.invariant near c.remove.new.self c.in-Some.ensures
    (ends_above c.ends_by.result (near.first.row + near.size.height) c.args.anchor.first.row c.ends_by.ensures c.if-not-ends_by.false) c.remove.ensures.updates.0

pub returns-clause-clear : goal.returns-clause-clear
returns-clause-clear c = clear-none c.args.reaching.now c.loop-near.reaching c.args.anchor c.requires.keyed c.requires.beside c.loop-near.invariant c.in_default.ensures
