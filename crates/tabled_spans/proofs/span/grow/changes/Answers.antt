use Rattle.tabled_spans.proofs.Common.{◌++◌, ◌-◌, ◌∙◌, ◌∷◌, ◌≡◌, ◌≤◌, AllByRecursion, AreSorted, In, InReach, IsCoverOf, SpanMap, ap, arith, count_of, inside, line_of, lines_in, min, places_in, places_in-all, rectangle, refl, rules, size_at, sized, subst, sym, with_sizes}
use Rattle.tabled_spans.proofs.Reach.{block_ends, line_within}
use Rattle.tabled_spans.proofs.RisingPlaces.{ones, sorted_inside}
use Rattle.tabled_spans.proofs.RunLists.{all_then}
use Rattle.tabled_spans.proofs.SpanChanges.{changed-sizes, changes-more, size-before, sorted-change}
use Rattle.tabled_spans.proofs.span.grow.changes.Goals as goal

pub reach-block-requires : goal.reach-block-requires
reach-block-requires c = rw c.count_of-count.ensures (block_ends c.args.axis c.block.result c.args.rows c.args.columns c.block.ensures.bottom c.block.ensures.right)

pub loop-pos-init : goal.loop-pos-init
loop-pos-init c =
    let items = c.into_iter-pos-iterator.ensures.into_iter_gives ∙ c.iter-pos-items.ensures in
    record {
      within = rw (items, c.block.ensures.cells, ← c.count_of-count.ensures) (all_then (λ p at. c.reach-block.ensures p at) (places_in c.block.result) (places_in-all c.block.result));
      block = c.in_ok-cover.ensures.block;
      cover = rw c.new-changes.ensures.items c.in_ok-cover.ensures.cover;
      sorted = rw (items, c.new-changes.ensures.items) (sorted_inside c.args.entity c.args.rows c.args.columns);
      full = rw c.new-changes.ensures.items tt;
      sizes = rw (items, c.new-changes.ensures.items) refl;
      hints = search rules;
    }

pub overflow_sub-line : goal.overflow_sub-line
overflow_sub-line c =
    let here = (rw c.in-Some.ensures.steps at c.loop-pos.invariant.within).0 in
    let line = line_within c.args.axis c.reach-block.result c.in-Some.pos here.inside in
    omega (arith, line.0, (rw c.across-across.ensures at c.line_of-line.ensures), (rw c.across-across.ensures at c.line_of.ensures))

pub index_mut-hint-requires : goal.index_mut-hint-requires
index_mut-hint-requires c =
    let here = (rw c.in-Some.ensures.steps at c.loop-pos.invariant.within).0 in
    let line = line_within c.args.axis c.reach-block.result c.in-Some.pos here.inside in
    omega (arith, line.0, line.1, (rw c.across-across.ensures at c.line_of-line.ensures), (rw c.across-across.ensures at c.line_of.ensures), c.loop-pos.invariant.hints, c.loop-pos.hints.ok.0)

pub grow_at-requires-clause-inside : goal.grow_at-requires-clause-inside
grow_at-requires-clause-inside c = rw c.loop-pos.invariant.block ((rw c.in-Some.ensures.steps at c.loop-pos.invariant.within).0.inside)

pub grow_at-requires-clause-some : goal.grow_at-requires-clause-some
grow_at-requires-clause-some c =
    let here = (rw c.in-Some.ensures.steps at c.loop-pos.invariant.within).0 in
    omega (arith, here.line, c.min-many.ensures, c.line_of-index.ensures, c.count_of-count.ensures, c.requires)

pub grow_at-requires-clause-within : goal.grow_at-requires-clause-within
grow_at-requires-clause-within c =
    let here = (rw c.in-Some.ensures.steps at c.loop-pos.invariant.within).0 in
    rw c.loop-pos.invariant.block (omega (arith, here.end, c.min-many.ensures, c.line_of-index.ensures, c.count_of-count.ensures))

pub loop-pos-preserved : goal.loop-pos-preserved
loop-pos-preserved c =
    let axis = c.args.axis in
    let p = c.in-Some.pos in
    let rest = c.next.new.self in
    let cfg = c.args.cfg.now in
    let many = c.min-many.result in
    let xs = c.loop-pos.changes.items in
    let m = with_sizes cfg xs in
    let here = (rw c.in-Some.ensures.steps at c.loop-pos.invariant.within) in
    let up : AreSorted (xs ++ rectangle p (sized 1 1) ∷ ones rest) = rw c.in-Some.ensures.steps at c.loop-pos.invariant.sorted in
    let before : size_at m p ≡ size_at cfg p = size-before cfg xs p (sized 1 1) (ones rest) up in
    let added = c.in_ok-grow_at.ensures.ok m c.loop-pos.invariant.cover before in
    let covered = c.in_ok-grow_at.ensures.cover m c.loop-pos.invariant.cover before in
    let some : 1 ≤ many = omega (arith, here.0.line, c.min-many.ensures, c.line_of-index.ensures, c.count_of-count.ensures, c.requires) in
    let is : many ≡ min c.args.size (count_of axis c.args.rows c.args.columns - line_of axis p) = c.min-many.ensures ∙ rw (c.line_of-index.ensures, c.count_of-count.ensures) refl in
    record {
      within = here.1;
      block = c.grow_at.ensures.block ∙ c.loop-pos.invariant.block;
      cover = subst (λ (k : SpanMap). IsCoverOf k c.grow_at.new.cover) (changed-sizes cfg xs _ axis p many added) covered;
      sorted = rw added (sorted-change axis m p many xs (ones rest) up);
      full = c.in_ok-grow_at.ensures.full c.loop-pos.invariant.full;
      sizes = changes-more cfg xs _ p rest axis c.args.size (count_of axis c.args.rows c.args.columns) many is some added ∙ (rw c.in-Some.ensures.steps at c.loop-pos.invariant.sizes);
      hints = search rules;
    }
