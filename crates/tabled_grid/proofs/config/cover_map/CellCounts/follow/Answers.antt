use Rattle.tabled_grid.proofs.Common.{◌++◌, ◌∙◌, ◌≡◌, CountsBlock, IsFew, IsMany, ap, area, arith, common_steps, counts_of, drop, length, length-append, length-drop, length-take-le, map-id, subst, sym, take, with_items}
use Rattle.std.proofs.Math.Seq.{take-append_seam}
use Rattle.tabled_grid.proofs.config.cover_map.CellCounts.follow.Goals as goal

pub slice_bounds-few-end : goal.slice_bounds-few-end
slice_bounds-few-end c =
    let few : IsFew c.in-Few.counts c.args.block = subst (λ k. CountsBlock k c.args.block) c.in-Few.is c.requires.counts in
    omega (arith, few.size, few.few)

pub slice_bounds-follow-end : goal.slice_bounds-follow-end
slice_bounds-follow-end c =
    let few : IsFew c.in-Few.counts c.args.block = subst (λ k. CountsBlock k c.args.block) c.in-Few.is c.requires.counts in
    sym (length-take-le (area c.args.block.size) c.in-Few.counts (omega (arith, few.size, few.few)))

pub follow-requires-clause-size : goal.follow-requires-clause-size
follow-requires-clause-size c =
    let few : IsFew c.in-Few.counts c.args.block = subst (λ k. CountsBlock k c.args.block) c.in-Few.is c.requires.counts in
    length-take-le (area c.args.block.size) c.in-Few.counts (omega (arith, few.size, few.few))

pub follow-requires-clause-fits : goal.follow-requires-clause-fits
follow-requires-clause-fits c = (subst (λ k. CountsBlock k c.args.block) c.in-Few.is c.requires.counts).fits

pub follow-requires-in-Many-clause-size : goal.follow-requires-in-Many-clause-size
follow-requires-in-Many-clause-size c = ap length c.deref_mut.ensures.value ∙ (subst (λ k. CountsBlock k c.args.block) c.in-Many.is c.requires.counts).size

pub follow-requires-in-Many-clause-fits : goal.follow-requires-in-Many-clause-fits
follow-requires-in-Many-clause-fits c = (subst (λ k. CountsBlock k c.args.block) c.in-Many.is c.requires.counts).fits

pub returns-in-Few-clause-counts : goal.returns-in-Few-clause-counts
returns-in-Few-clause-counts c =
    let few : IsFew c.in-Few.counts c.args.block = subst (λ k. CountsBlock k c.args.block) c.in-Few.is c.requires.counts in
    let n = area c.args.block.size in
    record {
      size = omega (arith, few.size, few.few, length-append c.follow.new.hiders (drop n c.in-Few.counts), length-drop n c.in-Few.counts, c.follow.ensures.size);
      few = few.few;
      fits = few.fits;
    }

pub returns-in-Few-clause-map : goal.returns-in-Few-clause-map
returns-in-Few-clause-map c = λ m has is.
    let n = area c.args.block.size in
    let old = sym (ap (counts_of n) c.in-Few.is) ∙ is in
    let new = sym (map-id c.follow.new.hiders) ∙ c.follow.ensures.map m has (map-id (take n c.in-Few.counts) ∙ old) in
    ap (λ k. take k (c.follow.new.hiders ++ drop n c.in-Few.counts)) (sym c.follow.ensures.size) ∙ take-append_seam c.follow.new.hiders (drop n c.in-Few.counts) ∙ new

pub returns-in-Many-clause-counts : goal.returns-in-Many-clause-counts
returns-in-Many-clause-counts c =
    let items : (with_items c.in-Many.counts c.follow-in-Many.new.hiders).items ≡ c.follow-in-Many.new.hiders = grind (arith, common_steps) in
    subst (λ xs. IsMany xs c.args.block) (sym items) (record { size = c.follow-in-Many.ensures.size; fits = (subst (λ k. CountsBlock k c.args.block) c.in-Many.is c.requires.counts).fits })
