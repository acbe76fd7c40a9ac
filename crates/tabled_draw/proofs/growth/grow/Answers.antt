use Rattle.tabled_draw.proofs.Common.{ap, arith, cond, get_or, get_or_default, is_in_range, length, length-set, line_size, refl, room, subst, ℕ, ◌%◌, ◌+◌, ◌-◌, ◌/◌, ◌∙◌, ◌≡◌}
use Rattle.tabled_draw.proofs.Shares.{spread-all, spread-more, spread-none}
use Rattle.tabled_draw.proofs.growth.grow.Goals as goal

pub loop-k-init : goal.loop-k-init
loop-k-init c = record {
  long = refl;
  each = spread-none c.args.sizes.now.items c.args.at (c.saturating_sub-lack.result / c.args.n);
}

pub loop-k-preserved : goal.loop-k-preserved
loop-k-preserved c = record {
  long = length-set c.loop-k.sizes.items c.loop-k.k _ ∙ c.loop-k.invariant.long;
  each = spread-more c.args.sizes.now.items c.loop-k.sizes.items c.args.at c.loop-k.k (c.saturating_sub-lack.result / c.args.n) _ (omega (arith, c.loop-k.auto.k)) (omega (arith, c.loop-k.invariant.long, c.loop-k-test.true, c.requires.end)) c.loop-k.invariant.each (c.in_ok-sizes.ensures ∙ ap (λ x. x + c.saturating_sub-lack.result / c.args.n) (c.index.ensures ∙ get_or_default c.loop-k.sizes.items c.loop-k.k _ 0 (omega (arith, c.loop-k.invariant.long, c.loop-k-test.true, c.requires.end))));
}

pub returns : goal.returns
returns c = record {
  grown = spread-all c.args.axis (line_size c.args.lines (length c.args.sizes.now.items)) c.args.sizes.now.items c.loop-k.sizes.items c.args.at c.args.n c.args.need c.saturating_sub-lack.result (c.saturating_sub-lack.result / c.args.n) (c.saturating_sub-lack.result % c.args.n) _
      (c.saturating_sub-lack.ensures ∙ ap (λ r. c.args.need - r) (c.in_ok-room.ensures ∙ ap (λ xs. room c.args.axis (line_size c.args.lines (length xs)) xs c.args.at c.args.n) c.deref.ensures.value)) refl refl c.requires.some c.requires.end c.loop-k.invariant.long
      (subst (λ j. (i : ℕ) → get_or c.loop-k.sizes.items i 0 ≡ get_or c.args.sizes.now.items i 0 + cond (is_in_range i c.args.at j) (c.saturating_sub-lack.result / c.args.n) 0) (let all : c.loop-k.k - c.args.at ≡ c.args.n = omega (arith, c.loop-k.auto.k-end, c.loop-k-test.false, c.loop-k.auto.k) in all) c.loop-k.invariant.each)
      (c.in_ok-sizes-2.ensures ∙ ap (λ x. x + c.saturating_sub-lack.result % c.args.n) (c.index-2.ensures ∙ get_or_default c.loop-k.sizes.items c.args.at _ 0 (omega (arith, c.loop-k.invariant.long, c.requires.some, c.requires.end))));
}
