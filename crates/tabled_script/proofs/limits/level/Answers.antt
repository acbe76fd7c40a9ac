use Rattle.tabled_draw.proofs.Common.{◌-◌, ◌/◌, ◌∙◌, ◌≡◌, ap, arith, inr, sym}
use Rattle.std.proofs.Common.{le-leb}
use Rattle.tabled_draw.specs.Width.{width_of_columns}
use Rattle.tabled_script.specs.Limits.{come_to, level, raised_to}
use Rattle.tabled_script.proofs.Levels.{highest-is, too-wide-above}
use Rattle.tabled_script.proofs.limits.level.Goals as goal
use Rattle.tabled_script.proofs.limits.level.Goals.{then-columns-width, else-columns-width}

pub returns : goal.returns
unfolding level
returns c =
    let at_end : c.loop-low.low ≡ c.loop-low.high = omega arith in
    sym (highest-is c.args.width c.loop-low.low (λ k. come_to c.args.width c.args.lines (raised_to k c.args.least.now c.args.most.now)) (omega arith) c.loop-low.invariant.low (λ j more less. c.loop-low.invariant.above j (omega (arith, more, at_end)) less))

pub loop-low-preserved : goal.loop-low-preserved
loop-low-preserved c =
    let least = c.args.least.now in
    let most = c.args.most.now in
    let was = c.loop-low.invariant in
    let middle = c.loop-low.high - (c.loop-low.high - c.loop-low.low) / 2 in
    let columns : c.in_ok-columns.columns ≡ width_of_columns c.args.lines (raised_to middle least most) = c.in_ok-columns.ensures.width ∙ ap (width_of_columns c.args.lines) (c.deref.ensures.value ∙ c.in_ok-raised.ensures) in
    elim c.if-columns-width.branch [
      | then-columns-width w ↦ record {
        order = omega arith;
        within = omega arith;
        low = rw w.low-is (inr (le-leb _ _ (rw columns at w.if-columns-width.true)));
        above = rw w.high-is was.above;
      }
      | else-columns-width w ↦ record {
        order = omega arith;
        within = omega arith;
        low = rw w.low-is was.low;
        above = λ j more less. too-wide-above c.args.width c.args.lines middle j (omega (arith, more, w.high-is)) least most (rw columns at w.if-columns-width.false);
      }
    ]
