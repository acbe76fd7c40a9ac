use Rattle.std.proofs.Common.{arith, lit<, rules}
use Rattle.std.proofs.lemmas.Bool.{leb-true}
use Rattle.tabled_settings.proofs.Truncated.{fits-first, fits-last}
use Rattle.tabled_settings.proofs.width.truncate.fits.Goals as goal

pub loop-line-preserved : goal.loop-line-preserved
loop-line-preserved c = record {
  text = search rules;
  same = λ suffix same. c.loop-line.invariant.same suffix (fits-first c.args.width suffix c.loop-line.rest.now c.in-Some.line.now c.in-Some.others.now (c.in-Some.ensures.byte (lit< tt) (λ w o h. h)) (omega (arith, c.if-columns-width.false, c.columns_of-columns.ensures.value)) same);
}

pub returns : goal.returns
returns c = λ yes suffix. c.loop-line.invariant.same suffix (fits-last c.args.width suffix c.loop-line.rest.now (c.in_default.ensures.byte (lit< tt) (λ w o h. h)) (omega (arith, leb-true _ _ yes, c.columns_of-last.ensures.value)))
