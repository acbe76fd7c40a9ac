use Rattle.tabled_language.proofs.Common.{◌==◌, arith, length-slice_split, ℕ}
use Rattle.tabled_language.proofs.parts.count_parts.Goals as goal

pub returns : goal.returns
returns c = omega (arith, c.loop-rest.invariant, c.count_few-2.ensures, length-slice_split (λ (b : ℕ). b == c.args.at) c.args.bytes.now)
