use Rattle.std.proofs.lemmas.Simd.{zip2_splat}
use Rattle.tabled_csv.proofs.Common.{◌==◌, arith, cond, is_outside, ℕ}
use Rattle.tabled_csv.proofs.Marks.{marks-are, or-are}
use Rattle.tabled_csv.proofs.outside.outside_marks.Goals as goal

pub returns : goal.returns
returns c =
    let s = c.args.separator in
    let v = c.args.bytes in
    let hit : ℕ → ℕ → ℕ = λ a b. cond (a == b) 255 0 in
    marks-are (is_outside s) v _ (omega (arith, c.fits-bytes.0))
    (or-are (λ b. b == s) (λ b. b == 10) v (zip2_splat hit v 16 s c.fits-bytes.0) (zip2_splat hit v 16 10 c.fits-bytes.0))
