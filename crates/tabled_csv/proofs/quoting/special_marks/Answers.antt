use Rattle.std.proofs.lemmas.Simd.{zip2_splat}
use Rattle.tabled_csv.proofs.Common.{◌==◌, ◌||◌, ℕ, arith, cond, is_special}
use Rattle.tabled_csv.proofs.Marks.{marks-are, or-are}
use Rattle.tabled_csv.proofs.quoting.special_marks.Goals as goal

pub returns : goal.returns
returns c =
    let s = c.args.separator in
    let v = c.args.bytes in
    let hit : ℕ → ℕ → ℕ = λ a b. cond (a == b) 255 0 in
    let is = λ (y : ℕ). zip2_splat hit v 8 y c.fits-bytes.0 in
    marks-are (is_special s) v _ (omega (arith, c.fits-bytes.0))
    (or-are (λ b. b == s) (λ b. (b == 34) || ((b == 13) || (b == 10))) v (is s)
    (or-are (λ b. b == 34) (λ b. (b == 13) || (b == 10)) v (is 34) (or-are (λ b. b == 13) (λ b. b == 10) v (is 13) (is 10))))
