use Rattle.tabled_csv.proofs.Common.{◌+◌, ◌-◌, ◌≡◌, List, arith, false, is_outside, length, list_any, subst, take, take_all, ℕ}
use Rattle.tabled_csv.proofs.Blocks.{clean-behind, first-behind}
use Rattle.tabled_csv.proofs.outside.first_outside.Goals as goal

pub returns-in-Some : goal.returns-in-Some
returns-in-Some c =
    let passed = c.loop-passed.passed in
    first-behind c.args.separator c.args.bytes.now passed c.loop-passed.invariant.clean (passed + 16 - passed) c.in-Some.place c.in-Some.ensures

pub loop-passed-preserved : goal.loop-passed-preserved
loop-passed-preserved c =
    let passed = c.loop-passed.passed in
    let s = c.args.separator in
    let bytes = c.args.bytes.now in
    record {
      clean = subst (λ (k : ℕ). list_any (is_outside s) (take k bytes) ≡ false) (omega arith) (clean-behind s bytes passed c.loop-passed.invariant.clean (passed + 16 - passed) c.in_default.ensures);
      within = omega arith;
    }

pub returns-in-Some-outside_among : goal.returns-in-Some-outside_among
returns-in-Some-outside_among c =
    let passed = c.loop-passed.passed in
    first-behind c.args.separator c.args.bytes.now passed c.loop-passed.invariant.clean (length c.args.bytes.now - passed) c.in-Some-outside_among.place c.in-Some-outside_among.ensures

pub returns-in-None : goal.returns-in-None
returns-in-None c =
    let passed = c.loop-passed.passed in
    let s = c.args.separator in
    let bytes = c.args.bytes.now in
    subst (λ (l : List ℕ). list_any (is_outside s) l ≡ false) (take_all (passed + (length bytes - passed)) bytes (omega arith))
    (clean-behind s bytes passed c.loop-passed.invariant.clean (length bytes - passed) c.in-None.ensures)
