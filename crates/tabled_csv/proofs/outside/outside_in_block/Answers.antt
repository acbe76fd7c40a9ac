use Rattle.std.proofs.lemmas.Simd.{trailing_mask_l}
use Rattle.std.specs.List.{prefix_len}
use lib.Count.{count_trailing_zeros}
use lib.Lanes.{chunk, mask_l}
use Rattle.tabled_csv.proofs.Common.{◌<◌, ◌∙◌, ◌≡◌, List, ap, arith, is_outside, map, not, subst, sym, take_all, ℕ}
use Rattle.tabled_csv.proofs.Marks.{first-marked}
use Rattle.tabled_csv.specs.Fields.{IsFirstOutside}
use Rattle.tabled_csv.proofs.outside.outside_in_block.Goals as goal

pub returns : goal.returns
returns c =
    let s = c.args.separator in
    let block = c.args.block.now in
    let whole : chunk 0 16 block ≡ block = take_all 16 block (omega (arith, c.requires)) in
    let is : c.outside_marks-marks.result ≡ mask_l (map (is_outside s) block) =
    c.outside_marks-marks.ensures ∙ ap (λ (l : List ℕ). mask_l (map (is_outside s) l)) whole in
    let some : 0 < mask_l (map (is_outside s) block) = omega (arith, is, c.if-marks-eq0.false) in
    let first = first-marked (is_outside s) block some in
    let place : count_trailing_zeros 64 c.outside_marks-marks.result ≡ prefix_len (λ b. not (is_outside s b)) block =
    ap (count_trailing_zeros 64) is ∙ trailing_mask_l (is_outside s) 64 block (omega (arith, c.requires)) some in
    subst (IsFirstOutside s block) (sym place) (record { inside = first.inside; within = first.within; outside = first.here })
