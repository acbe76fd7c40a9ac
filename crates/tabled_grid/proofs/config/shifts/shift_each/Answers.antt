use Rattle.tabled_grid.proofs.Common.{◌+◌, ◌<◌, ◌∙◌, ◌≡◌, Position, Rectangle, ap, arith, get_or, length, place, rectangle, refl, set, shifted_place, sized, suc, unwrap_or}
use Rattle.tabled_grid.proofs.Shifts.{all_changed, first_changed, length_first_changed, one_more_changed, shifted_or_kept}
use Rattle.tabled_grid.proofs.config.shifts.shift_each.Goals as goal

pub loop-k-init : goal.loop-k-init
loop-k-init c = refl

pub loop-k-preserved : goal.loop-k-preserved
loop-k-preserved c =
    let old = c.args.anchors.now in
    let k = c.loop-k.k in
    let d : Rectangle = rectangle (place 0 0) (sized 0 0) in
    let change = shifted_or_kept c.args.axis c.args.from in
    let here = get_or c.loop-k.anchors k d in
    let long : length c.loop-k.anchors ≡ length old = ap length c.loop-k.invariant ∙ length_first_changed change k old in
    let within : k < length old = omega arith in
    let next : suc k ≡ k + 1 = omega arith in
    let comes : c.unwrap_or-first.result ≡ unwrap_or (shifted_place c.args.axis c.args.from here.first) here.first = c.unwrap_or-first.ensures ∙ ap (λ s. unwrap_or s here.first) c.place_once_shifted.ensures in
    ap (λ (p : Position). set c.loop-k.anchors k (rectangle p here.size)) comes
    ∙ ap (λ xs. set xs k (change (get_or xs k d))) c.loop-k.invariant
    ∙ one_more_changed change k old d within
    ∙ ap (λ n. first_changed change n old) next

pub returns : goal.returns
returns c =
    let old = c.args.anchors.now in
    let change = shifted_or_kept c.args.axis c.args.from in
    let long : length c.loop-k.anchors ≡ length old = ap length c.loop-k.invariant ∙ length_first_changed change c.loop-k.k old in
    let all : c.loop-k.k ≡ length old = omega arith in
    c.loop-k.invariant ∙ ap (λ n. first_changed change n old) all ∙ all_changed change old
