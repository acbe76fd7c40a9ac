use Rattle.tabled_settings.proofs.Common.{[], ◌++◌, ◌+◌, ◌-◌, ◌∙◌, ◌∷◌, ◌≡◌, List, ap, append-nil, append_assoc, arith, range_with_len, sym, ℕ}
use Rattle.tabled_settings.proofs.NamedLines.{range_one_more}
use Rattle.tabled_settings.specs.Named.{cut_index}
use Rattle.tabled_settings.proofs.line_names.add_sliced.Goals as goal

pub loop-index-init : goal.loop-index-init
loop-index-init c =
    let none : c.cut_index-start.result - cut_index c.args.from c.args.count ≡ 0 = omega (arith, c.cut_index-start.ensures) in
    record { items = rw none (sym (append-nil c.args.found.now.items)); low = omega (arith, c.cut_index-start.ensures); few = omega (arith, none) }

pub loop-index-preserved : goal.loop-index-preserved
loop-index-preserved c =
    let a = cut_index c.args.from c.args.count in
    let i = c.loop-index.index in
    let u = c.loop-index.invariant in
    let next : i + 1 - a ≡ (i - a) + 1 = omega (arith, u.low) in
    let here : a + (i - a) ≡ i = omega (arith, u.low) in
    record {
      items = rw (c.in_ok-push.ensures.items, u.items, append_assoc) (ap (λ (xs : List ℕ). c.args.found.now.items ++ xs) (ap (λ (k : ℕ). range_with_len a (i - a) ++ k ∷ []) (sym here) ∙ sym (range_one_more a (i - a) (i + 1 - a) next)));
      low = omega (arith, u.low);
      few = omega (arith, u.low, c.loop-index-test.true, c.cut_index-end.ensures);
    }

pub returns : goal.returns
returns c =
    let a = cut_index c.args.from c.args.count in
    let u = c.loop-index.invariant in
    let all : c.loop-index.index - a ≡ cut_index c.args.to c.args.count - a = omega (arith, u.few, c.loop-index-test.false, c.cut_index-end.ensures) in
    u.items ∙ ap (λ (n : ℕ). c.args.found.now.items ++ range_with_len a n) all
