use Rattle.std.proofs.Common.{◌≡◌, ◌-◌, ◌+◌, not, arith, ap, sym, refl, length, drop, take_all, drop_of_length-le, length-drop}
use Rattle.std.proofs.lemmas.List.Sums.{prefix_len_is}
use Rattle.std.specs.List.{position_or_len}
use Rattle.tabled_decimal.specs.Numbers.{is_point}
use Rattle.tabled_decimal.proofs.decimal.cut_point.Goals as goal

pub returns-then-byte-eq46-clause-before : goal.returns-then-byte-eq46-clause-before
returns-then-byte-eq46-clause-before c =
    let at : position_or_len is_point c.args.text.now ≡ c.loop-index.index = prefix_len_is (λ x. not (is_point x)) c.args.text.now c.loop-index.index 0 (omega arith) (λ k h. ap not (c.loop-index.invariant k h)) (λ _. rw c.if-byte-eq46.true refl) in
    rw at refl

pub returns-then-byte-eq46-clause-behind : goal.returns-then-byte-eq46-clause-behind
returns-then-byte-eq46-clause-behind c =
    let at : position_or_len is_point c.args.text.now ≡ c.loop-index.index = prefix_len_is (λ x. not (is_point x)) c.args.text.now c.loop-index.index 0 (omega arith) (λ k h. ap not (c.loop-index.invariant k h)) (λ _. rw c.if-byte-eq46.true refl) in
    rw at (take_all (length c.args.text.now - (c.loop-index.index + 1)) (drop (c.loop-index.index + 1) c.args.text.now) (rw length-drop (omega arith)))

pub returns-clause-before : goal.returns-clause-before
returns-clause-before c =
    let at : position_or_len is_point c.args.text.now ≡ length c.args.text.now = prefix_len_is (λ x. not (is_point x)) c.args.text.now (length c.args.text.now) 0 (omega arith) (λ k h. ap not (c.loop-index.invariant k (omega arith))) (λ h. absurd (omega arith)) in
    rw at (sym (take_all (length c.args.text.now) c.args.text.now (omega arith)))

pub returns-clause-behind : goal.returns-clause-behind
returns-clause-behind c =
    let at : position_or_len is_point c.args.text.now ≡ length c.args.text.now = prefix_len_is (λ x. not (is_point x)) c.args.text.now (length c.args.text.now) 0 (omega arith) (λ k h. ap not (c.loop-index.invariant k (omega arith))) (λ h. absurd (omega arith)) in
    rw at (sym (drop_of_length-le c.args.text.now (omega arith)))
