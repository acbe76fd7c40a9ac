use Rattle.tabled_language.proofs.Common.{◌≡◌, ◌≢◌, ◌⊎◌, arith, eqb, eqb_tells, false, get_or, inl, inr, length, nat_tests, position_or_len_is, true}
use Rattle.tabled_language.proofs.parts.place_among.Goals as goal

pub returns-then-byte-at : goal.returns-then-byte-at
returns-then-byte-at c =
    let bytes = c.args.bytes.now in
    let here : eqb (get_or bytes c.loop-i.i 0) c.args.at ≡ true = grind (arith, nat_tests, c.if-byte-at.true) in
    (position_or_len_is (λ b. eqb b c.args.at) bytes c.loop-i.i 0 (omega (arith, c.loop-i-test.true)) c.loop-i.invariant (λ _. here), c.loop-i-test.true)

pub loop-i-preserved : goal.loop-i-preserved
loop-i-preserved c k below = here_or_before (eqb_tells k c.loop-i.i)
  where
    here_or_before : ((eqb k c.loop-i.i ≡ true) × (k ≡ c.loop-i.i)) ⊎ ((eqb k c.loop-i.i ≡ false) × (k ≢ c.loop-i.i)) → eqb (get_or c.args.bytes.now k 0) c.args.at ≡ false
    here_or_before (inl (_, same)) = rw same (grind (arith, nat_tests, c.if-byte-at.false))
    here_or_before (inr (_, other)) = c.loop-i.invariant k (omega (arith, below, other))

pub returns : goal.returns
returns c =
    let bytes = c.args.bytes.now in
    position_or_len_is (λ b. eqb b c.args.at) bytes (length bytes) 0 (omega arith) (λ k within. c.loop-i.invariant k (omega (arith, within, c.loop-i-test.false))) (λ past. absurd (omega (arith, past)))
