use Rattle.tabled_language.proofs.Common.{◌∙◌, arith, length, position_or_len_is, sym}
use Rattle.tabled_language.specs.LineNames.{is_operator}
use Rattle.tabled_language.proofs.line_words.operator_index.Goals as goal

pub returns-then-is_operator : goal.returns-then-is_operator
returns-then-is_operator c =
    let value = c.as_bytes-bytes.ensures.value in
    rw (← value) (sym (position_or_len_is is_operator c.as_bytes-bytes.result.now c.loop-index.index 0 (omega (arith, c.loop-index-test.true)) c.loop-index.invariant (λ _. sym c.is_operator.ensures ∙ c.if-is_operator.true)))

pub returns : goal.returns
returns c =
    let value = c.as_bytes-bytes.ensures.value in
    let bytes = c.as_bytes-bytes.result.now in
    rw (← value) (sym (position_or_len_is is_operator bytes (length bytes) 0 (omega arith) (λ k h. c.loop-index.invariant k (omega (arith, h, c.loop-index-test.false))) (λ below. absurd (omega (arith, below)))))
