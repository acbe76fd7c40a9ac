use Rattle.tabled_json.proofs.Common.{◌==◌, ◌+◌, ◌∙◌, ℕ, ap, arith, cond, get_or}
use Rattle.tabled_json.proofs.Taken.{column-next}
use Rattle.tabled_json.proofs.place.column_behind.Goals as goal

pub loop-byte-preserved : goal.loop-byte-preserved
loop-byte-preserved c =
    let bytes = c.args.bytes.now in
    let i = c.loop-byte.byte-index in
    record {
      is = c.next_column-column.ensures.value ∙ ap (λ (n : ℕ). cond (get_or bytes i 0 == 10) 1 (n + 1)) c.loop-byte.invariant.is ∙ column-next 1 bytes i c.loop-byte-test.true;
      small = omega (arith, c.next_column-column.ensures.small, c.loop-byte.invariant.small);
    }
