use Rattle.std.proofs.Common.{◌+◌, ◌<◌, ◌==◌, ◌∙◌, ◌≡◌, ap, ap₂, arith, drop, get_or, length, ne_eqb, sym}
use Rattle.tabled_width.proofs.PlainPieces.{singles}
use Rattle.tabled_width.proofs.PlainWords.{blank-next, letter-next, widest-last}
use Rattle.tabled_width.proofs.Spaces.{widest_from}
use Rattle.tabled_width.proofs.widest.longest_word.Goals as goal
use Rattle.tabled_width.proofs.widest.longest_word.Goals.{then-byte-eq32, else-byte-eq32}
use borrow.Author.Tests.{eq-eqb}

pub loop-byte-preserved : goal.loop-byte-preserved
loop-byte-preserved c =
    let text = c.args.text.now in
    let same : c.as_bytes-byte-items.result.now ≡ text = c.as_bytes-byte-items.ensures.value in
    let k = c.loop-byte.byte-index in
    let less : k < length text = omega (arith, ap length same, c.loop-byte-test.true) in
    elim c.if-byte-eq32.branch [
      | then-byte-eq32 w ↦ record {
        widest = ap₂ (λ most columns. widest_from most columns (singles (drop (k + 1) text))) (w.most-is ∙ w.max-most.ensures) w.columns-is
            ∙ blank-next text k c.loop-byte.most c.loop-byte.columns c.requires less (ap (λ bs. get_or bs k 0 == 32) (sym same) ∙ eq-eqb _ _ w.if-byte-eq32.true)
            ∙ c.loop-byte.invariant.widest;
        bound = omega (arith, w.columns-is);
      }
      | else-byte-eq32 w ↦ record {
        widest = ap₂ (λ most columns. widest_from most columns (singles (drop (k + 1) text))) w.most-is w.columns-is
            ∙ letter-next text k c.loop-byte.most c.loop-byte.columns c.requires less (ap (λ bs. get_or bs k 0 == 32) (sym same) ∙ ne_eqb _ _ w.if-byte-eq32.false)
            ∙ c.loop-byte.invariant.widest;
        bound = omega (arith, w.columns-is, c.loop-byte.invariant.bound);
      }
    ]

pub returns : goal.returns
returns c = c.max.ensures ∙ widest-last c.args.text.now c.loop-byte.byte-index c.loop-byte.most c.loop-byte.columns c.requires (omega (arith, ap length c.as_bytes-byte-items.ensures.value, c.loop-byte-test.false)) c.loop-byte.invariant.widest
