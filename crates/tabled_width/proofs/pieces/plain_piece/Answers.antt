use Rattle.std.proofs.Common.{◌++◌, ◌∙◌, ◌≡◌, ap, ap₂, arith, get_or, inl, inr, length, subst, sym, take-append-drop}
use Rattle.std.proofs.lemmas.Bool.Decides.{nat_tests}
use Rattle.tabled_width.proofs.PlainPieces.{plain-first}
use Rattle.tabled_width.specs.Plain.{IsPlain}
use Rattle.tabled_width.proofs.pieces.plain_piece.Goals as goal
use Rattle.tabled_width.proofs.pieces.plain_piece.Goals.{then-bytes-eq1-via-then-bytes-eq1, then-bytes-eq1-via-else-bytes-eq1+then-is_plain_byte}

pub returns-then-bytes-eq1 : goal.returns-then-bytes-eq1
returns-then-bytes-eq1 c =
    let text = c.args.text.now in
    let same : c.as_bytes-bytes.result.now ≡ text = c.as_bytes-bytes.ensures.value in
    let whole : text ≡ c.split_at.result.0.now ++ c.split_at.result.1.now = sym (take-append-drop 1 text) ∙ ap₂ (λ front back. front ++ back) (sym c.split_at.ensures.front) (sym c.split_at.ensures.back) in
    plain-first text c.utf8.text (grind (arith, nat_tests, ap length same, c.is_empty.ensures, c.if-is_empty.false)) (subst (λ bs. IsPlain (get_or bs 0 0)) same (c.is_plain_byte.ensures.0 c.if-not-is_plain_byte.false))
    (elim c.then-bytes-eq1.branch [
      | then-bytes-eq1-via-then-bytes-eq1 w ↦ inl (omega (arith, ap length same, w.if-bytes-eq1.true))
      | then-bytes-eq1-via-else-bytes-eq1+then-is_plain_byte w ↦ inr (subst (λ bs. IsPlain (get_or bs 1 0)) same (w.is_plain_byte-else-bytes-eq1.ensures.0 w.if-is_plain_byte.true))
    ])
    c.split_at.result.0.now c.split_at.result.1.now whole c.split_at.ensures.front_len
