use Rattle.std.proofs.Common.{◌&&◌, ◌==◌, ◌∙◌, ◌≡◌, arith, ne_eqb, nat_lt, refl, sym}
use Rattle.std.specs.Prelude.{chars}
use Rattle.tabled_width.proofs.Characters.{printable-stays}
use Rattle.tabled_width.specs.Pieces.{stays_behind}
use Rattle.tabled_width.proofs.pieces.stays.Goals as goal
use Rattle.tabled_width.proofs.pieces.stays.Goals.{then-last-eq-JOINER, else-last-eq-JOINER}

pub returns-then-c-le126 : goal.returns-then-c-le126
returns-then-c-le126 c =
    let is : stays_behind c.args.last c.args.half_a_flag (chars c.args.cluster.now) c.args.c ≡ ((c.args.last == 0x200D) && nat_lt 0x20 c.args.c) = printable-stays c.args.c (omega (arith, c.if-c-ge32.true)) (omega (arith, c.if-c-le126.true)) c.args.last c.args.half_a_flag (chars c.args.cluster.now) c.if-last-eq10.false in
    elim c.if-last-eq-JOINER.branch [
      | then-last-eq-JOINER w ↦ w.is_joined-is ∙ sym (is ∙ rw w.if-last-eq-JOINER.true refl)
      | else-last-eq-JOINER w ↦ w.is_joined-is ∙ sym (is ∙ rw (ne_eqb c.args.last 0x200D w.if-last-eq-JOINER.false) refl)
    ]
