use Rattle.std.proofs.Common.{◌||◌}
use Rattle.std.specs.Iterator.{AlwaysYields}
use Rattle.tabled_spans.proofs.Common.{[], ◌<◌, ◌≡◌, Entity, List, ℕ}
use Rattle.tabled_spans.specs.Lines.{AreMany, is_among, is_named_by}
use Rattle.tabled_spans.specs.declared.merge.lines.NamedLines.TheVariants.{Nothing}
use Rattle.tabled_spans.proofs.merge.lines.NamedLines.named_by.Given as goal

abbrev pub invariant-loop-entity : goal.invariant-loop-entity
invariant-loop-entity g l = record {
  can : (goal.iterator-loop-entity g).can_next l.entities;
  ends : (goal.iterator-loop-entity g).is_finite l.entities;
  many : AreMany l.fn.many l.lines;
  lasts : (all : List Entity) → AlwaysYields g.I.Iterator.next_gives (λ (e : Entity). e) l.fn.entities all → (rest : List Entity)
      × AlwaysYields g.I.Iterator.next_gives (λ (e : Entity). e) l.entities rest
      × ((line : ℕ) → line < l.fn.many → (is_among l.fn.axis l.lines line || is_named_by l.fn.axis rest line) ≡ is_named_by l.fn.axis all line)
      × (all ≡ [] → (rest ≡ []) × (l.lines ≡ Nothing));
}
