use Rattle.tabled_spans.proofs.Common.{◌<◌, ◌≡◌, AllByRecursion, AreSorted, HasArea, Position, count_of, inside, pulled_each, with_sizes}
use Rattle.tabled_spans.proofs.span.pull.changes.Given as goal

abbrev pub invariant-loop-pos : goal.invariant-loop-pos
invariant-loop-pos l =
    let n = count_of l.axis l.rows l.columns in
    record {
      within : AllByRecursion (λ (p : Position). (p.row < l.rows) × (p.col < l.columns)) l.pos-iterator;
      sorted : AreSorted l.changes.items;
      full : AllByRecursion HasArea l.changes.items;
      spans : pulled_each l.axis l.fn.back n (with_sizes l.cfg l.changes.items) l.pos-iterator ≡ pulled_each l.axis l.fn.back n l.cfg (inside l.fn.entity l.rows l.columns);
    }
