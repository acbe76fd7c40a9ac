use Rattle.tabled_spans.proofs.Common.{◌-◌, ◌≡◌, IsCoverOf, SpanMap, is_visible, line_of, list_all, stretch}
use Rattle.tabled_spans.proofs.span.grow.is_free.Given as goal

abbrev pub invariant-loop-k : goal.invariant-loop-k
invariant-loop-k l = (m : SpanMap) → IsCoverOf m l.cover → list_all (is_visible m) (stretch l.axis l.pos (line_of l.axis l.pos) l.many) ≡ list_all (is_visible m) (stretch l.axis l.pos l.k (l.end - l.k))
