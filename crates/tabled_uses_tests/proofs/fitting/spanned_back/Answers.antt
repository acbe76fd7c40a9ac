use Rattle.tabled_grid.proofs.Common.{[], ◌∙◌, ◌≡◌, None, SpanMap, ap, get, refl}
use Rattle.tabled_grid.proofs.SortedEntries.{get-map_of}
use Rattle.tabled_grid.specs.Spans.{empty, empty-is}
use Rattle.tabled_uses_tests.proofs.fitting.spanned_back.Goals as goal

-- a new map has no rectangles
pub spans_back-requires-clause-flat : goal.spans_back-requires-clause-flat
spans_back-requires-clause-flat g = record {
  height = λ a.
      let none : get empty a ≡ None = ap (λ (m : SpanMap). get m a) empty-is ∙ get-map_of [] a (record { sorted = tt; sizes = tt }) in
      rw (g.new-cfg.ensures.empty, none) refl;
}
