-- Rectangles that come one after another, of which each has to fit among those before it.
use Rattle.std.specs.Prelude.{◌≡◌, ◌+◌, ◌<◌, ◌≤◌, ℕ, ◌&&◌, Bool, true, false, length, get_or, take, List, not}
use Rattle.std.specs.List.{AllByRecursion}
use Rattle.tabled_grid.specs.Spans.{IsSpan, SpanMap, from_rectangles}
use Rattle.tabled_grid.specs.declared.config.rectangle.Rectangle.{Rectangle}
use Rattle.tabled_language.specs.declared.fault.Fault.TheVariants.{SpanMisfits}
use Rattle.tabled_language.specs.declared.fault.ParseError.{ParseError}
use Rattle.tabled_language.specs.declared.fault.ParseError.TheVariants.{Faulty, OutOfMemory}
use Rattle.tabled_grid.specs.Fitting.{all_fit}

-- rectangles of more than one cell each
abbrev pub AreSpans : List Rectangle → Type 0
AreSpans es = AllByRecursion (λ (e : Rectangle). IsSpan e.size) es

-- the rectangles before an index fit, and with the one there they do not
pub record IsFirstMisfit (rows columns : ℕ) (es : List Rectangle) (i : ℕ) : Type 0 where
  pub within : i < length es
  pub before : all_fit rows columns (take i es) ≡ true
  pub there : all_fit rows columns (take (i + 1) es) ≡ false

-- rectangles in the order of their lines, and the numbers of these lines
pub record NumberedAnchors : Type 0 where
  pub anchors : List Rectangle
  pub numbers : List ℕ

-- each of these rectangles has a size that a span may have, and a line
abbrev pub AreSpanLines : NumberedAnchors → Type 0
AreSpanLines es = record { sizes : AreSpans es.anchors; numbered : length es.anchors ≤ length es.numbers }

-- all rectangles fit, and these are their merged cells
abbrev pub IsMerged : ℕ → ℕ → NumberedAnchors → SpanMap → Type 0
IsMerged rows columns es spans = (all_fit rows columns es.anchors ≡ true) × (spans ≡ from_rectangles es.anchors)

-- why rectangles aren't merged: the first that does not fit among those before it, with the number of its line; or memory, where there are some
abbrev pub EndsMerge : ℕ → ℕ → NumberedAnchors → ParseError → Type 0
EndsMerge rows columns es (Faulty line fault) = (fault ≡ SpanMisfits) × (i : ℕ) × IsFirstMisfit rows columns es.anchors i × (line ≡ get_or es.numbers i 0)
EndsMerge rows columns es OutOfMemory = 0 < length es.anchors
