-- The merged cells that are within the limits fit as they did.
use Rattle.tabled_grid.proofs.Common.{◌∙◌, ◌≡◌, All-filter, All-from_recursion, AreAnchors, Fits, List, Some, SpanMap, and_parts, filter, get, leb-true, rectangles, recursion_from_All, sym, true, ℕ}
use Rattle.tabled_grid.proofs.Fitting.{keep_fitting-fits}
use Rattle.tabled_grid.proofs.Members.{filter-member, find-member, member-get, sorted-filter}
use Rattle.tabled_grid.proofs.SortedEntries.{get-map_of, rectangles_anchors}
use Rattle.tabled_grid.specs.Spans.{IsSpan}
use Rattle.tabled_grid.specs.declared.config.rectangle.Rectangle.{Rectangle}
use Rattle.tabled_html.specs.Limits.{AreWithinLimits, is_within_limits, keep_within_limits, keep_written}
use Rattle.tabled_grid.specs.Fitting.{keep_fitting}

pub anchors-within : (es : List Rectangle) → AreAnchors es → AreAnchors (filter is_within_limits es)
anchors-within es valid = record {
  sorted = sorted-filter is_within_limits es valid.sorted;
  sizes = recursion_from_All _ _ (All-filter is_within_limits (λ (e : Rectangle). IsSpan e.size) es (All-from_recursion _ _ valid.sizes));
}

module _ (m : SpanMap) where
  -- those that are left were there, and are within the limits
  kept-within : (e : Rectangle) → get (keep_within_limits m) e.first ≡ Some e.size → (get m e.first ≡ Some e.size) × (is_within_limits e ≡ true)
  kept-within e is =
      let kept = filter is_within_limits (rectangles m) in
      let found = filter-member is_within_limits e (rectangles m) (find-member kept e.first e.size (sym (get-map_of kept e.first (anchors-within (rectangles m) (rectangles_anchors m))) ∙ is)) in
      (member-get m e found.0, found.1)

  within-limits : AreWithinLimits (keep_within_limits m)
  within-limits = record { each = λ e is. let parts = and_parts _ _ (kept-within e is).1 in record { width = leb-true _ _ parts.0; height = leb-true _ _ parts.1 } }

  within-fits : {rows columns : ℕ} → Fits m rows columns → Fits (keep_within_limits m) rows columns
  within-fits fits = record { each = λ e is. let fit = fits.each e (kept-within e is).0 in record { inside = fit.inside; alone = λ f p js. fit.alone f p (kept-within f js).0 } }

module _ (rows columns : ℕ) (m : SpanMap) where
  pub written-within : AreWithinLimits (keep_written rows columns m)
  written-within = within-limits (keep_fitting rows columns m)

  pub written-fits : Fits (keep_written rows columns m) rows columns
  written-fits = within-fits (keep_fitting rows columns m) (keep_fitting-fits rows columns m)
