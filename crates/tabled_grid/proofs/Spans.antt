-- Lists of rectangles after an edit, and the maps that they make.
use Rattle.tabled_grid.proofs.Common.{◌<◌, ◌≡◌, ◌≤◌, AllByRecursion, AreAnchors, AreSorted, Equal, Err, HoldsAt, IsBinarySearchResult, IsSpan, List, Position, Rectangle, Size, SpanMap, T, all-insert, all-remove, all-set, elsewhere, eq_by_cmp, insert, is_sorted, is_sorted-put, length, map_of, not, pairs, position_cmp, put, rectangle, remove, set, subst, sym, ℕ}
use Rattle.tabled_grid.specs.Spans as spans
pub use Rattle.tabled_grid.proofs.SortedEntries.{positions_exact, positions_total}
use Rattle.tabled_grid.proofs.SortedEntries.{HasSize, filter_anchors, map_put, map_without, put_found, put_missed, searchable, without_found, without_missed}

-- a list of rectangles, and the map that it makes
pub record Makes (anchors : List Rectangle) (m : SpanMap) : Type 0 where
  pub valid : AreAnchors anchors
  pub is : map_of anchors ≡ m

module _ (anchors : List Rectangle) (valid : AreAnchors anchors) (p : Position) where
  pub with_anchor : (new : List Rectangle) (size : Size) → AllByRecursion HasSize new → pairs new ≡ put position_cmp p size (pairs anchors) → Makes new (spans.insert (map_of anchors) p size)
  with_anchor new size sizes is =
      let up : AreSorted new = subst (λ ps. T (is_sorted position_cmp ps)) (sym is) (is_sorted-put position_cmp positions_total p size (pairs anchors) valid.sorted) in
      record { valid = record { sorted = up; sizes = sizes }; is = map_put anchors new p size valid is }

  pub without_anchor : (new : List Rectangle) → AllByRecursion HasSize new → new ≡ elsewhere p anchors → Makes new (spans.remove (map_of anchors) p)
  without_anchor new sizes is =
      record {
        valid = record { sorted = subst AreSorted (sym is) (filter_anchors (λ q. not (eq_by_cmp position_cmp p q)) anchors valid).sorted; sizes = sizes };
        is = rw is (map_without anchors p valid);
      }

  pub set_anchor : (size : Size) (i : ℕ) → IsSpan size → i < length anchors → HoldsAt (λ (anchor : Rectangle). position_cmp anchor.first p ≡ Equal) anchors i → Makes (set anchors i (rectangle p size)) (spans.insert (map_of anchors) p size)
  set_anchor size i ok within at =
      with_anchor (set anchors i (rectangle p size)) size (all-set HasSize anchors i (rectangle p size) valid.sizes ok)
      (sym (put_found anchors p size i (rectangle p size) valid.sorted within (at (rectangle p size))))

  pub insert_anchor : (size : Size) (i : ℕ) → IsSpan size → i ≤ length anchors → IsBinarySearchResult (λ (anchor : Rectangle). position_cmp anchor.first p) anchors (Err i) → Makes (insert anchors i (rectangle p size)) (spans.insert (map_of anchors) p size)
  insert_anchor size i ok within at =
      let parts = at (searchable anchors p valid.sorted) in
      with_anchor (insert anchors i (rectangle p size)) size (all-insert HasSize anchors i (rectangle p size) valid.sizes ok)
      (sym (put_missed anchors p size i within parts.0 parts.1))

  pub remove_anchor : (i : ℕ) (d : Rectangle) → i < length anchors → HoldsAt (λ (anchor : Rectangle). position_cmp anchor.first p ≡ Equal) anchors i → Makes (remove anchors i) (spans.remove (map_of anchors) p)
  remove_anchor i d within at =
      without_anchor (remove anchors i) (all-remove HasSize anchors i valid.sizes)
      (sym (without_found anchors p i d valid.sorted within (at d)))

  -- where there is none, it is taken away already
  pub no_anchor : (i : ℕ) → i ≤ length anchors → IsBinarySearchResult (λ (anchor : Rectangle). position_cmp anchor.first p) anchors (Err i) → Makes anchors (spans.remove (map_of anchors) p)
  no_anchor i within at =
      without_anchor anchors valid.sizes (sym (without_missed anchors p i valid.sorted within at))
