-- Sorted lists of anchors, and the maps that they make.
use Rattle.tabled_grid.proofs.Common.{[], ◌&&◌, ◌==◌, ◌≡◌, ◌∙◌, AreAnchors, Bool, List, Position, Rectangle, SpanMap, ap, drop_hidden, dropped, holds, is_hidden, is_hidden_in, length, list_any, map_of, nil_from_length, not, rectangles, same_place, sym, true}
use borrow.Author.Tests.{eqb-true}
use Rattle.tabled_grid.proofs.SortedEntries.{filter_anchors, rectangles-map_of}

-- a list of anchors in order, and the map that it makes
pub record Lists (es : List Rectangle) (m : SpanMap) : Type 0 where
  pub valid : AreAnchors es
  pub is : m ≡ map_of es

abbrev pub visible_in : List Rectangle → Position → Bool
visible_in es p = not (is_hidden_in es p)

pub hidden_is : (es : List Rectangle) (m : SpanMap) (p : Position) → Lists es m → is_hidden m p ≡ is_hidden_in es p
hidden_is es m p l = rw l.is (ap (list_any (λ (e : Rectangle). holds e p && not (same_place e.first p))) (rectangles-map_of es l.valid))

-- the anchors that are left are anchors
pub anchors_dropped : (es : List Rectangle) → AreAnchors es → AreAnchors (dropped es)
anchors_dropped es valid = filter_anchors (visible_in es) es valid

pub dropped_is : (es : List Rectangle) (m : SpanMap) → Lists es m → Lists (dropped es) (drop_hidden m)
dropped_is es m l = record { valid = anchors_dropped es l.valid; is = rw l.is (ap (λ fs. map_of (dropped fs)) (rectangles-map_of es l.valid)) }

pub none-listed : (m : SpanMap) (es : List Rectangle) → es ≡ rectangles m → true ≡ (length es == 0) → rectangles m ≡ []
none-listed m es is h = sym is ∙ nil_from_length es (eqb-true (length es) 0 (sym h))
