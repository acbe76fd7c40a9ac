-- The merged cells that HTML can say: the standard takes no more than 1000 columns and 65534 rows of an attribute.
use Rattle.std.specs.Prelude.{◌≡◌, ◌≤◌, ◌&&◌, ℕ, Bool, Some, nat_le}
use Rattle.std.specs.List.{filter}
use Rattle.tabled_grid.specs.Fitting.{keep_fitting}
use Rattle.tabled_grid.specs.Spans.{SpanMap, get, map_of, rectangles}
use Rattle.tabled_grid.specs.declared.config.rectangle.Rectangle.{Rectangle}

-- a rectangle takes no more
abbrev pub is_within_limits : Rectangle → Bool
is_within_limits e = nat_le e.size.width 1000 && nat_le e.size.height 65534

-- neither its width nor its height is more
pub record IsWithinLimits (e : Rectangle) : Type 0 where
  pub width : e.size.width ≤ 1000
  pub height : e.size.height ≤ 65534

-- no merged cell takes more
pub record AreWithinLimits (m : SpanMap) : Type 0 where
  pub each : (e : Rectangle) → get m e.first ≡ Some e.size → IsWithinLimits e

-- the map without the merged cells that take more
abbrev pub keep_within_limits : SpanMap → SpanMap
keep_within_limits m = map_of (filter is_within_limits (rectangles m))

-- the merged cells that are written: those that fit a table and take no more
abbrev pub keep_written : ℕ → ℕ → SpanMap → SpanMap
keep_written rows columns m = keep_within_limits (keep_fitting rows columns m)
