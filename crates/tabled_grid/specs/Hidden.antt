-- Which cells are hidden by merged cells.
use Rattle.std.specs.Prelude.{◌&&◌, Bool, not}
use Rattle.std.specs.List.{list_any}
use Rattle.tabled_grid.specs.Entity.{same_place}
use Rattle.tabled_grid.specs.Rectangles.{holds}
use Rattle.tabled_grid.specs.Spans.{SpanMap, rectangles, retain}
use Rattle.tabled_grid.specs.declared.config.position.Position.{Position}
use Rattle.tabled_grid.specs.declared.config.rectangle.Rectangle.{Rectangle}

-- another anchor's rectangle holds the place
abbrev pub is_hidden : SpanMap → Position → Bool
is_hidden m p = list_any (λ (e : Rectangle). holds e p && not (same_place e.first p)) (rectangles m)

-- no other anchor's rectangle holds the place
abbrev pub is_visible : SpanMap → Position → Bool
is_visible m p = not (is_hidden m p)

-- the map without the anchors that are hidden in it
abbrev pub drop_hidden : SpanMap → SpanMap
drop_hidden m = retain m (is_visible m)
