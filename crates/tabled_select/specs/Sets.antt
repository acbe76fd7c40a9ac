-- Sets of places, as marks.
use Rattle.std.specs.BTreeMap.{get}
use Rattle.tabled_grid.specs.Spans.{position_cmp}
use Rattle.tabled_grid.specs.declared.config.position.Position.{Position}
use Rattle.tabled_select.specs.Marks.{HasRoom, Marks, mark_at}
use Rattle.tabled_select.specs.declared.object.listed_marks.ListedMarks.{ListedMarks}
use Rattle.tabled_select.specs.declared.object.marked.Marked.{Marked}
use Rattle.tabled_select.specs.declared.object.place_set.PlaceMarks.{PlaceMarks}
use Rattle.tabled_select.specs.declared.object.place_set.PlaceMarks.TheVariants.{All, Few}
use Rattle.tabled_select.specs.declared.object.place_set.PlaceSet.{PlaceSet}

-- the marks of all places of a table
abbrev pub all_marks : Marked → Marks
all_marks a = mark_at a.columns a.marks.items

-- the marks of a few places
abbrev pub few_marks : ListedMarks → Marks
few_marks a = get position_cmp a.marks

-- the marks of a set in either form
abbrev pub marks_of : PlaceSet → Marks
marks_of a = marks_in a.marks
  where
    marks_in : PlaceMarks → Marks
    marks_in (All marks) = all_marks marks
    marks_in (Few marks) = few_marks marks

-- a set may be asked for a place: where it marks all places of a table, the place is one of them
abbrev pub covers : PlaceSet → Position → Type 0
covers a p = has_room_in a.marks
  where
    has_room_in : PlaceMarks → Type 0
    has_room_in (All marks) = HasRoom (all_marks marks) p
    has_room_in (Few _) = Unit {0}
