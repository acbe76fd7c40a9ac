-- The orders of options.
use Rattle.std.specs.Prelude.{ℕ, Bool, Option}
use Rattle.std.specs.Option.{option_cmp}
use Rattle.std.specs.Ordering.{bool_cmp, nat_cmp, ordering_then}
use Rattle.std.specs.declared.cmp.Ordering.{Ordering}
use Rattle.std.specs.declared.cmp.Ordering.TheVariants.{Equal, Greater, Less}
use Rattle.tabled_grid.specs.declared.config.offset.Offset.{Offset}
use Rattle.tabled_grid.specs.declared.config.offset.Offset.TheVariants.{End, Start}
use Rattle.tabled_grid.specs.declared.records.axis.Axis.{Axis}
use Rattle.tabled_grid.specs.declared.records.axis.Axis.TheVariants.{Columns, Rows}
use Rattle.tabled_settings.specs.declared.reverse.Reverse.{Reverse}

-- rows before columns
abbrev pub axis_cmp : Axis → Axis → Ordering
axis_cmp Rows Rows = Equal
axis_cmp Rows Columns = Less
axis_cmp Columns Rows = Greater
axis_cmp Columns Columns = Equal

-- what is counted from the start before what is counted from the end, and each by its number
abbrev pub offset_cmp : Offset → Offset → Ordering
offset_cmp (Start m) (Start n) = nat_cmp m n
offset_cmp (Start m) (End n) = Less
offset_cmp (End m) (Start n) = Greater
offset_cmp (End m) (End n) = nat_cmp m n

-- by the axis, then by the start, and then by the limit
abbrev pub reverse_cmp : Reverse → Reverse → Ordering
reverse_cmp a b = ordering_then (axis_cmp a.axis b.axis) (ordering_then (nat_cmp a.start b.start) (offset_cmp a.limit b.limit))

-- by whether they clean, those that don't first, and then by the tab size, unset first
abbrev pub charset_cmp : Bool × Option ℕ → Bool × Option ℕ → Ordering
charset_cmp a b = ordering_then (bool_cmp a.0 b.0) (option_cmp nat_cmp a.1 b.1)

-- by the width, and then by whether they keep words, those that don't first
abbrev pub wrap_cmp : ℕ × Bool → ℕ × Bool → Ordering
wrap_cmp a b = ordering_then (nat_cmp a.0 b.0) (bool_cmp a.1 b.1)
