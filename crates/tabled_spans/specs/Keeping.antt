-- What options keep of merged cells.
use Rattle.tabled_grid.specs.Spans.{SpanMap}
use Rattle.tabled_options.specs.Shapes.{FitsAfter}
use Rattle.tabled_options.specs.declared.table_option.TableOption as on_tables

-- merged cells that fit the table do so after an option on tables, whether it is done or refused
abbrev pub KeepsFitting : {S R D A : Type 0} → on_tables.Ghosts S R SpanMap D A → S → Type 0
KeepsFitting how option = FitsAfter (how.does option) (how.leaves option)
