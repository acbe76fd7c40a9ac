-- What was found of the merged cells of a table before its cells move.
use Rattle.std.specs.Prelude.{◌≡◌, Option, refl, unwrap_or}
use Rattle.std.specs.Coded.{Coded, code_by, coded_option, coded×}
use Rattle.tabled_grid.specs.Fitting.{keep_fitting}
use Rattle.tabled_grid.specs.Spans.{SpanMap, size_code, span_code}
use Rattle.tabled_grid.specs.declared.config.size.Size.{Size}

-- the shape of the table, and its merged cells that fit it, unless all of them do
pub record Found : Type 0 where
  pub table : Size
  pub fitting : Option SpanMap

-- it is stored as the pair of its parts
abbrev pub found_code : Coded Found
found_code = code_by (Size × Option SpanMap) (coded× size_code (coded_option span_code)) (λ f. (f.table, f.fitting)) (λ parts. record { table = parts.0; fitting = parts.1 }) (λ _. refl)

-- it was found of a map: those that fit, or else all of the map, are those of the map that fit the shape
abbrev pub IsFoundOf : SpanMap → Found → Type 0
IsFoundOf m found = unwrap_or found.fitting m ≡ keep_fitting found.table.height found.table.width m
