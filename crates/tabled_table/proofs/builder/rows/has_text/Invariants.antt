use Rattle.tabled_table.proofs.Common.{◌≡◌, drop, is_empty_text, list_all, map, string_bytes}
use Rattle.tabled_table.proofs.builder.rows.has_text.Given as goal

abbrev pub invariant-loop-cell : goal.invariant-loop-cell
invariant-loop-cell l = list_all is_empty_text (map string_bytes (drop l.cell-index l.row)) ≡ list_all is_empty_text (map string_bytes l.row)
