use Rattle.tabled_table.proofs.Common.{[], ◌+◌, ◌<◌, ◌||◌, ◌≡◌, ◌≤◌, false, get_or, is_empty_text, map, not, string_bytes, ℕ}
use Rattle.tabled_table.proofs.builder.columns.mark_row.Given as goal

abbrev pub invariant-loop-i : goal.invariant-loop-i
invariant-loop-i l = record {
  done : (k : ℕ) → k < l.i → get_or l.marks k false ≡ (get_or l.fn.marks k false || not (is_empty_text (get_or (map string_bytes l.row) (l.start + k) [])));
  rest : (k : ℕ) → l.i ≤ k → get_or l.marks k false ≡ get_or l.fn.marks k false;
}
