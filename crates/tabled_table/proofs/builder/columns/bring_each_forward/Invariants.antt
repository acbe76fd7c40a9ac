use Rattle.tabled_table.proofs.Common.{◌≡◌, ChangedBy, List, brought_forward, drop, texts_of, ℕ}
use Rattle.tabled_table.proofs.builder.columns.bring_each_forward.Given as goal

abbrev pub invariant-loop-row : goal.invariant-loop-row
invariant-loop-row l = record {
  rows : ChangedBy texts_of (λ (texts : List (List ℕ)). brought_forward l.marks l.kept l.start texts) l.fn.rows l.rows l.row-index;
  rest : drop l.row-index l.rows ≡ drop l.row-index l.fn.rows;
}
