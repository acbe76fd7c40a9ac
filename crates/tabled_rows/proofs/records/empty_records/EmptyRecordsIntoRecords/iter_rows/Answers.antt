use Rattle.tabled_rows.proofs.Common.{[], ◌∙◌, Bor, List, ap, repeat_n_count, repeat_n_item, ℕ}
use Rattle.tabled_rows.proofs.Listed.{gives-filled}
use Rattle.tabled_rows.proofs.records.empty_records.EmptyRecordsIntoRecords.iter_rows.Goals as goal

pub returns-clause-given : goal.returns-clause-given
returns-clause-given c = λ rows is iter same. rw same (record {
  can = (tt, tt);
  ends = tt;
  gives = rw (is, ← c.self.view_is) (gives-filled (λ (cell : Bor (List ℕ)). cell.now) c.repeat_n-2.result c.self.inside.rows c.self.inside.columns [] c.repeat_n-2.ensures.count (ap repeat_n_count c.repeat_n-2.ensures.item ∙ c.repeat_n.ensures.count) (ap (λ row. (repeat_n_item {T = Bor (List ℕ)} row).now) c.repeat_n-2.ensures.item ∙ ap (λ (cell : Bor (List ℕ)). cell.now) c.repeat_n.ensures.item));
})
