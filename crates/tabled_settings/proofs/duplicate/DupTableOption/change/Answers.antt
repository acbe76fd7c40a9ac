use Rattle.tabled_settings.proofs.Common.{[], ◌<◌, ◌≡◌, arith, common_steps, length, length-map, map, nil_from_length, on_err_weaker, on_ok_weaker, refl, rules, string_bytes}
use Rattle.tabled_settings.proofs.Duplicated.{IsRead, left_all, left_first, none_left}
use Rattle.tabled_settings.proofs.duplicate.DupTableOption.change.Goals as goal
use Rattle.tabled_settings.proofs.duplicate.DupTableOption.change.Goals.{After-is_empty, After-write_rounds}

-- what was read
read : (g : _) (c : After-is_empty g) → IsRead g.R.Cell.CellText.text_of (g.Dst.Object.lists c.args.self.0) (g.Src.Object.lists c.args.self.1) c.in_ok-sources.sources.items c.in_ok-targets.targets.items (map string_bytes c.in_ok-texts.texts.items) c.most_named-many.result (g.R.GridStore.grid c.args.records.now)
read g c = record {
  from = rw (← c.self.view_is) c.in_ok-sources.ensures;
  to = rw (← c.self.view_is) c.in_ok-targets.ensures;
  are = c.in_ok-texts.ensures;
  few = rw (c.deref.ensures.value, c.count_rows.ensures.rows, c.count_columns.ensures.columns) at c.most_named-many.ensures;
}

-- where texts are written, there are some
some : (g : _) (c : After-write_rounds g) → 0 < length (map string_bytes c.in_ok-texts.texts.items)
some g c = let texts : 0 < length c.in_ok-texts.texts.items = search rules in rw (length-map c.in_ok-texts.texts.items string_bytes) texts

pub returns-clause-err : goal.returns-clause-err
returns-clause-err g c =
    let at = goal.at.returns-clause-err g c in
    on_err_weaker c.write_rounds.result (left_first _ _ _ _ _ _ _ _ (g.R.GridStore.grid c.write_rounds.new.records) c.args._cfg.now (read g at.After-is_empty) (some g at.After-write_rounds)) (rw c.deref-2.ensures.value at c.write_rounds.ensures.err)

pub returns-clause-ok : goal.returns-clause-ok
returns-clause-ok g c =
    let at = goal.at.returns-clause-ok g c in
    on_ok_weaker c.write_rounds.result (left_all _ _ _ _ _ _ _ _ (g.R.GridStore.grid c.write_rounds.new.records) c.args._cfg.now (read g at.After-is_empty) (some g at.After-write_rounds)) (rw c.deref-2.ensures.value at c.write_rounds.ensures.ok)

pub returns-then-is_empty-clause-ok : goal.returns-then-is_empty-clause-ok
returns-then-is_empty-clause-ok g c =
    let empty : c.in_ok-texts.texts.items ≡ [] = grind (arith, common_steps, nil_from_length) in
    none_left _ _ _ _ _ _ _ _ (g.R.GridStore.grid c.args.records.now) c.args._cfg.now (read g (goal.at.returns-then-is_empty-clause-ok g c).After-is_empty) (rw empty refl)
