use Rattle.tabled_settings.proofs.Common.{◌∙◌, Places, ap, carried, carried-none, removed, sym}
use Rattle.tabled_grid.proofs.SortedAnchors.{none-listed}
use Rattle.tabled_settings.proofs.RemovedSpans.{removed_carried, removed_done}
use Rattle.tabled_settings.proofs.disable.remove_located.Goals as goal

pub returns-then-is_empty-clause-ok : goal.returns-then-is_empty-clause-ok
returns-then-is_empty-clause-ok g c =
    let m = c.in_ok-gone.ensures.marks in
    let told = rw c.count.ensures.count at m.2 in
    let grid = g.R.GridStore.grid c.args.records.now in
    let none = none-listed c.args.cfg.now c.rectangles.result.now c.rectangles.ensures.rectangles c.if-is_empty.ensures in record {
      found = m.0;
      located = m.1;
      rearranged = (removed_done _ _ _ _ told _ (rw c.deref.ensures.value at c.remove.ensures.kept), sym (carried-none (removed c.args.axis m.0 grid.rows grid.columns) grid.rows grid.columns c.args.cfg.now none));
    }

pub returns-clause-ok : goal.returns-clause-ok
returns-clause-ok g c =
    let m = c.in_ok-gone.ensures.marks in
    let told = rw c.count.ensures.count at m.2 in
    let moved = (rw c.in_ok-fitting.ensures.table at c.carry_along.ensures.carried) ∙ ap (λ (places : Places). carried places c.shape_of-table.result.height c.shape_of-table.result.width c.args.cfg.now) c.in_ok-left.ensures in record {
      found = m.0;
      located = m.1;
      rearranged = (removed_done _ _ _ _ told _ (rw c.deref-3.ensures.value at c.remove-2.ensures.kept), removed_carried _ _ _ _ told _ _ c.args.cfg.now _ c.shape_of-table.ensures.rows c.shape_of-table.ensures.columns (rw c.deref-2.ensures.value at moved));
    }
