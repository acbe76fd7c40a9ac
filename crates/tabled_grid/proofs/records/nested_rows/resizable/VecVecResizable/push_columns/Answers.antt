use Rattle.tabled_grid.proofs.Common.{◌≡◌, arith, common_steps, with_items}
use Rattle.tabled_grid.proofs.AddedColumns.{IsEven-adds_columns}
use Rattle.tabled_grid.proofs.NestedRows.{columns_added}
use Rattle.tabled_grid.proofs.records.nested_rows.resizable.VecVecResizable.push_columns.Goals as goal

pub returns-clause-ok : goal.returns-clause-ok
returns-clause-ok g c =
    let items : (with_items c.args.self.now c.widen_each.new.rows).items ≡ c.widen_each.new.rows = grind (arith, common_steps) in
    rw items (columns_added g.T.Blank.is_blank c.args.many _ _ (rw c.deref_mut.ensures.value at c.in_ok-widen_each.ensures.ok))

pub returns-clause-well : goal.returns-clause-well
returns-clause-well g c =
    let items : (with_items c.args.self.now c.widen_each.new.rows).items ≡ c.widen_each.new.rows = grind (arith, common_steps) in
    let added = columns_added g.T.Blank.is_blank c.args.many _ _ (rw c.deref_mut.ensures.value at c.in_ok-widen_each.ensures.ok) in
    rw items (IsEven-adds_columns g.T.Blank.is_blank c.args.many _ _ added c.requires.well)
