use Rattle.tabled_grid.proofs.Common.{◌≡◌, ◌≤◌, arith, common_steps, with_items}
use Rattle.tabled_grid.proofs.Blanks.{IsEven-inserts_column}
use Rattle.tabled_grid.proofs.NestedRows.{column_inserted, each_long}
use Rattle.tabled_grid.proofs.records.nested_rows.resizable.VecVecResizable.insert_column.Goals as goal

pub insert_blanks-requires : goal.insert_blanks-requires
insert_blanks-requires g c = rw c.deref_mut.ensures.value (each_long (λ n. c.args.j ≤ n) _ c.args.self.now.items c.requires.well.wide c.requires.within)

pub returns-clause-ok : goal.returns-clause-ok
returns-clause-ok g c =
    let items : (with_items c.args.self.now c.insert_blanks.new.rows).items ≡ c.insert_blanks.new.rows = grind (arith, common_steps) in
    rw items (column_inserted g.T.Blank.is_blank c.args.j _ _ c.requires.well c.requires.within (rw c.deref_mut.ensures.value at c.in_ok-insert_blanks.ensures.ok))

pub returns-clause-well : goal.returns-clause-well
returns-clause-well g c =
    let items : (with_items c.args.self.now c.insert_blanks.new.rows).items ≡ c.insert_blanks.new.rows = grind (arith, common_steps) in
    let inserted = column_inserted g.T.Blank.is_blank c.args.j _ _ c.requires.well c.requires.within (rw c.deref_mut.ensures.value at c.in_ok-insert_blanks.ensures.ok) in
    rw items (IsEven-inserts_column g.T.Blank.is_blank _ _ c.args.j c.requires.within inserted c.requires.well)
