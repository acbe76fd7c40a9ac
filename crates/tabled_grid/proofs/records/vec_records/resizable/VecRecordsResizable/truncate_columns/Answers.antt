use Rattle.tabled_grid.proofs.Common.{◌*◌, ◌-◌, ◌∙◌, ◌≡◌, ◌≤◌, Columns, ap, arith, common_steps, is_even, take, with_items, ℕ}
use Rattle.tabled_grid.proofs.FirstLines.{first_all}
use Rattle.tabled_grid.proofs.FlatStore.{columns_cut}
use Rattle.tabled_grid.proofs.records.vec_records.resizable.VecRecordsResizable.truncate_columns.Goals as goal

pub returns-then-count-self-clause-first : goal.returns-then-count-self-clause-first
returns-then-count-self-clause-first g c = rw (← c.self.view_is) (first_all Columns c.args.count _ c.if-count-self.true (is_even _ _ _ c.self.inside.full) c.self.inside.full.rowless)

pub returns-clause-first : goal.returns-clause-first
returns-clause-first g c =
    let items : (with_items c.self.inside.cells c.close_up.new.cells).items ≡ c.close_up.new.cells = grind (arith, common_steps) in
    let within : c.args.count ≤ c.self.inside.columns = rw (← c.self.view_is) at c.requires.within in
    let left : c.args.count ≡ c.self.inside.columns - (c.self.inside.columns - c.args.count) = omega (arith, within) in
    rw (← c.self.view_is)
    (columns_cut _ _ _ c.self.inside.full c.args.count _ within
    (c.truncate.ensures.items ∙ ap (take (c.self.inside.rows * c.args.count)) items ∙ ap (λ (n : ℕ). take (c.self.inside.rows * n) c.close_up.new.cells) left ∙ rw c.deref_mut.ensures.value at c.close_up.ensures))
