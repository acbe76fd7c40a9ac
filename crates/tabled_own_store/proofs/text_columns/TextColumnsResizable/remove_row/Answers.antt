use Rattle.std.proofs.Common.{◌≡◌, ◌<◌, arith}
use Rattle.std.proofs.lemmas.Grind.{common_steps}
use Rattle.std.specs.Vec.{with_items}
use Rattle.tabled_own_store.proofs.ColumnStore.{each_long, row_removed}
use Rattle.tabled_own_store.proofs.text_columns.TextColumnsResizable.remove_row.Goals as goal

pub remove_each-requires : goal.remove_each-requires
remove_each-requires c = rw c.deref_mut.ensures.value (each_long _ _ c.self.inside.shape (λ n. c.args.i < n) (rw (← c.self.view_is) at c.requires.within))

pub invariant_of-self-inside-else-self-eq0 : goal.invariant_of-self-inside-else-self-eq0
invariant_of-self-inside-else-self-eq0 c =
    let items : (with_items c.self.inside.columns c.remove_each.new.columns).items ≡ c.remove_each.new.columns = grind (arith, common_steps) in
    (rw items (row_removed _ _ c.self.inside.shape c.args.i _ (rw (← c.self.view_is) at c.requires.within) c.if-self-eq0.false (rw c.deref_mut.ensures.value at c.remove_each.ensures)).well, tt)

pub returns-else-self-eq0-clause-removed : goal.returns-else-self-eq0-clause-removed
returns-else-self-eq0-clause-removed c =
    let items : (with_items c.self.inside.columns c.remove_each.new.columns).items ≡ c.remove_each.new.columns = grind (arith, common_steps) in
    rw (← c.self.view_is, items) (row_removed _ _ c.self.inside.shape c.args.i _ (rw (← c.self.view_is) at c.requires.within) c.if-self-eq0.false (rw c.deref_mut.ensures.value at c.remove_each.ensures)).is
