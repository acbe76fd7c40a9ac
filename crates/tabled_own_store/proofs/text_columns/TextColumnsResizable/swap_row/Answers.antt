use Rattle.std.proofs.Common.{◌≡◌, ◌<◌, arith}
use Rattle.std.proofs.lemmas.Grind.{common_steps}
use Rattle.std.specs.Vec.{with_items}
use Rattle.tabled_own_store.proofs.ColumnStore.{each_long, rows_swapped}
use Rattle.tabled_own_store.proofs.text_columns.TextColumnsResizable.swap_row.Goals as goal

pub swap_each-requires-clause-i_within : goal.swap_each-requires-clause-i_within
swap_each-requires-clause-i_within c = rw c.deref_mut.ensures.value (each_long _ _ c.self.inside.shape (λ n. c.args.i < n) (rw (← c.self.view_is) at c.requires.i_within))

pub swap_each-requires-clause-k_within : goal.swap_each-requires-clause-k_within
swap_each-requires-clause-k_within c = rw c.deref_mut.ensures.value (each_long _ _ c.self.inside.shape (λ n. c.args.k < n) (rw (← c.self.view_is) at c.requires.k_within))

pub invariant_of-self-inside : goal.invariant_of-self-inside
invariant_of-self-inside c =
    let items : (with_items c.self.inside.columns c.swap_each.new.columns).items ≡ c.swap_each.new.columns = grind (arith, common_steps) in
    (rw items (rows_swapped _ _ c.self.inside.shape c.args.i c.args.k _ (rw (← c.self.view_is) at c.requires.i_within) (rw c.deref_mut.ensures.value at c.swap_each.ensures)).well, tt)

pub returns-clause-swapped : goal.returns-clause-swapped
returns-clause-swapped c =
    let items : (with_items c.self.inside.columns c.swap_each.new.columns).items ≡ c.swap_each.new.columns = grind (arith, common_steps) in
    rw (← c.self.view_is, items) (rows_swapped _ _ c.self.inside.shape c.args.i c.args.k _ (rw (← c.self.view_is) at c.requires.i_within) (rw c.deref_mut.ensures.value at c.swap_each.ensures)).is
