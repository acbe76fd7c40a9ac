use Rattle.std.proofs.Common.{◌≡◌, ◌+◌, ◌≤◌, arith, rules}
use Rattle.std.proofs.lemmas.Grind.{common_steps}
use Rattle.std.specs.Vec.{with_items}
use Rattle.tabled_own_store.proofs.ColumnStore.{each_long, row_inserted, row_inserted_well}
use Rattle.tabled_own_store.proofs.text_columns.TextColumnsResizable.insert_row.Goals as goal

pub insert_blanks-requires : goal.insert_blanks-requires
insert_blanks-requires c = rw c.deref_mut.ensures.value (each_long _ _ c.self.inside.shape (λ n. c.args.i ≤ n) (rw (← c.self.view_is) at c.requires.within))

pub invariant_of-self-inside-2 : goal.invariant_of-self-inside-2
invariant_of-self-inside-2 c =
    let items : (with_items c.self.inside.columns c.insert_blanks.new.columns).items ≡ c.insert_blanks.new.columns = grind (arith, common_steps) in
    let more : c.in-Some.rows ≡ c.self.inside.rows + 1 = search rules in
    (rw items (row_inserted_well _ _ c.self.inside.shape _ c.args.i _ _ (rw (← c.self.view_is) at c.requires.within) more (rw c.deref_mut.ensures.value at c.in_ok-insert_blanks.ensures.ok)), tt)

pub returns-clause-ok : goal.returns-clause-ok
returns-clause-ok c =
    let items : (with_items c.self.inside.columns c.insert_blanks.new.columns).items ≡ c.insert_blanks.new.columns = grind (arith, common_steps) in
    let more : c.in-Some.rows ≡ c.self.inside.rows + 1 = search rules in
    rw (← c.self.view_is, items) (row_inserted _ _ c.self.inside.shape _ c.args.i _ _ (rw (← c.self.view_is) at c.requires.within) more (rw c.deref_mut.ensures.value at c.in_ok-insert_blanks.ensures.ok))
