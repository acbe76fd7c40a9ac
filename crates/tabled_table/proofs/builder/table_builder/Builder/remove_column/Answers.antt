use Rattle.tabled_table.proofs.Common.{◌<◌, ◌∙◌, ◌≡◌, All-lens, List, ap, even-without, map, refl, remove, row_texts, texts_removed, with_items_is, ℕ}
use Rattle.std.specs.Vec.{with_items}
use Rattle.tabled_table.proofs.builder.table_builder.Builder.remove_column.Goals as goal

pub remove_each-requires : goal.remove_each-requires
remove_each-requires c = rw c.deref_mut.ensures.value (All-lens (λ n. c.args.j < n) c.self.inside.count_columns c.self.inside.rows.items (rw (← c.self.view_is) at c.requires.within) c.self.invariant)

-- the texts of the rows that are left
left : (c : goal.After-self-2-1) → row_texts (with_items c.self.inside.rows c.remove_each.new.rows).items ≡ map (λ (row : List (List ℕ)). remove row c.args.j) (row_texts c.self.inside.rows.items)
left c =
    ap row_texts (with_items_is c.self.inside.rows c.remove_each.new.rows (c.remove_each.auto.rows ∙ c.deref_mut.ensures.len)) ∙ texts_removed _ _ c.args.j c.remove_each.ensures
    ∙ ap (λ rows. map (λ row. remove row c.args.j) (row_texts rows)) c.deref_mut.ensures.value

pub invariant_of-self : goal.invariant_of-self
invariant_of-self c = rw (left c) (even-without c.self.inside.count_columns c.args.j (row_texts c.self.inside.rows.items) (rw (← c.self.view_is) at c.requires.within) c.self.invariant)

pub returns : goal.returns
returns c = record { removed = rw (← c.self.view_is, left c) refl }
