use Rattle.std.proofs.Common.{◌≡◌, ◌∙◌, ap, arith}
use Rattle.std.proofs.lemmas.Grind.{common_steps}
use Rattle.std.specs.Vec.{with_items}
use Rattle.tabled_grid.proofs.Lists.{map-swap}
use Rattle.tabled_grid.specs.Grid.{map_items}
use Rattle.tabled_own_store.proofs.ColumnStore.{columns_swapped}
use Rattle.tabled_own_store.proofs.text_columns.TextColumnsResizable.swap_column.Goals as goal

pub invariant_of-self-inside : goal.invariant_of-self-inside
invariant_of-self-inside c =
    let items : (with_items c.self.inside.columns c.swap.new.self).items ≡ c.swap.new.self = grind (arith, common_steps) in (
      (columns_swapped _ _ c.self.inside.shape c.args.j c.args.k _ (rw (← c.self.view_is) at c.requires.j_within)
          (ap map_items (items ∙ rw c.as_mut_slice.ensures.value at c.swap.ensures.after) ∙ map-swap _ c.self.inside.columns.items c.args.j c.args.k)).well,
      tt,
    )

pub returns-clause-swapped : goal.returns-clause-swapped
returns-clause-swapped c =
    let items : (with_items c.self.inside.columns c.swap.new.self).items ≡ c.swap.new.self = grind (arith, common_steps) in
    rw (← c.self.view_is)
    (columns_swapped _ _ c.self.inside.shape c.args.j c.args.k _ (rw (← c.self.view_is) at c.requires.j_within)
    (ap map_items (items ∙ rw c.as_mut_slice.ensures.value at c.swap.ensures.after) ∙ map-swap _ c.self.inside.columns.items c.args.j c.args.k)).is
