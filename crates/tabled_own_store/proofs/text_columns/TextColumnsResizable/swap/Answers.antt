use Rattle.std.proofs.Common.{◌∙◌, sym}
use Rattle.std.proofs.lemmas.List.{get_or-set_other}
use Rattle.tabled_own_store.proofs.ColumnStore.{column_holds, swapped_in_column, swapped_in_columns}
use Rattle.tabled_own_store.proofs.text_columns.TextColumnsResizable.swap.Goals as goal

pub swap-requires-clause-i_in_bounds : goal.swap-requires-clause-i_in_bounds
swap-requires-clause-i_in_bounds c = column_holds _ _ c.self.inside.shape c.args.p _ (rw (← c.self.view_is) at c.requires.p_inside) c.index_mut.ensures.value

pub swap-requires-clause-j_in_bounds : goal.swap-requires-clause-j_in_bounds
swap-requires-clause-j_in_bounds c = column_holds _ _ c.self.inside.shape c.args.q _ (rw (← c.self.view_is) at c.requires.q_inside) (rw c.if-p-q.true at c.index_mut.ensures.value)

pub invariant_of-self-inside : goal.invariant_of-self-inside
invariant_of-self-inside c =
    ((swapped_in_column _ _ c.self.inside.shape c.args.p c.args.q (rw (← c.self.view_is) at c.requires.p_inside) (rw (← c.self.view_is) at c.requires.q_inside) c.index_mut.result.now _ c.if-p-q.true c.index_mut.ensures.value c.swap.ensures.items).well, tt)

pub returns-then-p-q-clause-swapped : goal.returns-then-p-q-clause-swapped
returns-then-p-q-clause-swapped c =
    rw (← c.self.view_is)
    (swapped_in_column _ _ c.self.inside.shape c.args.p c.args.q (rw (← c.self.view_is) at c.requires.p_inside) (rw (← c.self.view_is) at c.requires.q_inside) c.index_mut.result.now _ c.if-p-q.true c.index_mut.ensures.value c.swap.ensures.items).is

pub index_mut-requires-3 : goal.index_mut-requires-3
index_mut-requires-3 c = rw c.replace-column.ensures.value (column_holds _ _ c.self.inside.shape c.args.p _ (rw (← c.self.view_is) at c.requires.p_inside) c.index_mut-2.ensures.value)

pub index_mut-requires-5 : goal.index_mut-requires-5
index_mut-requires-5 c =
    column_holds _ _ c.self.inside.shape c.args.q _ (rw (← c.self.view_is) at c.requires.q_inside)
    (c.index_mut-4.ensures.value ∙ get_or-set_other c.self.inside.columns.items c.args.p.col c.args.q.col c.replace-column.new.dest _ (λ e. c.if-p-q.false (sym e)))

pub invariant_of-self-inside-2 : goal.invariant_of-self-inside-2
invariant_of-self-inside-2 c = (
  rw (c.swap-2.ensures.x_after, c.swap-2.ensures.y_after)
      (swapped_in_columns _ _ c.self.inside.shape c.args.p c.args.q (rw (← c.self.view_is) at c.requires.p_inside) (rw (← c.self.view_is) at c.requires.q_inside) c.replace-column.new.dest c.replace-column.result c.index_mut-4.result.now c.index_mut-3.result.now c.index_mut-5.result.now c.if-p-q.false
      (rw c.replace-column.ensures.value c.index_mut-2.ensures.value) c.index_mut-4.ensures.value c.index_mut-3.ensures.value c.index_mut-5.ensures.value).well,
  tt,
)

pub returns-clause-swapped : goal.returns-clause-swapped
returns-clause-swapped c =
    rw (← c.self.view_is, c.swap-2.ensures.x_after, c.swap-2.ensures.y_after)
    (swapped_in_columns _ _ c.self.inside.shape c.args.p c.args.q (rw (← c.self.view_is) at c.requires.p_inside) (rw (← c.self.view_is) at c.requires.q_inside) c.replace-column.new.dest c.replace-column.result c.index_mut-4.result.now c.index_mut-3.result.now c.index_mut-5.result.now c.if-p-q.false
    (rw c.replace-column.ensures.value c.index_mut-2.ensures.value) c.index_mut-4.ensures.value c.index_mut-3.ensures.value c.index_mut-5.ensures.value).is
