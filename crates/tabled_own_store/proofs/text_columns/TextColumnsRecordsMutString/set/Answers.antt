use Rattle.std.proofs.Common.{refl}
use Rattle.tabled_grid.proofs.OwnStore.{texts_written}
use Rattle.tabled_own_store.proofs.ColumnStore.{cell_written, column_holds}
use Rattle.tabled_own_store.proofs.text_columns.TextColumnsRecordsMutString.set.Goals as goal

pub index_mut-requires : goal.index_mut-requires
index_mut-requires c = column_holds _ _ c.self.inside.shape c.args.pos _ (rw (← c.self.view_is) at c.requires.inside) c.index_mut-column.ensures.value

pub invariant_of-self-inside : goal.invariant_of-self-inside
invariant_of-self-inside c =
    ((cell_written _ _ c.self.inside.shape c.args.pos _ (rw (← c.self.view_is) at c.requires.inside) c.index_mut-column.ensures.value c.args.text).well, tt)

pub returns-clause-ok : goal.returns-clause-ok
returns-clause-ok c = record {
  cell = c.args.text;
  has = refl;
  is = rw (← c.self.view_is) (cell_written _ _ c.self.inside.shape c.args.pos _ (rw (← c.self.view_is) at c.requires.inside) c.index_mut-column.ensures.value c.args.text).is;
}

pub returns-clause-texts : goal.returns-clause-texts
returns-clause-texts c = texts_written _ _ _ _ _ (returns-clause-ok c)
