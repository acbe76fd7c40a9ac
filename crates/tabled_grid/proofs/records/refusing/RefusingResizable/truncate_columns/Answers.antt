use Rattle.tabled_grid.proofs.Common.{◌-◌, ◌∙◌, Columns, arith, refl}
use Rattle.tabled_grid.proofs.FirstLines.{first_all, first_step}
use Rattle.tabled_grid.proofs.records.refusing.RefusingResizable.truncate_columns.Goals as goal

pub loop-left-init : goal.loop-left-init
loop-left-init g c =
    let s = c.args.self.now.store in
    let count = c.count_columns-left.ensures.columns in
    record {
      well = c.requires.well;
      low = omega (arith, count, c.requires.within);
      is = first_all Columns _ (g.S.GridStore.grid s) count (g.S.GridStore.even s c.requires.well) (g.met.S.Resizable.rowless s c.requires.well);
      high = omega (arith, count);
      growth = refl;
      set = refl;
    }

pub loop-left-preserved : goal.loop-left-preserved
loop-left-preserved g c =
    let i = c.loop-left.invariant in
    record {
      well = c.remove_column.ensures.well;
      low = omega arith;
      is = first_step Columns c.loop-left.left (c.loop-left.left - 1) (g.S.GridStore.grid c.loop-left.self.store) (g.S.GridStore.grid c.remove_column.new.self.store) (g.S.GridStore.grid c.args.self.now.store) i.is c.remove_column.ensures.removed (omega arith);
      high = omega (arith, i.high);
      growth = c.remove_column.ensures.growth ∙ i.growth;
      set = c.remove_column.ensures.set ∙ i.set;
    }
