use Rattle.tabled_grid.proofs.Common.{◌-◌, Columns, arith}
use Rattle.tabled_grid.proofs.FirstLines.{first_all, first_step}
use Rattle.tabled_grid.proofs.records.resizable.Resizable.truncate_columns.Goals as goal

pub loop-left-init : goal.loop-left-init
loop-left-init g c =
    let s = c.args.self.now in
    let count = c.count_columns-left.ensures.columns in
    record {
      well = c.requires.well;
      low = omega (arith, count, c.requires.within);
      is = first_all Columns _ (g.Self.GridStore.grid s) count (g.Self.GridStore.even s c.requires.well) (g.met.Self.Resizable.rowless s c.requires.well);
      high = omega (arith, count);
    }

pub loop-left-preserved : goal.loop-left-preserved
loop-left-preserved g c =
    let i = c.loop-left.invariant in
    record {
      well = c.remove_column.ensures.well;
      low = omega arith;
      is = first_step Columns c.loop-left.left (c.loop-left.left - 1) (g.Self.GridStore.grid c.loop-left.self) (g.Self.GridStore.grid c.remove_column.new.self) (g.Self.GridStore.grid c.args.self.now) i.is c.remove_column.ensures.removed (omega arith);
      high = omega (arith, i.high);
    }
