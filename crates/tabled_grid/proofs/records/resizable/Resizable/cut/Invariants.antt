use Rattle.tabled_grid.proofs.Common.{◌*◌, ◌+◌, ◌-◌, ◌≤◌}
use Rattle.tabled_grid.proofs.Cutting.{MovesGrown, Sizes}
use Rattle.tabled_grid.proofs.records.resizable.Resizable.cut.Given as goal

abbrev pub invariant-loop-cell : goal.invariant-loop-cell
invariant-loop-cell g l =
    let grid = g.Self.GridStore.grid in
    record {
      sizes : Sizes l.lines l.index l.count l.width l.pieces l.all l.wide (grid l.fn.self);
      well : g.Self.GridStore.is_well_formed l.self;
      grown : MovesGrown g.Self.Cell.Blank.is_blank l.lines l.order l.index l.count l.pieces (l.wide - l.width) (l.all - l.count) (l.target + 1) l.cell (grid l.fn.self) (grid l.self);
    }

abbrev pub invariant-loop-target : goal.invariant-loop-target
invariant-loop-target g l =
    let grid = g.Self.GridStore.grid in
    record {
      sizes : Sizes l.lines l.index l.count l.width l.pieces l.all l.wide (grid l.fn.self);
      well : g.Self.GridStore.is_well_formed l.self;
      within : l.target ≤ l.count * l.pieces;
      grown : MovesGrown g.Self.Cell.Blank.is_blank l.lines l.order l.index l.count l.pieces (l.wide - l.width) (l.all - l.count) l.target 0 (grid l.fn.self) (grid l.self);
    }

abbrev pub decreases-loop-target : goal.decreases-loop-target
decreases-loop-target g l = l.target
