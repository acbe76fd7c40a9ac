use Rattle.tabled_grid.proofs.Places.{inside-block, named-in}
use Rattle.tabled_grid.proofs.config.entity.Entity.block.Goals as goal

pub returns-clause-cells : goal.returns-clause-cells
returns-clause-cells c = rw (c.lines_named-top.ensures, c.lines_named-left.ensures, c.indexes-row.ensures) (inside-block c.args.self c.args.rows c.args.columns)

pub returns-clause-named : goal.returns-clause-named
returns-clause-named c = rw (c.lines_named-top.ensures, c.lines_named-left.ensures, c.indexes-row.ensures) (named-in c.args.self c.args.rows c.args.columns)
