use Rattle.tabled_grid.proofs.Common.{refl}
use Rattle.tabled_grid.proofs.FlatPieces.{rows_divided}
use Rattle.tabled_grid.proofs.records.vec_records.VecRecords.divide_rows.Goals as goal

pub returns : goal.returns
returns g c =
    rw (← c.self.view_is)
    (rows_divided _ _ c.args.index c.self.inside.cells.items c.self.inside.full (rw (← c.self.view_is) at c.requires.some) c.requires.index (rw (← c.self.view_is) at c.requires.narrow) (rw (← c.self.view_is) at c.requires.whole) g.T.Blank.is_blank _ refl)
