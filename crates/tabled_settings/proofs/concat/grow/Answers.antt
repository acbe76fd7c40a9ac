use Rattle.tabled_settings.proofs.Common.{arith}
use Rattle.tabled_settings.proofs.Joins.{grown_to}
use Rattle.tabled_settings.proofs.concat.grow.Goals as goal

pub returns-clause-ok : goal.returns-clause-ok
returns-clause-ok g c =
    grown_to _ c.args.size _ _ _ _ _ (g.R.GridStore.even _ c.requires.well) (omega (arith, c.requires.taller, c.shape_of-old.ensures.rows)) (omega (arith, c.requires.wider, c.shape_of-old.ensures.columns))
    c.requires.rowless c.in_ok-push_rows.ensures.ok (rw c.in_default.is at c.push_columns.ensures.ok)
