use Rattle.tabled_grid.proofs.Common.{arith, common_steps}
use Rattle.tabled_grid.proofs.Through.{blank_chunks}
use Rattle.tabled_grid.proofs.records.vec_records.gather.VecRecordsExchange.of_blanks.Goals as goal

pub returns-clause-blanks : goal.returns-clause-blanks
returns-clause-blanks g c = blank_chunks g.T.Blank.is_blank c.args.rows c.args.columns c.in_ok-blanks.field-0.items (grind (arith, common_steps)) c.in_ok-blanks.ensures.blank
