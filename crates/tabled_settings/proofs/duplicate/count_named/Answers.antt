use Rattle.tabled_settings.proofs.Duplicated.{most-Cell, most-Column, most-Global, most-Row}
use Rattle.tabled_settings.proofs.duplicate.count_named.Goals as goal

pub returns-in-Global : goal.returns-in-Global
returns-in-Global c = rw c.in-Global.is (most-Global c.args.rows c.args.columns)

pub returns-in-Column : goal.returns-in-Column
returns-in-Column c = rw c.in-Column.is (most-Column c.in-Column.field-0 c.args.rows c.args.columns)

pub returns-in-Row : goal.returns-in-Row
returns-in-Row c = rw c.in-Row.is (most-Row c.in-Row.field-0 c.args.rows c.args.columns)

pub returns-in-Cell : goal.returns-in-Cell
returns-in-Cell c = rw c.in-Cell.is (most-Cell c.in-Cell.field-0 c.in-Cell.field-1 c.args.rows c.args.columns)
