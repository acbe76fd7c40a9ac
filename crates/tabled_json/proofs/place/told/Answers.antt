use Rattle.tabled_json.proofs.place.told.Goals as goal

pub returns-in-Faulty-clause-place : goal.returns-in-Faulty-clause-place
returns-in-Faulty-clause-place c = (c.in-Faulty.left, c.line_at-line.ensures, c.column_at-column.ensures)
