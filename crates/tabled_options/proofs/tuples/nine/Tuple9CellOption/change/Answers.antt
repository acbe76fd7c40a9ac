use Rattle.tabled_options.proofs.tuples.nine.Tuple9CellOption.change.Goals as goal

pub returns-clause-ok : goal.returns-clause-ok
returns-clause-ok g c = rw c.new.ensures at c.change.ensures.ok

pub returns-clause-err : goal.returns-clause-err
returns-clause-err g c = rw c.new.ensures at c.change.ensures.err

pub returns-clause-promised : goal.returns-clause-promised
returns-clause-promised g c = rw c.new.ensures at c.change.ensures.promised
