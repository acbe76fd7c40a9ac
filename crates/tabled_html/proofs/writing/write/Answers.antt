use Rattle.tabled_html.proofs.writing.write.Goals as goal

pub returns-clause-shows : goal.returns-clause-shows
returns-clause-shows g c = rw c.new-page.ensures at c.write_with.ensures.shows

pub returns-clause-failed : goal.returns-clause-failed
returns-clause-failed g c = rw c.new-page.ensures at c.write_with.ensures.failed
