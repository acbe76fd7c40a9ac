use Rattle.tabled_select.proofs.MarkedPlaces.{sets-mark}
use Rattle.tabled_select.proofs.object.marked.Marked.insert.Goals as goal

pub returns-clause-set : goal.returns-clause-set
returns-clause-set c = sets-mark c.args.self.now.columns c.args.self.now.marks.items c.args.pos c.index_of-index.result c.index_of-index.ensures.inside c.index_of-index.ensures.place
