use Rattle.tabled_select.proofs.MarkedPlaces.{marks-none}
use Rattle.tabled_select.proofs.object.marked.Marked.new.Goals as goal

pub returns : goal.returns
returns c = λ entities. rw (c.in_ok-marks.ensures.items_if_clones_equal (λ y e. e)) (marks-none c.args.rows c.args.columns c.args.size c.requires entities)
