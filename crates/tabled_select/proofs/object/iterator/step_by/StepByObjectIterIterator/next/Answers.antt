use Rattle.tabled_select.proofs.Stepped.{hops-progress}
use Rattle.tabled_select.proofs.object.iterator.step_by.StepByObjectIterIterator.next.Goals as goal

pub returns-in-Some-clause-goes : goal.returns-in-Some-clause-goes
returns-in-Some-clause-goes g c =
    let progress = rw c.replace-ahead.ensures.value at c.nth.ensures.progress in
    rw (← c.self.view_is, c.replace-ahead.ensures.after) (hops-progress g.I.Iterator.can_next g.I.Iterator.remaining (record { source = c.self.inside.entities; ahead = c.self.inside.ahead; gap = c.self.inside.gap }) c.in-Some.entities c.nth.new.self c.nth.result c.in-Some.is progress c.nth.ensures.keeps c.nth.ensures.stays_finite)
