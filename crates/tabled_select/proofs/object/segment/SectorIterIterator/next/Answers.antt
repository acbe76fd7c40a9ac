use Rattle.tabled_select.proofs.Common.{ap, length, rules}
use Rattle.tabled_select.proofs.Walks.{sector-next, sector-next_row}
use Rattle.tabled_select.proofs.object.segment.SectorIterIterator.next.Goals as goal

pub returns-then-self-2-clause-steps : goal.returns-then-self-2-clause-steps
returns-then-self-2-clause-steps c =
    let within = c.self.invariant c.if-self.false in
    rw (← c.self.view_is) (sector-next_row _ c.if-self.false within.0 c.if-self-2.true)

pub returns-else-self-2-clause-steps : goal.returns-else-self-2-clause-steps
returns-else-self-2-clause-steps c =
    let within = c.self.invariant c.if-self.false in
    rw (← c.self.view_is) (sector-next _ c.if-self.false within.0 within.1)

pub returns-then-self-2-clause-goes : goal.returns-then-self-2-clause-goes
returns-then-self-2-clause-goes c =
    let shorter = ap length (returns-then-self-2-clause-steps c) in search rules

pub returns-else-self-2-clause-goes : goal.returns-else-self-2-clause-goes
returns-else-self-2-clause-goes c =
    let shorter = ap length (returns-else-self-2-clause-steps c) in search rules
