use Rattle.tabled_select.proofs.Common.{ap, arith, length, rules}
use Rattle.tabled_select.proofs.Walks.{frame-jump, frame-next, frame-next_row, frame-no_columns, frame-past}
use Rattle.tabled_select.proofs.object.frame.FrameIterIterator.next.Goals as goal

pub returns-then-self-clause-steps : goal.returns-then-self-clause-steps
returns-then-self-clause-steps c = elim c.then-self.branch [
  | goal.then-self-via-then-self w ↦ let none = frame-past c.self.view_is w.if-self.true in (none, none)
  | goal.then-self-via-else-self+then-self-eq0 w ↦ let none = frame-no_columns c.self.view_is w.if-self-eq0.true in (none, none)
]

pub returns-then-self-last_col-clause-steps : goal.returns-then-self-last_col-clause-steps
returns-then-self-last_col-clause-steps c =
    let stands = c.self.invariant c.if-self.false (omega arith) in
    rw (← c.self.view_is) (frame-next_row _ c.if-self.false (omega arith) stands.1)

pub returns-then-self-last_col-clause-goes : goal.returns-then-self-last_col-clause-goes
returns-then-self-last_col-clause-goes c =
    let shorter = ap length (returns-then-self-last_col-clause-steps c) in search rules

pub returns-then-self-2-clause-steps : goal.returns-then-self-2-clause-steps
returns-then-self-2-clause-steps c =
    let stands = c.self.invariant c.if-self.false (omega arith) in
    rw (← c.self.view_is) (frame-jump _ c.if-self-gt0.true (omega arith) (omega arith) stands.1)

pub returns-then-self-2-clause-goes : goal.returns-then-self-2-clause-goes
returns-then-self-2-clause-goes c =
    let shorter = ap length (returns-then-self-2-clause-steps c) in search rules

pub returns-else-self-gt0-clause-steps : goal.returns-else-self-gt0-clause-steps
returns-else-self-gt0-clause-steps c =
    let stands = c.self.invariant c.if-self.false (omega arith) in
    rw (← c.self.view_is) (frame-next _ c.if-self.false stands.0 stands.1)

pub returns-else-self-gt0-clause-goes : goal.returns-else-self-gt0-clause-goes
returns-else-self-gt0-clause-goes c =
    let shorter = ap length (returns-else-self-gt0-clause-steps c) in search rules
