use Rattle.tabled_language.proofs.LastBefore.{below_when_before, none_between}
use Rattle.tabled_language.proofs.walk.last_before.Goals as goal

pub returns-in-Some : goal.returns-in-Some
returns-in-Some c =
    let lies = c.range.ensures.in_range tt in
    let column = c.in-Some.field-0-0.now in
    let entry = lies.3 (column, c.in-Some.anchor.now) c.next_back.new.self c.in-Some.ensures.steps in
    (column, below_when_before column c.args.column entry.0.1, entry.1, none_between c.args.reaching.now c.args.column c.range.result c.next_back.new.self (column, c.in-Some.anchor.now) lies c.in-Some.ensures.steps)
