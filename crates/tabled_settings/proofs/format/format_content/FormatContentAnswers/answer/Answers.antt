use Rattle.tabled_settings.proofs.Common.{◌≡◌, AnswersContent, Asked, AskedByLine, IfOk-weaker, String, refl, string_bytes, true}
use Rattle.std.specs.Global.{Global}
use Rattle.tabled_settings.proofs.Results.{if_ok}
use Rattle.tabled_settings.proofs.format.format_content.FormatContentAnswers.answer.Goals as goal

pub returns-in_ok-copy-clause-asks : goal.returns-in_ok-copy-clause-asks
returns-in_ok-copy-clause-asks g c =
    let asked = Asked (goal.F-step g) in
    let by_lines : c.args.self.now.1 ≡ true = rw (← c.self.view_is) c.if-self.true in
    let copied = c.requires.can.1 by_lines c.in_ok-copy.copy (rw (← c.self.view_is) c.in_ok-copy.ensures.cases) in
    let answers = λ (new : String Global). AskedByLine asked c.in_ok-copy.copy c.args.text.now (string_bytes new) in
    let asks = λ (new : String Global). AnswersContent asked c.args.self.now c.args._pos c.args.text.now (string_bytes new) c.args.self.now in
    IfOk-weaker _ answers asks (λ new e. (refl, rw by_lines (rw copied at e, refl))) c.by_line.ensures

pub returns-else-self-clause-asks : goal.returns-else-self-clause-asks
returns-else-self-clause-asks g c =
    let asks = λ (new : String Global). AnswersContent (Asked (goal.F-step g)) c.args.self.now c.args._pos c.args.text.now (string_bytes new) (c.call_mut.new.self, c.self.inside.multiline) in
    if_ok _ {P = asks} (λ new e. (rw (← c.self.view_is) refl, rw (← c.self.view_is, c.if-self.false) (c.args.alloc, c.args.text, new, refl, rw (← e) c.call_mut.ensures, refl)))
