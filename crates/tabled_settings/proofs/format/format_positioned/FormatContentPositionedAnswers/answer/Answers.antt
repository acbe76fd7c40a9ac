use Rattle.tabled_settings.proofs.Common.{AskedAt, String, refl, string_bytes}
use Rattle.std.specs.Global.{Global}
use Rattle.tabled_settings.proofs.Results.{if_ok}
use Rattle.tabled_settings.proofs.format.format_positioned.FormatContentPositionedAnswers.answer.Goals as goal

pub returns-clause-asks : goal.returns-clause-asks
returns-clause-asks g c =
    let asks = λ (new : String Global). AskedAt (goal.F-step g) c.args.self.now c.args.pos c.args.text.now (string_bytes new) c.call_mut.new.self in
    if_ok _ {P = asks} (λ new e. (c.args.alloc, c.args.text, new, refl, rw (← c.self.view_is, ← e) c.call_mut.ensures, refl))
