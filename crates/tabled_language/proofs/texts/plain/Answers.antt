use Rattle.tabled_language.proofs.Common.{◌≡◌, and_right, eqb, false, list_any, refl, rules, true}
use Rattle.std.specs.Str.{is_utf8}
use Rattle.tabled_language.proofs.PlainLines.{not_plain}
use Rattle.tabled_language.proofs.texts.plain.Goals as goal

pub returns-then-contains : goal.returns-then-contains
returns-then-contains c =
    let has : list_any (λ b. eqb b 92) c.args.bytes.now ≡ true = search rules in
    rw has (and_right (is_utf8 c.args.bytes.now) false refl)

pub returns-in-Ok : goal.returns-in-Ok
returns-in-Ok c =
    let clean : list_any (λ b. eqb b 92) c.args.bytes.now ≡ false = search rules in
    let text = rw c.in-Ok.is at c.from_utf8.ensures.cases in
    (text.0, rw text.0 clean)

pub returns-in-Err : goal.returns-in-Err
returns-in-Err c = (let none = (rw c.in-Err.is at c.from_utf8.ensures.cases) in not_plain c.args.bytes.now none.0)
