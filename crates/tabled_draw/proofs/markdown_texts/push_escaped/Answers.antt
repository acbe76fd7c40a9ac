use Rattle.tabled_draw.proofs.Common.{arith, sym, ◌∙◌}
use Rattle.tabled_draw.proofs.Escapes.{appended-if-ok, both-appended, escape-ampersand, escape-break, escape-less, escape-mark, escape-number, escape-plain, number-appended}
use Rattle.tabled_draw.proofs.markdown_texts.push_escaped.Goals as goal

pub returns-then-c-eq10 : goal.returns-then-c-eq10
returns-then-c-eq10 c = appended-if-ok c.push_str.result _ _ _ _ c.push_str.ensures.bytes (escape-break c.args.before c.args.c c.args.after c.if-c-eq10.true)

pub returns-then-c-eq38 : goal.returns-then-c-eq38
returns-then-c-eq38 c = appended-if-ok c.push_str-then-c-eq38.result _ _ _ _ c.push_str-then-c-eq38.ensures.bytes (escape-ampersand c.args.before c.args.c c.args.after c.if-c-eq38.true)

pub returns-then-c-eq60 : goal.returns-then-c-eq60
returns-then-c-eq60 c = appended-if-ok c.push_str-then-c-eq60.result _ _ _ _ c.push_str-then-c-eq60.ensures.bytes (escape-less c.args.before c.args.c c.args.after c.if-c-eq60.true)

pub returns-then-is_numbered : goal.returns-then-is_numbered
returns-then-is_numbered c = number-appended c.push_number.result _ _ _ _ (escape-number c.args.before c.args.c c.args.after c.if-c-eq10.false c.if-c-eq38.false c.if-c-eq60.false (sym c.is_numbered.ensures ∙ c.if-is_numbered.true) (omega arith)) c.push_number.ensures

pub returns-in_ok-push : goal.returns-in_ok-push
returns-in_ok-push c = both-appended c.push-then-is_markup.result _ _ _ _ _ _ c.in_ok-push.ensures.bytes c.push-then-is_markup.ensures.bytes (escape-mark c.args.before c.args.c c.args.after c.if-c-eq10.false c.if-c-eq38.false c.if-c-eq60.false (sym c.is_numbered.ensures ∙ c.if-is_numbered.false) (sym c.is_markup.ensures ∙ c.if-is_markup.true))

pub returns-else-is_markup : goal.returns-else-is_markup
returns-else-is_markup c = appended-if-ok c.push-else-is_markup.result _ _ _ _ c.push-else-is_markup.ensures.bytes (escape-plain c.args.before c.args.c c.args.after c.if-c-eq10.false c.if-c-eq38.false c.if-c-eq60.false (sym c.is_numbered.ensures ∙ c.if-is_numbered.false) (sym c.is_markup.ensures ∙ c.if-is_markup.false))
