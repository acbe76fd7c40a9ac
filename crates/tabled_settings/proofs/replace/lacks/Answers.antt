use Rattle.std.proofs.Common.{◌∙◌, sym}
use Rattle.std.proofs.lemmas.Bool.{eqb-true}
use Rattle.tabled_settings.proofs.Parted.{not-empty, replaced-empty, replaced-lacking}
use Rattle.tabled_settings.proofs.replace.lacks.Goals as goal

pub returns-then-is_empty : goal.returns-then-is_empty
returns-then-is_empty c = λ yes to. replaced-empty c.args.part.now to c.args.text.now (eqb-true _ 0 (sym c.is_empty.ensures ∙ c.if-is_empty.true))

pub returns : goal.returns
returns c = λ yes to. replaced-lacking c.args.part.now to c.args.text.now c.contains.result (not-empty c.args.part.now (sym c.is_empty.ensures ∙ c.if-is_empty.false)) c.contains.ensures.cases yes
