use Rattle.tabled_settings.proofs.Common.{◌∙◌, ◌≤◌, arith, refl, sym}
use Rattle.tabled_width.proofs.WrapFits.{text-same}
use Rattle.tabled_settings.proofs.width.wrap.WrapAnswers.keeps.Goals as goal

pub returns : goal.returns
returns c = λ yes.
    let some : 1 ≤ c.self.inside.width = omega (arith, c.if-self-eq0.false) in
    (refl, rw (← c.self.view_is) (text-same c.self.inside.width some c.self.inside.keep_words c.args.text.now c.utf8.text (sym c.lines_fit.ensures ∙ yes)))
