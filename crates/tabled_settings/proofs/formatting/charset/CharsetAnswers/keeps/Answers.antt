use Rattle.tabled_settings.proofs.Common.{◌∙◌, refl, sym}
use Rattle.tabled_settings.proofs.Replacing.{recoded-same}
use Rattle.tabled_settings.proofs.formatting.charset.CharsetAnswers.keeps.Goals as goal

pub returns : goal.returns
returns c = λ yes.
    let plain = rw c.as_bytes.ensures.value at (sym c.is_plain.ensures ∙ yes) in
    (refl, recoded-same c.args.self.now c.args.text.now (rw (← c.self.view_is) plain))
