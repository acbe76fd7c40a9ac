use Rattle.tabled_steps.proofs.Common.{◌∙◌, after_all, ap, sym}
use Rattle.tabled_steps.proofs.AfterSteps.{after_each}
use Rattle.tabled_steps.proofs.laws.stores_end_alike.Goals as goal

pub returns : goal.returns
returns g c = record {
  alike = λ steps k m h d l n o p first second same.
      after_each g.A.Cell.CellText.text_of g.A.Cell.Blank.is_blank steps k m h d first ∙ ap (after_all steps) same ∙ sym (after_each g.B.Cell.CellText.text_of g.B.Cell.Blank.is_blank steps l n o p second);
}
