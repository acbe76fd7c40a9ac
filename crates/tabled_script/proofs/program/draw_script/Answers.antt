use Rattle.tabled_draw.specs.Picture.{drawn_with}
use Rattle.tabled_draw.specs.declared.alignment.Alignment.{Alignment}
use Rattle.tabled_draw.specs.declared.style.Style.{Style}
use Rattle.tabled_script.proofs.Common.{Appends, IfSome_then, List, ap₂, ended, inl, inr, subst}
use Rattle.tabled_script.proofs.program.draw_script.Goals as goal

pub returns-clause-done : goal.returns-clause-done
returns-clause-done g c = λ is_done. IfSome_then (g.R.Read.remaining c.args.reader.now) (c.run_to_form.ensures.done is_done)
    (λ input shown.
    let Wrote = Appends (g.W.Write.contents c.args.writer.now) (g.W.Write.contents c.run_to_form.new.writer) in
    let end = ended shown.0 in
    (shown.0, shown.1, subst Wrote (ap₂ (λ (style : Style) (list : List Alignment). drawn_with style list end.texts end.spans) c.ascii.ensures c.new.ensures.items) (subst Wrote shown.2.1 shown.2.2)))

pub returns-clause-faulty : goal.returns-clause-faulty
returns-clause-faulty g c = λ is_faulty. IfSome_then (g.R.Read.remaining c.args.reader.now) (c.run_to_form.ensures.faulty is_faulty)
    (λ input told. elim told [
      | inl fault ↦ fault
      | inr undrawn ↦ absurd undrawn.2
    ])
