use Rattle.tabled_script.proofs.Common.{◌≡◌, Appends, FitsAtEnd, IfSome_then, IsTable, Script, ended, inl, inr, subst}
use Rattle.tabled_script.proofs.Again.{gives_again}
use Rattle.tabled_script.proofs.program.run_script.Goals as goal

pub returns-clause-done : goal.returns-clause-done
returns-clause-done g c = λ is_done. IfSome_then (g.R.Read.remaining c.args.reader.now) (c.run_to_form.ensures.done is_done)
    (λ input shown. (shown.0, shown.1, subst (Appends (g.W.Write.contents c.args.writer.now) (g.W.Write.contents c.run_to_form.new.writer)) shown.2.1 shown.2.2))

pub returns-clause-again : goal.returns-clause-again
returns-clause-again g c = λ is_done. IfSome_then (g.R.Read.remaining c.args.reader.now) (c.run_to_form.ensures.done is_done)
    (λ input shown script read fits.
    let same : shown.0 ≡ script = cc (shown.1, read) in
    gives_again script (subst (λ (s : Script). FitsAtEnd s → IsTable (ended s)) same shown.2.3 fits))

pub returns-clause-faulty : goal.returns-clause-faulty
returns-clause-faulty g c = λ is_faulty. IfSome_then (g.R.Read.remaining c.args.reader.now) (c.run_to_form.ensures.faulty is_faulty)
    (λ input told. elim told [
      | inl fault ↦ fault
      | inr undrawn ↦ absurd undrawn.2
    ])
