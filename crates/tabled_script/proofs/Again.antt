-- What is written is read and written again.
use Rattle.tabled_script.proofs.Common.{◌∙◌, GivesAgain, IsTable, ReadsBack, Script, ap, changed, ended, print, start}
use Rattle.tabled_language.proofs.RoundTrip.{reads_back}

given : (script : Script) → ReadsBack (ended script) → GivesAgain script
given script back = record { again = back.script; read = back.read; same = ap print (ap (λ steps. changed steps (start back.script)) back.steps ∙ back.starts) }

-- the law
pub gives_again : (script : Script) → IsTable (ended script) → GivesAgain script
gives_again script h = given script (reads_back (ended script) h)
