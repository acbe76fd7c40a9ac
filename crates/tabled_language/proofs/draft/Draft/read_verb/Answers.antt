use Rattle.tabled_language.proofs.Common.{draft_in, takes}
use Rattle.tabled_language.proofs.ScriptLines.{same_line, says_verb-step, verb_asks-step}
use Rattle.tabled_language.proofs.draft.Draft.read_verb.Goals as goal

pub returns-in_default : goal.returns-in_default
returns-in_default c =
    let old = draft_in c.args.self.now in
    let verb = c.args.verb.now in
    let words = c.args.words in
    same_line old (draft_in c.read_step.new.self) c.args.number c.read_step.result _ _ _ _ (says_verb-step verb words c.in_default.not-shape c.in_default.not-span) (verb_asks-step (takes old) verb words c.in_default.not-shape c.in_default.not-span) c.read_step.ensures
