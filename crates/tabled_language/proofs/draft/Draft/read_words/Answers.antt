use Rattle.tabled_language.proofs.Common.{◌∙◌, ◌∷◌, ◌≡◌, ap, draft_in, sym, takes, words_of}
use Rattle.tabled_language.proofs.ScriptLines.{meaning_of-verb, same_line, words_ask-verb}
use Rattle.tabled_language.proofs.draft.Draft.read_words.Goals as goal

pub returns-in-Some : goal.returns-in-Some
returns-in-Some c =
    let verb = c.in-Some.verb.now in
    let first : words_of c.args.line.now ≡ verb ∷ c.next.new.self = sym c.new-words.ensures ∙ c.in-Some.ensures.steps in
    let is : words_of c.args.line.now ≡ verb ∷ c.of_line.result = first ∙ ap (λ words. verb ∷ words) (sym c.of_line.ensures) in
    same_line (draft_in c.args.self.now) (draft_in c.read_verb.new.self) c.args.number c.read_verb.result _ _ _ _ (meaning_of-verb (words_of c.args.line.now) verb c.of_line.result is c.in-Some.not-row) (words_ask-verb (takes (draft_in c.args.self.now)) (words_of c.args.line.now) verb c.of_line.result is c.in-Some.not-row) c.read_verb.ensures
