use Rattle.tabled_language.proofs.Common.{◌∙◌, ◌∷◌, ◌≡◌, ◌≢◌, List, ap, ap₂, bytes_of, draft_in, length, map, rules, sym, takes, ℕ}
use Rattle.tabled_language.proofs.ScriptLines.{first_removed, meaning_of-verb, same_line, words_ask-verb}
use Rattle.tabled_language.proofs.draft.Draft.read_texts.Goals as goal

pub returns-in_default : goal.returns-in_default
returns-in_default c =
    let verb = c.text.result.now in
    let texts = map bytes_of c.args.texts.items in
    let others = map bytes_of c.remove-verb.new.self.items in
    let some : length c.args.texts.items ≢ 0 = search rules in
    let removed = first_removed bytes_of c.args.texts.items c.remove-verb.result some c.remove-verb.ensures.value in
    let first : texts ≡ verb ∷ others = removed ∙ ap₂ (λ (v : List ℕ) (ts : List (List ℕ)). v ∷ ts) (sym c.text.ensures) (ap (map bytes_of) (sym c.remove-verb.ensures.items)) in
    let left : c.of_texts.result ≡ others = search rules in
    let said = meaning_of-verb texts verb c.of_texts.result (first ∙ ap (λ words. verb ∷ words) (sym left)) c.in_default.not-row in
    let old = draft_in c.args.self.now in
    same_line old (draft_in c.read_verb.new.self) c.args.number c.read_verb.result _ _ _ _ said (words_ask-verb (takes old) texts verb c.of_texts.result (first ∙ ap (λ words. verb ∷ words) (sym left)) c.in_default.not-row) c.read_verb.ensures
