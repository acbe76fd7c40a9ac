use Rattle.tabled_language.proofs.Common.{◌≡◌, ◌≢◌, Some, draft_in, length, line_of_own_words, meaning_of, rules, says_line, takes, words_of}
use Rattle.tabled_language.proofs.PlainLines.{plain_line, texts_of-plain}
use Rattle.tabled_language.proofs.ScriptLines.{line_asks-plain, line_of-texts, same_line}
use Rattle.tabled_language.proofs.draft.Draft.read_plain.Goals as goal

pub read_words-requires : goal.read_words-requires
read_words-requires c = line_of_own_words c.args.line.now c.requires.no_newline c.requires.no_escape

pub returns : goal.returns
returns c =
    let line = c.args.line.now in
    let some : length line ≢ 0 = search rules in
    let said : says_line line ≡ meaning_of (Some (words_of line)) = line_of-texts line (words_of line) some (texts_of-plain line c.utf8.line c.requires.no_escape) in
    let asks = line_asks-plain (takes (draft_in c.args.self.now)) line (plain_line line c.utf8.line c.requires.no_escape) in
    same_line (draft_in c.args.self.now) (draft_in c.read_words.new.self) c.args.number c.read_words.result _ _ _ _ said asks c.read_words.ensures
