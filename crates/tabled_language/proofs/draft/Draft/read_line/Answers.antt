use Rattle.tabled_language.proofs.Common.{◌≢◌, bytes_of, draft_in, length, map, rules, sym, takes}
use Rattle.tabled_language.proofs.ScriptLines.{asks_anyway, line_asks-texts, line_of-texts, same_line}
use Rattle.tabled_language.proofs.draft.Draft.read_line.Goals as goal

pub read_plain-requires-clause-no_newline : goal.read_plain-requires-clause-no_newline
read_plain-requires-clause-no_newline c = rw c.in-Some.ensures.0 c.requires

pub returns-in-Some : goal.returns-in-Some
returns-in-Some c = rw c.in-Some.ensures.0 at c.read_plain.ensures

pub returns-in-Some-2 : goal.returns-in-Some-2
returns-in-Some-2 c =
    let line = c.args.line.now in
    let some : length line ≢ 0 = search rules in
    let said = line_of-texts line (map bytes_of c.in-Some-2.texts.items) some (sym (rw c.in-Some-2.is at c.in_ok-texts.ensures)) in
    let old = draft_in c.args.self.now in
    let new = draft_in c.read_texts.new.self in
    same_line old new c.args.number c.read_texts.result _ _ _ _ said (line_asks-texts (takes old) line c.in_default.ensures) (asks_anyway old new c.args.number _ _ c.read_texts.result c.read_texts.ensures)
