use Rattle.tabled_language.proofs.Common.{◌∙◌, ◌≡◌, ap, ended_lines, eqb, false, lines_of, rules, sym, true}
use Rattle.tabled_language.proofs.EndedLines.{ended-newline, ended-other}
use Rattle.tabled_language.proofs.origin.until_last_newline.Goals as goal

pub returns-then-last-eq10 : goal.returns-then-last-eq10
returns-then-last-eq10 c =
    let last : eqb c.in_ok-last.last.now 10 ≡ true = search rules in
    sym (ap ended_lines c.in_ok-last.ensures.cases.0 ∙ ended-newline c.in_ok-last.lines.now c.in_ok-last.last.now last)

pub returns : goal.returns
returns c =
    let last : eqb c.in_ok-last.last.now 10 ≡ false = search rules in
    let all = c.in_ok-last.ensures.cases.0 in
    sym (ap ended_lines all ∙ ended-other c.in_ok-last.lines.now c.in_ok-last.last.now last ∙ ap lines_of (sym all))
