use Rattle.tabled_language.proofs.Common.{◌≡◌, List, [], rules, texts_in_records, ℕ}
use Rattle.tabled_language.proofs.ScriptChecks.{alone-end, alone-script, alone-step_lines}
use Rattle.tabled_language.proofs.script.parse.Goals as goal

pub returns-clause-script : goal.returns-clause-script
returns-clause-script c =
    let no_rows : ◌≡◌ {A = List (List (List ℕ))} (texts_in_records c.new.result.items) [] = search rules in
    let no_words : ◌≡◌ {A = List (List (List ℕ))} (texts_in_records c.new-2.result.items) [] = search rules in
    alone-script c.parse_between.result (texts_in_records c.new.result.items) (texts_in_records c.new-2.result.items) c.args.input.now no_rows no_words c.parse_between.ensures.script

pub returns-clause-step_lines : goal.returns-clause-step_lines
returns-clause-step_lines c =
    let no_rows : ◌≡◌ {A = List (List (List ℕ))} (texts_in_records c.new.result.items) [] = search rules in
    let no_words : ◌≡◌ {A = List (List (List ℕ))} (texts_in_records c.new-2.result.items) [] = search rules in
    alone-step_lines c.parse_between.result (texts_in_records c.new.result.items) (texts_in_records c.new-2.result.items) c.args.input.now no_rows no_words c.parse_between.ensures.step_lines

pub returns-clause-error : goal.returns-clause-error
returns-clause-error c =
    let no_rows : ◌≡◌ {A = List (List (List ℕ))} (texts_in_records c.new.result.items) [] = search rules in
    let no_words : ◌≡◌ {A = List (List (List ℕ))} (texts_in_records c.new-2.result.items) [] = search rules in
    alone-end c.parse_between.result (texts_in_records c.new.result.items) (texts_in_records c.new-2.result.items) c.args.input.now no_rows no_words c.parse_between.ensures.error
