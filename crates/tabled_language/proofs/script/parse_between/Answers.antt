use Rattle.tabled_language.proofs.Common.{◌+◌, ◌<◌, ◌^◌, ◌≡◌, arith, draft_in, err_from_is_err_and, length, rules, texts_in_records}
use Rattle.tabled_language.proofs.BetweenLines.{ends_in_bytes, ends_in_words, has_read}
use Rattle.tabled_language.proofs.EndedLines.{few_given_lines}
use Rattle.tabled_language.proofs.GivenLines.{length-records}
use Rattle.tabled_language.proofs.ScriptChecks.{answers_end, answers_script, answers_step_lines}
use Rattle.tabled_language.proofs.script.parse_between.Goals as goal

pub returns-in_err-draft-clause-error : goal.returns-in_err-draft-clause-error
returns-in_err-draft-clause-error c =
    let p = err_from_is_err_and c.from_residual.result c.from_residual.ensures.1 in
    let counted : c.len-before.result ≡ length (texts_in_records c.args.rows.items) = search (rules, length-records) in
    rw (p.1, p.2) (ends_in_bytes (texts_in_records c.args.rows.items) c.args.input.now (texts_in_records c.args.words.items) (draft_in c.of_records-draft.result) c.len-before.result c.of_records-draft.ensures counted c.in_err-draft.field-0.0 c.in_err-draft.ensures)

pub read_each_words-requires : goal.read_each_words-requires
read_each_words-requires c =
    let few : c.len-before.result + c.len.result < 2 ^ 63 = search rules in
    let many : c.len.result ≡ length c.args.words.items = search rules in
    omega (arith, few, many, c.in_ok-draft.ensures.counted, few_given_lines c.args.input.now)

pub returns-in_err-draft-2-clause-error : goal.returns-in_err-draft-2-clause-error
returns-in_err-draft-2-clause-error c =
    let p = err_from_is_err_and c.from_residual-in_err-draft-2.result c.from_residual-in_err-draft-2.ensures.1 in
    let counted : c.len-before.result ≡ length (texts_in_records c.args.rows.items) = search (rules, length-records) in
    rw (p.1, p.2) (ends_in_words (texts_in_records c.args.rows.items) c.args.input.now (texts_in_records c.args.words.items) (draft_in c.of_records-draft.result) c.len-before.result c.of_records-draft.ensures counted c.in_ok-draft.draft c.in_ok-draft.before c.in_ok-draft.ensures c.in_err-draft-2.field-0.0 c.in_err-draft-2.ensures)

pub returns-clause-script : goal.returns-clause-script
returns-clause-script c =
    let counted : c.len-before.result ≡ length (texts_in_records c.args.rows.items) = search (rules, length-records) in
    answers_script c.into_script.result (has_read (texts_in_records c.args.rows.items) c.args.input.now (texts_in_records c.args.words.items) (draft_in c.of_records-draft.result) c.len-before.result c.of_records-draft.ensures counted c.in_ok-draft.draft c.in_ok-draft.before c.in_ok-draft.ensures c.in_ok-draft-2.draft c.in_ok-draft-2.field-0-1 c.in_ok-draft-2.ensures) c.into_script.ensures

pub returns-clause-step_lines : goal.returns-clause-step_lines
returns-clause-step_lines c =
    let counted : c.len-before.result ≡ length (texts_in_records c.args.rows.items) = search (rules, length-records) in
    answers_step_lines c.into_script.result (has_read (texts_in_records c.args.rows.items) c.args.input.now (texts_in_records c.args.words.items) (draft_in c.of_records-draft.result) c.len-before.result c.of_records-draft.ensures counted c.in_ok-draft.draft c.in_ok-draft.before c.in_ok-draft.ensures c.in_ok-draft-2.draft c.in_ok-draft-2.field-0-1 c.in_ok-draft-2.ensures) c.into_script.ensures

pub returns-clause-error : goal.returns-clause-error
returns-clause-error c =
    let counted : c.len-before.result ≡ length (texts_in_records c.args.rows.items) = search (rules, length-records) in
    answers_end c.into_script.result (has_read (texts_in_records c.args.rows.items) c.args.input.now (texts_in_records c.args.words.items) (draft_in c.of_records-draft.result) c.len-before.result c.of_records-draft.ensures counted c.in_ok-draft.draft c.in_ok-draft.before c.in_ok-draft.ensures c.in_ok-draft-2.draft c.in_ok-draft-2.field-0-1 c.in_ok-draft-2.ensures) c.into_script.ensures
