use Rattle.tabled_texts.specs.Texts.{rows_of}
use Rattle.tabled_language.specs.Parsing.{cell_texts}
use Rattle.tabled_language.specs.Script.{parse_between}
use Rattle.tabled_script.proofs.Common.{◌∙◌, List, inr, subst, sym}
use Rattle.tabled_script.proofs.Outcomes.{is_done, is_faulty}
use Rattle.tabled_script.specs.Inputs.{HasTable}
use Rattle.tabled_script.specs.Status.{IsDone}
use Rattle.tabled_script.specs.declared.request.Source.{Source}
use Rattle.tabled_script.proofs.program.answer.Goals as goal

pub returns-in-Ok-rows_of_sources-clause-done : goal.returns-in-Ok-rows_of_sources-clause-done
returns-in-Ok-rows_of_sources-clause-done g c = λ is.
    let rows = rows_of c.in-Ok-rows_of_sources.rows.items in
    let table = subst (λ (sources : List Source). HasTable sources rows) c.as_slice-sources.ensures.value c.in-Ok-rows_of_sources.ensures in
    let read = parse_between rows c.args.script.now (cell_texts c.args.request.now.steps.items) in
    let shown = is_done c.args.request.now.form read (g.W.Write.contents c.args.writer.now) (g.W.Write.contents c.run_between-outcome.new.writer) c.run_between-outcome.result _ c.run_between-outcome.ensures (subst IsDone c.status_with_notes.ensures is) in
    (rows, table, shown.0, shown.1, shown.2)

pub returns-in-Ok-rows_of_sources-clause-faulty : goal.returns-in-Ok-rows_of_sources-clause-faulty
returns-in-Ok-rows_of_sources-clause-faulty g c = λ is.
    let rows = rows_of c.in-Ok-rows_of_sources.rows.items in
    let table = subst (λ (sources : List Source). HasTable sources rows) c.as_slice-sources.ensures.value c.in-Ok-rows_of_sources.ensures in
    let read = parse_between rows c.args.script.now (cell_texts c.args.request.now.steps.items) in
    let none = is_faulty c.args.request.now.form read (g.W.Write.contents c.args.writer.now) (g.W.Write.contents c.run_between-outcome.new.writer) c.run_between-outcome.result _ c.run_between-outcome.ensures (sym c.status_with_notes.ensures ∙ is) in
    (none.0, inr (inr (rows, table, none.1)))
