use Rattle.tabled_texts.specs.Texts.{rows_of}
use Rattle.tabled_language.specs.Parsing.{cell_texts}
use Rattle.tabled_language.specs.Script.{parse_between}
use Rattle.tabled_script.proofs.Common.{◌∙◌, IfSome_then, subst}
use Rattle.tabled_script.proofs.Outcomes.{ends_known, ends_out_of_memory, read-alone, run_done, run_faulty}
use Rattle.tabled_script.specs.Outcome.{Comes}
use Rattle.tabled_script.specs.declared.form.Form.{Form}
use Rattle.tabled_script.proofs.program.run_to_form.Goals as goal

pub returns-in-Ok-clause-known : goal.returns-in-Ok-clause-known
returns-in-Ok-clause-known g c =
    let contents = g.W.Write.contents in
    ends_known (contents c.args.writer.now) (contents c.run_between-outcome.new.writer) (contents c.write_end.new.writer) c.write_end.result c.run_between-outcome.result c.write_end.ensures

pub returns-in-Ok-clause-done : goal.returns-in-Ok-clause-done
returns-in-Ok-clause-done g c = λ is_done. IfSome_then (g.R.Read.remaining c.args.reader.now) c.in-Ok.ensures
    (λ input is.
    let contents = g.W.Write.contents in
    let read = parse_between (rows_of c.new-rows.result.items) c.deref.result.now (cell_texts c.new-request.result.steps.items) in
    run_done c.args.form read input (contents c.args.writer.now) (contents c.run_between-outcome.new.writer) (contents c.write_end.new.writer) c.write_end.result c.run_between-outcome.result
    (read-alone c.new-rows.result.items c.new-request.result.steps.items c.deref.result.now input c.new-rows.ensures.items c.new-request.ensures.steps (c.deref.ensures.value ∙ is))
    (subst (λ (how : Form). Comes how read (contents c.args.writer.now) (contents c.run_between-outcome.new.writer) c.run_between-outcome.result) c.new-request.ensures.form c.run_between-outcome.ensures)
    c.write_end.ensures is_done)

pub returns-in-Ok-clause-faulty : goal.returns-in-Ok-clause-faulty
returns-in-Ok-clause-faulty g c = λ is_faulty. IfSome_then (g.R.Read.remaining c.args.reader.now) c.in-Ok.ensures
    (λ input is.
    let contents = g.W.Write.contents in
    let read = parse_between (rows_of c.new-rows.result.items) c.deref.result.now (cell_texts c.new-request.result.steps.items) in
    run_faulty c.args.form read input (contents c.args.writer.now) (contents c.run_between-outcome.new.writer) (contents c.write_end.new.writer) c.write_end.result c.run_between-outcome.result
    (read-alone c.new-rows.result.items c.new-request.result.steps.items c.deref.result.now input c.new-rows.ensures.items c.new-request.ensures.steps (c.deref.ensures.value ∙ is))
    (subst (λ (how : Form). Comes how read (contents c.args.writer.now) (contents c.run_between-outcome.new.writer) c.run_between-outcome.result) c.new-request.ensures.form c.run_between-outcome.ensures)
    c.write_end.ensures is_faulty)

pub returns-in-Ok-clause-memory : goal.returns-in-Ok-clause-memory
returns-in-Ok-clause-memory g c =
    let contents = g.W.Write.contents in
    let read = parse_between (rows_of c.new-rows.result.items) c.deref.result.now (cell_texts c.new-request.result.steps.items) in
    ends_out_of_memory (contents c.args.writer.now) (contents c.run_between-outcome.new.writer) (contents c.write_end.new.writer) c.write_end.result c.new-request.result.form read c.run_between-outcome.result c.run_between-outcome.ensures c.write_end.ensures
