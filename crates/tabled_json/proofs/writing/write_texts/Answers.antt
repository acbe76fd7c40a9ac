use Rattle.std.proofs.Common.{rules}
use Rattle.std.specs.Io.KnownBytes.{Appends}
use Rattle.tabled_json.proofs.Common.{◌∙◌, ap, err_from_is_err_and, subst}
use Rattle.tabled_json.proofs.Parts.{unfailed-any}
use Rattle.tabled_json.specs.Writing.{json_of}
use Rattle.tabled_held.proofs.Pens.{all-written, some-written}
use Rattle.tabled_held.specs.Sent.{IsCutShort, Kept}
use Rattle.tabled_json.proofs.writing.write_texts.Goals as goal

pub returns-in-Ok-clause-written : goal.returns-in-Ok-clause-written
returns-in-Ok-clause-written g c =
    let contents = g.W.Write.contents in
    let writer = c.finish-written.result.0 in
    let name = c.finish-written.ensures.same_writer ∙ c.write_rows.ensures.same_writer ∙ c.new-pen.ensures.same_writer in
    let none = ap (λ (held : Kept). held.bytes) c.new-pen.ensures.held ∙ c.in_ok-held.ensures.empty in
    let all = rw c.in-Ok.is at (all-written c.finish-written.result.1 none c.write_rows.ensures c.finish-written.ensures) in
    let bytes = subst (λ w. Appends (contents w) (contents writer.now) (json_of c.args.layout c.args.values (g.R.Rows.texts c.args.rows.now))) c.new-pen.ensures.unchanged all in
    search rules

pub returns-in-Err-clause-failed : goal.returns-in-Err-clause-failed
returns-in-Err-clause-failed g c =
    let contents = g.W.Write.contents in
    let writer = c.finish-written.result.0 in
    let name = c.finish-written.ensures.same_writer ∙ c.write_rows.ensures.same_writer ∙ c.new-pen.ensures.same_writer in
    let none = ap (λ (held : Kept). held.bytes) c.new-pen.ensures.held ∙ c.in_ok-held.ensures.empty in
    let works = ap (λ (held : Kept). held.failure) c.new-pen.ensures.held ∙ c.in_ok-held.ensures.works in
    let some = rw c.in-Err.is at (some-written c.finish-written.result.1 none works c.write_rows.ensures c.finish-written.ensures) in
    let bytes = subst (λ w. IsCutShort (contents w) (contents writer.now) (json_of c.args.layout c.args.values (g.R.Rows.texts c.args.rows.now))) c.new-pen.ensures.unchanged some in
    search rules

pub returns-in_err-check-clause-failed : goal.returns-in_err-check-clause-failed
returns-in_err-check-clause-failed g c =
    let p = err_from_is_err_and c.from_residual.result c.from_residual.ensures.1 in
    rw (p.1, p.2) (unfailed-any c.in_err-check.field-0.0 _ c.in_err-check.ensures.unfailed)
