use Rattle.std.proofs.Common.{rules}
use Rattle.std.specs.Io.KnownBytes.{Appends}
use Rattle.tabled_csv.proofs.Common.{◌∙◌, ap, csv_of, subst}
use Rattle.tabled_csv.proofs.Written.{written-means}
use Rattle.tabled_held.proofs.Pens.{all-written, some-written, works-before}
use Rattle.tabled_held.specs.Sent.{IsCutShort, Kept}
use Rattle.tabled_csv.proofs.writing.write_texts.Goals as goal

pub returns-in-Ok-clause-written : goal.returns-in-Ok-clause-written
returns-in-Ok-clause-written g c =
    let contents = g.W.Write.contents in
    let writer = c.finish-written.result.0 in
    let name = c.finish-written.ensures.same_writer ∙ c.write_rows.ensures.sends.same_writer ∙ c.new-pen.ensures.same_writer in
    let none = ap (λ (held : Kept). held.bytes) c.new-pen.ensures.held ∙ c.in_ok-held.ensures.empty in
    let all = rw c.in-Ok.is at (all-written c.finish-written.result.1 none c.write_rows.ensures.sends c.finish-written.ensures) in
    let bytes = subst (λ w. Appends (contents w) (contents writer.now) (csv_of c.byte.result (g.R.Rows.texts c.args.rows.now))) c.new-pen.ensures.unchanged all in
    search rules

pub returns-in-Ok-clause-means : goal.returns-in-Ok-clause-means
returns-in-Ok-clause-means g c fields = written-means c.args.separator (g.R.Rows.texts c.args.rows.now) c.byte.ensures.well (fields, c.write_rows.ensures.texts (rw c.in-Ok.is at (works-before c.finish-written.result.1 c.finish-written.ensures)))

pub returns-in-Err-clause-failed : goal.returns-in-Err-clause-failed
returns-in-Err-clause-failed g c =
    let contents = g.W.Write.contents in
    let writer = c.finish-written.result.0 in
    let name = c.finish-written.ensures.same_writer ∙ c.write_rows.ensures.sends.same_writer ∙ c.new-pen.ensures.same_writer in
    let none = ap (λ (held : Kept). held.bytes) c.new-pen.ensures.held ∙ c.in_ok-held.ensures.empty in
    let works = ap (λ (held : Kept). held.failure) c.new-pen.ensures.held ∙ c.in_ok-held.ensures.works in
    let some = rw c.in-Err.is at (some-written c.finish-written.result.1 none works c.write_rows.ensures.sends c.finish-written.ensures) in
    let bytes = subst (λ w. IsCutShort (contents w) (contents writer.now) (csv_of c.byte.result (g.R.Rows.texts c.args.rows.now))) c.new-pen.ensures.unchanged some in
    search rules
