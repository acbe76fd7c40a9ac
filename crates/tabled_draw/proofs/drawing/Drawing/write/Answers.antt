use Rattle.std.proofs.Common.{rules}
use Rattle.std.proofs.lemmas.Result.{on_err_weaker, on_ok_weaker}
use Rattle.std.specs.Io.KnownBytes.{Appends}
use Rattle.std.specs.Result.{OnErr, OnOk}
use Rattle.tabled_draw.proofs.Common.{ap, subst, ◌∙◌}
use Rattle.tabled_held.proofs.Pens.{all-drawn, some-drawn}
use Rattle.tabled_held.specs.Sent.{IsCutShort, Kept}
use Rattle.tabled_draw.proofs.drawing.Drawing.write.Goals as goal

pub returns-clause-written : goal.returns-clause-written
returns-clause-written g c =
    let contents = g.W.Write.contents in
    let outcome = c.finish-written.result.1 in
    let done = c.finish-written.ensures in
    let name = done.same_writer ∙ c.write_lines.ensures.sends.same_writer ∙ c.new-pen.ensures.same_writer in
    let drawn = subst (λ bs. OnOk outcome (Appends (contents c.new-pen.result.writer.now) (contents c.finish-written.result.0.now) bs)) c.self.view_is
    (all-drawn outcome (ap (λ (held : Kept). held.bytes) c.new-pen.ensures.held ∙ c.self.invariant.1.unused) c.write_lines.ensures done) in
    on_ok_weaker outcome (λ all. let bytes = subst (λ w. Appends (contents w) (contents c.finish-written.result.0.now) c.args.self) c.new-pen.ensures.unchanged all in search rules) drawn

pub returns-clause-failed : goal.returns-clause-failed
returns-clause-failed g c =
    let contents = g.W.Write.contents in
    let outcome = c.finish-written.result.1 in
    let done = c.finish-written.ensures in
    let name = done.same_writer ∙ c.write_lines.ensures.sends.same_writer ∙ c.new-pen.ensures.same_writer in
    let drawn = subst (λ bs. OnErr outcome (IsCutShort (contents c.new-pen.result.writer.now) (contents c.finish-written.result.0.now) bs)) c.self.view_is
    (some-drawn outcome (ap (λ (held : Kept). held.bytes) c.new-pen.ensures.held ∙ c.self.invariant.1.unused) (ap (λ (held : Kept). held.failure) c.new-pen.ensures.held ∙ c.self.invariant.1.works) c.write_lines.ensures done) in
    on_err_weaker outcome (λ some. let bytes = subst (λ w. IsCutShort (contents w) (contents c.finish-written.result.0.now) c.args.self) c.new-pen.ensures.unchanged some in search rules) drawn
