use Rattle.std.proofs.Common.{rules}
use Rattle.std.proofs.lemmas.Result.{on_err_weaker}
use Rattle.std.specs.Result.{OnErr}
use Rattle.tabled_draw.proofs.Common.{ap, ap₂, eq-eqb, length, subst, sym, with_newlines, ◌∙◌, false≢true}
use Rattle.tabled_draw.proofs.MarkdownLines.{length-rows, lines-some}
use Rattle.tabled_held.proofs.Pens.{draws-as, some-drawn}
use Rattle.tabled_draw.specs.Markdown.{lines_of, rows_of_characters}
use Rattle.tabled_held.specs.Sent.{IsCutShort, Kept}
use Rattle.tabled_draw.proofs.markdown.Markdown.write.Goals as goal

pub returns-clause-failed : goal.returns-clause-failed
returns-clause-failed g c =
    let contents = g.W.Write.contents in
    let outcome = c.finish-written.result.1 in
    let done = c.finish-written.ensures in
    let aligns = c.self.inside.alignments.now in
    let name = done.same_writer ∙ c.write_lines.ensures.sends.same_writer ∙ c.new-pen.ensures.same_writer in
    let lines = lines-some aligns c.deref-2.result.now (rows_of_characters c.deref.result.now) (length c.deref.result.now) (λ none. false≢true (sym c.if-is_empty.false ∙ c.is_empty.ensures ∙ eq-eqb _ 0 (sym c.deref-2.ensures.len ∙ none))) (sym (length-rows c.deref.result.now)) in
    let same = ap₂ (λ widths rows. with_newlines (lines_of aligns widths (rows_of_characters rows))) c.deref-2.ensures.value c.deref.ensures.value in
    let drawn = subst (λ bs. OnErr outcome (IsCutShort (contents c.new-pen.result.writer.now) (contents c.finish-written.result.0.now) bs)) c.self.view_is
    (some-drawn outcome (ap (λ (held : Kept). held.bytes) c.new-pen.ensures.held ∙ c.self.invariant.1) (ap (λ (held : Kept). held.failure) c.new-pen.ensures.held ∙ c.self.invariant.2) (draws-as (lines ∙ same) c.write_lines.ensures) done) in
    on_err_weaker outcome (λ some. let bytes = subst (λ w. IsCutShort (contents w) (contents c.finish-written.result.0.now) c.args.self) c.new-pen.ensures.unchanged some in search rules) drawn
