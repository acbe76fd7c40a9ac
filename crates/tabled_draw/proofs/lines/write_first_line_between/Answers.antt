use Rattle.std.proofs.Common.{rules}
use Rattle.std.proofs.lemmas.Result.{on_ok_weaker}
use Rattle.std.specs.Io.KnownBytes.{Appends}
use Rattle.tabled_draw.proofs.Common.{ap, encode_utf8_all, subst, ◌∙◌}
use Rattle.tabled_held.proofs.Pens.{all-drawn}
use Rattle.tabled_draw.specs.Lines.{drawn_unmerged}
use Rattle.tabled_held.specs.Sent.{Kept}
use Rattle.tabled_draw.proofs.lines.write_first_line_between.Goals as goal

pub returns : goal.returns
returns g c =
    let contents = g.W.Write.contents in
    let done = c.finish-written.ensures in
    let name = done.same_writer ∙ c.write_unmerged_line.ensures.draws.sends.same_writer ∙ c.new-pen.ensures.same_writer in
    let line = encode_utf8_all (drawn_unmerged c.args.sheet.now 1) in
    on_ok_weaker c.finish-written.result.1
    (λ all. let bytes = subst (λ w. Appends (contents w) (contents c.finish-written.result.0.now) line) c.new-pen.ensures.unchanged all in search rules)
    (all-drawn c.finish-written.result.1 (ap (λ (held : Kept). held.bytes) c.new-pen.ensures.held ∙ c.requires) c.write_unmerged_line.ensures.draws done)
