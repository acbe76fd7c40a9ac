use Rattle.tabled_draw.proofs.Common.{alignment_in, ap, arith, each, get_or, length, sym, ℕ, ◌++◌, ◌∙◌, ◌∷◌, ◌≡◌}
use Rattle.tabled_draw.proofs.Each.{each-more}
use Rattle.tabled_draw.proofs.MarkdownLines.{line-ended}
use Rattle.tabled_held.proofs.Pens.{draws-as, draws-then}
use Rattle.tabled_draw.specs.Markdown.{dashes}
use Rattle.tabled_draw.proofs.markdown.write_dashes_line.Goals as goal

pub loop-j-preserved : goal.loop-j-preserved
loop-j-preserved g c =
    let line = λ (j : ℕ). 124 ∷ dashes (alignment_in c.args.alignments.now j) (get_or c.args.widths.now j 0) in
    draws-as (ap (λ a. each c.loop-j.j line ++ (124 ∷ dashes a (get_or c.args.widths.now c.loop-j.j 0))) c.alignment_in.ensures ∙ sym (each-more line c.loop-j.j))
    (draws-then c.loop-j.invariant (draws-then c.draw.ensures c.write_dashes.ensures))

pub returns : goal.returns
returns g c =
    let line = λ (j : ℕ). 124 ∷ dashes (alignment_in c.args.alignments.now j) (get_or c.args.widths.now j 0) in
    let all : c.loop-j.j ≡ length c.args.widths.now = omega (arith, c.loop-j-test.false, c.loop-j.auto.j-end) in
    line-ended line all c.loop-j.invariant c.draw-2.ensures c.end_line.ensures
