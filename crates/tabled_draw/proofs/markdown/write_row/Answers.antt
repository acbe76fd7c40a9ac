use Rattle.std.specs.Prelude.{chars}
use Rattle.tabled_draw.proofs.Common.{[], aligned, alignment_in, ap, ap₂, arith, each, get_or, length, map, sym, ℕ, ◌++◌, ◌∙◌, ◌∷◌, ◌≡◌}
use Rattle.tabled_draw.proofs.Each.{each-more}
use Rattle.tabled_draw.proofs.MarkdownLines.{characters-at, line-ended}
use Rattle.tabled_held.proofs.Pens.{draws-as, draws-then}
use Rattle.tabled_draw.specs.Markdown.{characters}
use Rattle.tabled_draw.proofs.markdown.write_row.Goals as goal

pub loop-j-preserved : goal.loop-j-preserved
loop-j-preserved g c =
    let line = λ (j : ℕ). 124 ∷ aligned (alignment_in c.args.alignments.now j) (get_or c.args.widths.now j 0) (get_or (map characters c.args.row.now) j []) in
    draws-as (ap₂ (λ a text. each c.loop-j.j line ++ (124 ∷ aligned a (get_or c.args.widths.now c.loop-j.j 0) text)) c.alignment_in.ensures (ap chars c.deref.ensures ∙ characters-at c.args.row.now c.loop-j.j c.index-row-j.result (omega (arith, c.loop-j-test.true, c.requires)) c.index-row-j.is) ∙ sym (each-more line c.loop-j.j))
    (draws-then c.loop-j.invariant (draws-then c.draw.ensures c.write_cell.ensures))

pub returns : goal.returns
returns g c =
    let line = λ (j : ℕ). 124 ∷ aligned (alignment_in c.args.alignments.now j) (get_or c.args.widths.now j 0) (get_or (map characters c.args.row.now) j []) in
    let all : c.loop-j.j ≡ length c.args.widths.now = omega (arith, c.loop-j-test.false, c.loop-j.auto.j-end) in
    line-ended line all c.loop-j.invariant c.draw-2.ensures c.end_line.ensures
