use Rattle.tabled_draw.proofs.Common.{ap, ap₂, arith, corner_if, each, false, is_drawn, level, lt-ltb, marked, nat_lt, refl, sym, unmerged_arms, unmerged_stretch, ◌+◌, ◌∙◌, ◌≡◌}
use Rattle.std.proofs.Common.{le-ltb}
use Rattle.tabled_draw.proofs.Arms.{same-arms}
use Rattle.tabled_draw.proofs.Each.{each-more}
use Rattle.tabled_held.proofs.Pens.{draws-as, draws-none, draws-then}
use Rattle.tabled_draw.specs.Unmerged.{unmerged_line}
use Rattle.tabled_draw.proofs.lines.write_unmerged_line.Goals as goal

pub loop-j-init : goal.loop-j-init
loop-j-init g c = record {
  mark = λ some. c.corner-mark.ensures ∙ ap (corner_if c.args.sheet.now.look.style) (same-arms _ _ _ _ _ _ _ _ refl (sym (lt-ltb 0 c.args.sheet.now.columns some)) refl (sym (le-ltb 0 0 (omega arith))));
  is_drawn = λ some. c.is_drawn-drawn.ensures;
  drawn = draws-none;
}

pub loop-j-preserved : goal.loop-j-preserved
loop-j-preserved g c =
    let sheet = c.args.sheet.now in
    let j = c.loop-j.j in
    let drawn : c.loop-j.drawn ≡ is_drawn sheet.look.style.columns sheet.columns j = c.loop-j.invariant.is_drawn c.loop-j-test.true in
    let mark : c.loop-j.mark ≡ corner_if sheet.look.style (unmerged_arms sheet.rows sheet.columns c.args.i j) = c.loop-j.invariant.mark c.loop-j-test.true in
    record {
      mark = λ more. c.corner-inner.ensures ∙ ap (corner_if sheet.look.style) (same-arms _ _ _ _ _ _ _ _ refl (sym (lt-ltb (j + 1) sheet.columns more)) refl (sym (lt-ltb 0 (j + 1) (omega arith))));
      is_drawn = λ more. c.is_drawn_after-drawn.ensures sheet.columns more;
      drawn = draws-as (sym (each-more (unmerged_stretch sheet.look.style sheet.rows sheet.columns c.args.i sheet.edges.now) j))
          (draws-then c.loop-j.invariant.drawn (draws-then
          (draws-as (ap₂ marked drawn mark) c.write_mark.ensures)
          (draws-as (ap (λ d. level sheet.look.style d sheet.edges.now j) drawn) c.write_level.ensures)));
    }

pub returns : goal.returns
unfolding unmerged_line
returns g c =
    let sheet = c.args.sheet.now in
    let columns = sheet.columns in
    let end : c.loop-j.j ≡ columns = omega (arith, c.loop-j-test.false, c.loop-j.auto.j-end) in
    let last : c.corner-last.result ≡ corner_if sheet.look.style (unmerged_arms sheet.rows columns c.args.i columns) = c.corner-last.ensures ∙ ap (corner_if sheet.look.style) (same-arms (nat_lt 0 c.args.i) false (nat_lt c.args.i sheet.rows) (nat_lt 0 columns) (nat_lt 0 c.args.i) (nat_lt columns columns) (nat_lt c.args.i sheet.rows) (nat_lt 0 columns) refl (sym (le-ltb columns columns (omega arith))) refl refl) in
    record {
      draws = draws-then (draws-then
          (draws-as (ap (λ n. each n (unmerged_stretch sheet.look.style sheet.rows columns c.args.i sheet.edges.now)) end) c.loop-j.invariant.drawn)
          (draws-as (ap₂ marked c.is_drawn.ensures last) c.write_mark-2.ensures))
          c.end_line.ensures;
    }
