use Rattle.tabled_draw.proofs.Common.{None, [], ap, ap₂, arith, bytes_in, column, each, edge, false, get_or, is_drawn, left_if, length, stretch, sym, ◌+◌, ◌<◌, ◌∙◌, ◌≡◌, size_if}
use Rattle.tabled_draw.proofs.Each.{changed-at, each-more}
use Rattle.tabled_held.proofs.Pens.{draws-as, draws-then}
use Rattle.tabled_draw.specs.Lines.{drawn_line}
use Rattle.tabled_draw.proofs.lines.write_border_line.Goals as goal

pub write_column-requires-clause-end : goal.write_column-requires-clause-end
write_column-requires-clause-end g c = λ o owned begins.
    let less : c.loop-j.j < length c.args.rests.now.items = omega (arith, c.loop-j-test.true, c.len-columns.ensures) in
    omega (arith, c.requires.inside.each c.loop-j.j o less owned begins, c.requires.columns, c.args.sheet.now.long)

pub loop-j-preserved : goal.loop-j-preserved
loop-j-preserved g c =
    let columns = c.len-columns.result in
    let sheet = c.args.sheet.now in
    let j = c.loop-j.j in
    let old = bytes_in c.args.rests.now.items in
    let text : get_or (bytes_in c.loop-j.rests.items) j [] ≡ get_or old j [] = c.loop-j.invariant.rests.left j (omega arith) in
    let a = get_or c.args.above.now (j + 1) None in
    let b = get_or c.args.below.now (j + 1) None in
    let drawn : c.loop-j.drawn ≡ is_drawn sheet.look.style.columns columns j = c.loop-j.invariant.is_drawn c.loop-j-test.true in
    record {
      long = c.write_column.ensures.rests.long ∙ c.loop-j.invariant.long;
      rests = changed-at _ old c.loop-j.rests.items c.write_column.new.rests.items j c.differ-right.result a c.loop-j.invariant.rests c.write_column.ensures.rests (ap₂ (λ apart t. left_if j apart a t) c.differ-right.ensures text);
      is_drawn = λ more. c.is_drawn_after-drawn.ensures columns more;
      left = c.differ-right.ensures;
      drawn = draws-as (sym (each-more (stretch sheet false c.args.above.now c.args.below.now columns old) j))
          (draws-then c.loop-j.invariant.drawn (draws-then
          (draws-as (ap (λ d. edge sheet.look.style false (size_if d) (get_or c.args.above.now j None) a (get_or c.args.below.now j None) b) drawn) c.write_corner.ensures)
          (draws-as (ap₂ (λ d t. column sheet d c.differ-right.result j a t) drawn text ∙ ap (λ apart. column sheet (is_drawn sheet.look.style.columns columns j) apart j a (get_or old j [])) c.differ-right.ensures) c.write_column.ensures.draws)));
    }

pub returns-clause-draws : goal.returns-clause-draws
unfolding drawn_line
returns-clause-draws g c =
    let old = bytes_in c.args.rests.now.items in
    let columns : c.len-columns.result ≡ length c.args.rests.now.items = omega (arith, c.len-columns.ensures) in
    let end : c.loop-j.j ≡ length c.args.rests.now.items = omega (arith, c.loop-j-test.false, c.loop-j.auto.j-end, c.len-columns.ensures) in
    draws-as (ap (λ n. drawn_line c.args.sheet.now false c.args.above.now c.args.below.now n old) columns) (draws-then (draws-then
    (draws-as (ap (λ n. each n (stretch c.args.sheet.now false c.args.above.now c.args.below.now c.len-columns.result old)) (end ∙ sym columns)) c.loop-j.invariant.drawn)
    (draws-as (ap (λ d. edge c.args.sheet.now.look.style false (size_if d) (get_or c.args.above.now c.len-columns.result None) (get_or c.args.above.now (c.len-columns.result + 1) None) (get_or c.args.below.now c.len-columns.result None) (get_or c.args.below.now (c.len-columns.result + 1) None)) c.is_drawn-drawn-2.ensures) c.write_corner-2.ensures))
    c.end_line.ensures)
