use Rattle.tabled_draw.proofs.Common.{None, [], ap, ap₂, arith, bytes_in, cond-false, differ, each, edge, get_or, is_drawn, left_inside, length, length-set, level, stretch, sym, text_inside, true, ◌+◌, ◌<◌, ◌∙◌, ◌≡◌, size_if}
use Rattle.tabled_draw.proofs.Arms.{differ-self}
use Rattle.tabled_draw.proofs.Each.{changed-more, each-more, text-in}
use Rattle.tabled_held.proofs.Pens.{draws-as, draws-then}
use Rattle.tabled_draw.specs.Lines.{drawn_line}
use Rattle.tabled_draw.proofs.lines.write_row_line.Goals as goal

pub write_inside-requires-clause-end : goal.write_inside-requires-clause-end
write_inside-requires-clause-end g c = λ o owned begins.
    let less : c.loop-j.j < length c.args.rests.now.items = omega (arith, c.loop-j-test.true, c.len-columns.ensures) in
    omega (arith, c.requires.inside.each c.loop-j.j o less owned begins, c.requires.columns, c.args.sheet.now.long)

pub loop-j-preserved : goal.loop-j-preserved
loop-j-preserved g c =
    let columns = c.len-columns.result in
    let sheet = c.args.sheet.now in
    let j = c.loop-j.j in
    let old = bytes_in c.args.rests.now.items in
    let less : j < length c.loop-j.rests.items = omega (arith, c.loop-j-test.true, c.len-columns.ensures, c.loop-j.invariant.long) in
    let text : c.index.result.now.now ≡ get_or old j [] = text-in c.loop-j.rests.items j c.index.result.now less c.index.ensures ∙ c.loop-j.invariant.rests.left j (omega arith) in
    let a = get_or c.args.owners.now (j + 1) None in
    let b = get_or c.args.owners.now (j + 1) None in
    let drawn : c.loop-j.drawn ≡ is_drawn sheet.look.style.columns columns j = c.loop-j.invariant.is_drawn c.loop-j-test.true in
    record {
      long = length-set c.loop-j.rests.items j _ ∙ c.loop-j.invariant.long;
      rests = changed-more _ old c.loop-j.rests.items j c.write_inside.result c.loop-j.invariant.rests less (c.write_inside.ensures.rest ∙ ap (left_inside j a) text ∙ sym (cond-false (differ a a) (get_or old j []) (left_inside j a (get_or old j [])) (differ-self a)));
      is_drawn = λ more. c.is_drawn_after-drawn.ensures columns more;
      drawn = draws-as (sym (each-more (stretch sheet true c.args.owners.now c.args.owners.now columns old) j))
          (draws-then c.loop-j.invariant.drawn (draws-then
          (draws-as (ap (λ d. edge sheet.look.style true (size_if d) (get_or c.args.owners.now j None) a (get_or c.args.owners.now j None) b) drawn) c.write_upright.ensures)
          (draws-as (ap₂ (λ d t. text_inside sheet d j a t) drawn text ∙ sym (cond-false (differ a a) (level sheet.look.style (is_drawn sheet.look.style.columns columns j) sheet.edges.now j) (text_inside sheet (is_drawn sheet.look.style.columns columns j) j a (get_or old j [])) (differ-self a))) c.write_inside.ensures.draws)));
    }

pub returns-clause-draws : goal.returns-clause-draws
unfolding drawn_line
returns-clause-draws g c =
    let old = bytes_in c.args.rests.now.items in
    let columns : c.len-columns.result ≡ length c.args.rests.now.items = omega (arith, c.len-columns.ensures) in
    let end : c.loop-j.j ≡ length c.args.rests.now.items = omega (arith, c.loop-j-test.false, c.loop-j.auto.j-end, c.len-columns.ensures) in
    draws-as (ap (λ n. drawn_line c.args.sheet.now true c.args.owners.now c.args.owners.now n old) columns) (draws-then (draws-then
    (draws-as (ap (λ n. each n (stretch c.args.sheet.now true c.args.owners.now c.args.owners.now c.len-columns.result old)) (end ∙ sym columns)) c.loop-j.invariant.drawn)
    (draws-as (ap (λ d. edge c.args.sheet.now.look.style true (size_if d) (get_or c.args.owners.now c.len-columns.result None) (get_or c.args.owners.now (c.len-columns.result + 1) None) (get_or c.args.owners.now c.len-columns.result None) (get_or c.args.owners.now (c.len-columns.result + 1) None)) c.is_drawn-drawn-2.ensures) c.write_upright-2.ensures))
    c.end_line.ensures)
