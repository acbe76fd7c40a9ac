use Rattle.tabled_draw.proofs.Common.{Draws, [], ap, arith, each, get_or, length, map, subst, sym, with_newlines, ◌++◌, ◌+◌, ◌<◌, ◌∙◌, ◌∷◌}
use Rattle.tabled_draw.proofs.MarkdownLines.{first-lines, later-lines, lines-left, lines-more, row-at, wide-at}
use Rattle.tabled_held.proofs.Pens.{draws-as, draws-failed, draws-then}
use Rattle.tabled_draw.specs.Markdown.{characters, dashes_line, lines_at, row_line, rows_of_characters}
use Rattle.tabled_draw.proofs.markdown.write_lines.Goals as goal
use Rattle.tabled_draw.proofs.markdown.write_lines.Goals.{then-i-eq0, else-i-eq0}

pub write_row-requires : goal.write_row-requires
write_row-requires g c =
    let less : c.loop-i.i < length c.args.rows.now = omega (arith, c.loop-i-test.true, c.loop-i.auto.i-end) in
    ap length c.deref.ensures.value ∙ wide-at _ c.args.rows.now c.loop-i.i c.index-rows-i.result c.requires less c.index-rows-i.is

pub loop-i-preserved : goal.loop-i-preserved
loop-i-preserved g c =
    let less : c.loop-i.i < length c.args.rows.now = omega (arith, c.loop-i-test.true, c.loop-i.auto.i-end) in
    let rows = rows_of_characters c.args.rows.now in
    let aligns = c.args.alignments.now in
    let widths = c.args.widths.now in
    let row = draws-as (ap (λ row. row_line aligns widths row ++ (10 ∷ [])) (ap (map characters) c.deref.ensures.value ∙ row-at c.args.rows.now c.loop-i.i c.index-rows-i.result less c.index-rows-i.is)) c.write_row.ensures in
    draws-as (sym (lines-more aligns widths rows c.loop-i.i)) (draws-then c.loop-i.invariant (elim c.if-i-eq0.branch [
      | then-i-eq0 w ↦ draws-as (sym (first-lines aligns widths rows c.loop-i.i w.if-i-eq0.true)) (draws-then row (subst (λ pen. Draws g.W.Write.contents c.write_row.new.pen pen (dashes_line aligns widths ++ (10 ∷ []))) (sym w.pen-is) w.write_dashes_line.ensures))
      | else-i-eq0 w ↦ draws-as (sym (later-lines aligns widths rows c.loop-i.i w.if-i-eq0.false)) (subst (λ pen. Draws g.W.Write.contents c.loop-i.pen pen (row_line aligns widths (get_or rows c.loop-i.i []) ++ (10 ∷ []))) (sym w.pen-is) row)
    ]))

pub returns-then-has_failed : goal.returns-then-has_failed
returns-then-has_failed g c =
    let less : c.loop-i.i < length c.args.rows.now = omega (arith, c.loop-i-test.true, c.loop-i.auto.i-end) in
    let rows = rows_of_characters c.args.rows.now in
    let aligns = c.args.alignments.now in
    let widths = c.args.widths.now in
    let row = draws-as (ap (λ row. row_line aligns widths row ++ (10 ∷ [])) (ap (map characters) c.deref.ensures.value ∙ row-at c.args.rows.now c.loop-i.i c.index-rows-i.result less c.index-rows-i.is)) c.write_row.ensures in
    let drawn : Draws g.W.Write.contents c.args.pen.now c.if-i-eq0.pen (with_newlines (each (c.loop-i.i + 1) (lines_at aligns widths rows))) =
    draws-as (sym (lines-more aligns widths rows c.loop-i.i)) (draws-then c.loop-i.invariant (elim c.if-i-eq0.branch [
      | then-i-eq0 w ↦ draws-as (sym (first-lines aligns widths rows c.loop-i.i w.if-i-eq0.true)) (draws-then row (subst (λ pen. Draws g.W.Write.contents c.write_row.new.pen pen (dashes_line aligns widths ++ (10 ∷ []))) (sym w.pen-is) w.write_dashes_line.ensures))
      | else-i-eq0 w ↦ draws-as (sym (later-lines aligns widths rows c.loop-i.i w.if-i-eq0.false)) (subst (λ pen. Draws g.W.Write.contents c.loop-i.pen pen (row_line aligns widths (get_or rows c.loop-i.i []) ++ (10 ∷ []))) (sym w.pen-is) row)
    ])) in
    let rest = lines-left aligns widths rows (c.loop-i.i + 1) (length c.args.rows.now) (omega (arith, less)) in
    draws-as rest.1 (draws-then drawn (draws-failed (sym c.has_failed.ensures ∙ c.if-has_failed.true) rest.0))
