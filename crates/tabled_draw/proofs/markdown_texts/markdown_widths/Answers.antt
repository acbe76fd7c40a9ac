use Rattle.tabled_draw.proofs.Common.{[], ap, arith, get_or, largest, length, length-map, map, subst, sym, text_width, ◌<◌, ◌∙◌, ◌≡◌}
use Rattle.tabled_draw.proofs.MarkdownLines.{row-at, wide-at, width-more, widths-all, length-rows}
use Rattle.tabled_draw.specs.Markdown.{characters, rows_of_characters}
use Rattle.tabled_draw.proofs.markdown_texts.markdown_widths.Goals as goal

pub raise-requires : goal.raise-requires
raise-requires c =
    let less : c.loop-row.row-index < length c.args.rows.now = omega (arith, c.loop-row-test.true, c.loop-row.auto.row-index-end) in
    ap length c.deref.ensures.value ∙ wide-at _ c.args.rows.now c.loop-row.row-index c.row-item.result c.requires less c.row-item.is ∙ sym c.loop-row.invariant.long

pub loop-row-preserved : goal.loop-row-preserved
loop-row-preserved c =
    let less : c.loop-row.row-index < length c.args.rows.now = omega (arith, c.loop-row-test.true, c.loop-row.auto.row-index-end) in
    let row = ap (map characters) c.deref.ensures.value ∙ row-at c.args.rows.now c.loop-row.row-index c.row-item.result less c.row-item.is in
    record {
      long = c.raise.ensures.long ∙ c.loop-row.invariant.long;
      raised = λ j inside. width-more (rows_of_characters c.args.rows.now) _ c.loop-row.row-index j _ _ row (c.loop-row.invariant.raised j inside) (c.raise.ensures.raised j (subst (λ n. j < n) (sym (length-map c.deref.result.now characters ∙ ap length c.deref.ensures.value ∙ wide-at _ c.args.rows.now c.loop-row.row-index c.row-item.result c.requires less c.row-item.is)) inside));
    }

pub returns : goal.returns
returns c =
    let all : c.loop-row.row-index ≡ length c.args.rows.now = omega (arith, c.loop-row-test.false, c.loop-row.auto.row-index-end) in
    widths-all (rows_of_characters c.args.rows.now) c.args.columns c.loop-row.widths.items c.loop-row.invariant.long (λ j inside. c.loop-row.invariant.raised j inside ∙ ap (λ n. largest 3 n (λ i. text_width (get_or (get_or (rows_of_characters c.args.rows.now) i []) j []))) (all ∙ sym (length-rows c.args.rows.now)))
