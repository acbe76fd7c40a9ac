use Rattle.std.proofs.lemmas.Result.{IfOk-weaker}
use Rattle.tabled_draw.proofs.Common.{◌∙◌, ap}
use Rattle.tabled_draw.specs.Width.{width_of_columns}
use Rattle.tabled_script.proofs.Levels.{limits-pieces, limits-words}
use Rattle.tabled_script.proofs.limits.limits.Goals as goal

pub returns-then-columns-width : goal.returns-then-columns-width
returns-then-columns-width c = IfOk-weaker c.raised_to.result _ _
    (λ widths is. limits-words c.args.width c.args.lines c.args.of_lines.now c.args.of_words.now c.args.of_pieces.now c.in_ok-words.words.items c.deref-then-columns-width.result.now c.deref-then-columns-width-2.result.now widths.items c.in_ok-columns.columns c.in_ok-level.level c.in_ok-words.ensures c.deref-then-columns-width.ensures.value c.deref-then-columns-width-2.ensures.value (c.in_ok-columns.ensures.width ∙ ap (width_of_columns c.args.lines) c.deref.ensures.value) c.if-columns-width.true c.in_ok-level.ensures is)
    c.raised_to.ensures

pub returns : goal.returns
returns c = IfOk-weaker c.raised_to-else-columns-width.result _ _
    (λ widths is. limits-pieces c.args.width c.args.lines c.args.of_lines.now c.args.of_words.now c.args.of_pieces.now c.in_ok-words.words.items c.deref-else-columns-width.result.now c.deref-else-columns-width-2.result.now widths.items c.in_ok-columns.columns c.in_ok-level-2.level c.in_ok-words.ensures c.deref-else-columns-width.ensures.value c.deref-else-columns-width-2.ensures.value (c.in_ok-columns.ensures.width ∙ ap (width_of_columns c.args.lines) c.deref.ensures.value) c.if-columns-width.false c.in_ok-level-2.ensures is)
    c.raised_to-else-columns-width.ensures
