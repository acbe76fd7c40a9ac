use Rattle.std.specs.String.{string_bytes}
use Rattle.tabled_draw.proofs.Common.{Some, map_grid}
use Rattle.tabled_draw.specs.Width.{picture_width}
use Rattle.tabled_grid.specs.Grid.{Grid, grid_of, map_items}
use Rattle.tabled_script.proofs.Common.{◌<◌, ◌∙◌, ◌≡◌, ◌≤◌, List, ap, arith, on_ok_weaker, refl, sym, ℕ}
use Rattle.tabled_script.proofs.Failures.{memory_fails, only_fails}
use Rattle.tabled_script.proofs.Narrowed.{cut-drawn, picture-written, pieces-drawn, whole-drawn, wider-undrawn}
use Rattle.tabled_script.specs.Narrow.{at_widest_pieces, cut_to}
use Rattle.tabled_script.proofs.picture.write_narrow_picture.Goals as goal

pub returns-then-columns-width-clause-written : goal.returns-then-columns-width-clause-written
returns-then-columns-width-clause-written g c =
    let t = map_grid g.R.Cell.CellText.text_of (g.R.GridStore.grid c.args.records.now) in
    let m = c.args.cfg.now in
    let style = c.args.style in
    let fits : picture_width style t m ≤ c.args.width = omega (arith, c.in_ok-whole.ensures.width, c.if-columns-width.true) in
    on_ok_weaker c.write_drawing.result
    (picture-written style m t c.args.width c.args.alignments.now t c.in_ok-whole.whole _ _ (whole-drawn style m t c.args.width fits) fits (c.lines_take_the_width_of_their_picture.ensures style c.args.alignments.now t m) c.in_ok-whole.ensures.drawn)
    c.write_drawing.ensures.written

pub returns-then-width-takes-clause-unwritten : goal.returns-then-width-takes-clause-unwritten
returns-then-width-takes-clause-unwritten g c =
    let t = map_grid g.R.Cell.CellText.text_of (g.R.GridStore.grid c.args.records.now) in
    let m = c.args.cfg.now in
    let style = c.args.style in
    let takes : c.in_ok-least.takes ≡ picture_width style (at_widest_pieces t) m = c.in_ok-least.ensures.width ∙ ap (λ (g : Grid (List ℕ)). picture_width style g m) c.in_ok-pieces.ensures.texts in
    ((wider-undrawn style m t c.args.width (omega (arith, c.in_ok-whole.ensures.width, c.if-columns-width.false)) (omega (arith, takes, c.if-width-takes.true)), takes), refl)

pub returns-then-columns-width-2-clause-written : goal.returns-then-columns-width-2-clause-written
returns-then-columns-width-2-clause-written g c =
    let t = map_grid g.R.Cell.CellText.text_of (g.R.GridStore.grid c.args.records.now) in
    let m = c.args.cfg.now in
    let n = c.args.width in
    let style = c.args.style in
    let cut = map_grid string_bytes (grid_of (map_items c.in_ok-cut.cut.items)) in
    let width = λ (g : Grid (List ℕ)). picture_width style g m in
    let takes : c.in_ok-least.takes ≡ width (at_widest_pieces t) = c.in_ok-least.ensures.width ∙ ap width c.in_ok-pieces.ensures.texts in
    let fits : width cut ≤ n = omega (arith, c.in_ok-drawing.ensures.width, c.if-columns-width-2.true) in
    let wide : n < width t = omega (arith, c.in_ok-whole.ensures.width, c.if-columns-width.false) in
    let pieces : width (at_widest_pieces t) ≤ n = omega (arith, takes, c.if-width-takes.false) in
    let as_cut : width (cut_to n style m t) ≤ n = rw c.in_ok-cut.ensures.texts at fits in
    on_ok_weaker c.write_drawing-then-columns-width-2.result
    (picture-written style m t n c.args.alignments.now cut c.in_ok-drawing.drawing _ _ (cut-drawn style m t n wide pieces as_cut ∙ ap Some (sym c.in_ok-cut.ensures.texts)) fits (c.lines_take_the_width_of_their_picture.ensures style c.args.alignments.now cut m) c.in_ok-drawing.ensures.drawn)
    c.write_drawing-then-columns-width-2.ensures.written

pub returns-clause-written : goal.returns-clause-written
returns-clause-written g c =
    let t = map_grid g.R.Cell.CellText.text_of (g.R.GridStore.grid c.args.records.now) in
    let m = c.args.cfg.now in
    let n = c.args.width in
    let style = c.args.style in
    let cut = map_grid string_bytes (grid_of (map_items c.in_ok-cut.cut.items)) in
    let least = map_grid string_bytes (grid_of (map_items c.in_ok-pieces.pieces.items)) in
    let width = λ (g : Grid (List ℕ)). picture_width style g m in
    let takes : c.in_ok-least.takes ≡ width (at_widest_pieces t) = c.in_ok-least.ensures.width ∙ ap width c.in_ok-pieces.ensures.texts in
    let fits : width least ≤ n = omega (arith, c.in_ok-least.ensures.width, c.if-width-takes.false) in
    let wide : n < width t = omega (arith, c.in_ok-whole.ensures.width, c.if-columns-width.false) in
    let pieces : width (at_widest_pieces t) ≤ n = omega (arith, takes, c.if-width-takes.false) in
    let cut_wide : n < width cut = omega (arith, c.in_ok-drawing.ensures.width, c.if-columns-width-2.false) in
    let as_cut : n < width (cut_to n style m t) = rw c.in_ok-cut.ensures.texts at cut_wide in
    on_ok_weaker c.write_drawing-2.result
    (picture-written style m t n c.args.alignments.now least c.in_ok-least.least _ _ (pieces-drawn style m t n wide pieces as_cut ∙ ap Some (sym c.in_ok-pieces.ensures.texts)) fits (c.lines_take_the_width_of_their_picture.ensures style c.args.alignments.now least m) c.in_ok-least.ensures.drawn)
    c.write_drawing-2.ensures.written

pub returns-in_err-cut-clause-unwritten : goal.returns-in_err-cut-clause-unwritten
returns-in_err-cut-clause-unwritten g c = memory_fails _ _ _ c.from_residual-in_err-cut.result c.from_residual-in_err-cut.ensures.1

pub returns-in_err-drawing-clause-unwritten : goal.returns-in_err-drawing-clause-unwritten
returns-in_err-drawing-clause-unwritten g c = memory_fails _ _ _ c.from_residual-in_err-drawing.result c.from_residual-in_err-drawing.ensures.1

pub returns-then-columns-width-2-clause-unwritten : goal.returns-then-columns-width-2-clause-unwritten
returns-then-columns-width-2-clause-unwritten g c = only_fails _ _ _ _ c.write_drawing-then-columns-width-2.result c.write_drawing-then-columns-width-2.ensures.unwritten

pub returns-clause-unwritten : goal.returns-clause-unwritten
returns-clause-unwritten g c = only_fails _ _ _ _ c.write_drawing-2.result c.write_drawing-2.ensures.unwritten
