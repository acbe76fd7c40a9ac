use Rattle.tabled_draw.proofs.Common.{AreUnmerged, Draws, IsOwnerRow, ap, arith, border_line, bytes_in, drawn_border, length, map_grid, plan_on, rectangles, refl, subst, sym, top, with_newlines, ◌+◌, ◌∙◌, ◌≡◌}
use Rattle.tabled_draw.proofs.Owned.{count-none, owner-below, owner-top, row-outside}
use Rattle.tabled_grid.proofs.Owners.{anchors-fit}
use Rattle.tabled_draw.proofs.Rows.{all-rows, border-text, end-inside, left-outside, more-rows, rest-of}
use Rattle.tabled_held.proofs.Pens.{draws-as, draws-failed, draws-none, draws-then}
use Rattle.tabled_draw.proofs.Unmerged.{none-left, unmerged-rows}
use Rattle.tabled_draw.proofs.drawing.write_lines.Goals as goal

pub loop-i-init : goal.loop-i-init
loop-i-init g c =
    let t = map_grid g.R.Cell.CellText.text_of (g.R.GridStore.grid c.args.records.now) in
    let m = c.args.cfg.now in
    let style = c.args.sheet.now.look.style in
    record {
      band = record {
        above = row-outside _ _ m 0 _ (owner-top _ _ (rectangles m)) (c.clear.ensures.long ∙ c.requires.room.above) c.clear.ensures.none;
        here = c.requires.room.here;
        next = c.requires.next ∙ sym (count-none (rectangles m));
        long = c.requires.room.long;
        left = left-outside (plan_on c.args.sheet.now t m) (anchors-fit m _ _ c.requires.sheet.fits) (top (plan_on c.args.sheet.now t m) 0) (bytes_in c.args.band.now.rests.items);
      };
      drawn = draws-none;
    }

pub loop-i-preserved : goal.loop-i-preserved
loop-i-preserved g c =
    let t = map_grid g.R.Cell.CellText.text_of (g.R.GridStore.grid c.args.records.now) in
    record {
      band = c.write_row.ensures.band;
      drawn = draws-as (more-rows (plan_on c.args.sheet.now t c.args.cfg.now) c.args.sheet.now.look.alignments.now c.loop-i.i) (draws-then c.loop-i.invariant.drawn c.write_row.ensures.draws);
    }

pub returns-then-has_failed : goal.returns-then-has_failed
returns-then-has_failed g c =
    let t = map_grid g.R.Cell.CellText.text_of (g.R.GridStore.grid c.args.records.now) in
    let es = rectangles c.args.cfg.now in
    let style = c.args.sheet.now.look.style in
    let aligns = c.args.sheet.now.look.alignments.now in
    let plan = plan_on c.args.sheet.now t c.args.cfg.now in
    let rest = rest-of plan aligns (c.loop-i.i + 1) (omega (arith, c.loop-i-test.true, c.loop-i.auto.i-end, c.requires.sheet.rows)) c.requires.high c.requires.wide in
    draws-as rest.1 (draws-then (draws-as (more-rows plan aligns c.loop-i.i) (draws-then c.loop-i.invariant.drawn c.write_row.ensures.draws)) (draws-failed (sym c.has_failed.ensures ∙ c.if-has_failed.true) rest.0))

pub write_border-requires-clause-inside : goal.write_border-requires-clause-inside
write_border-requires-clause-inside g c = rw (c.loop-i.invariant.band.long, c.deref.ensures.value) (end-inside c.args.cfg.now _ _ c.loop-i.i c.loop-i.band.above.items c.requires.sheet.fits c.loop-i.invariant.band.above)

pub write_border-requires-clause-unmerged : goal.write_border-requires-clause-unmerged
write_border-requires-clause-unmerged g c =
    let t = map_grid g.R.Cell.CellText.text_of (g.R.GridStore.grid c.args.records.now) in
    let m = c.args.cfg.now in
    let i : c.loop-i.i ≡ t.rows = omega (arith, c.loop-i-test.false, c.loop-i.auto.i-end, c.requires.sheet.rows) in
    let last : c.args.sheet.now.rows ≡ c.loop-i.i = c.requires.sheet.rows ∙ sym i in
    let over : IsOwnerRow t.rows t.columns (rectangles m) c.loop-i.i c.deref.result.now = rw c.deref.ensures.value c.loop-i.invariant.band.above in
    let under : IsOwnerRow t.rows t.columns (rectangles m) (c.loop-i.i + 1) c.deref-2.result.now = rw c.deref-2.ensures.value (row-outside t.rows t.columns m (c.loop-i.i + 1) c.clear-2.new.row.items (λ j. owner-below t.rows t.columns (rectangles m) (c.loop-i.i + 1) j (omega (arith, i))) (c.clear-2.ensures.long ∙ c.loop-i.invariant.band.here) c.clear-2.ensures.none) in
    λ empty. subst (λ k. AreUnmerged c.args.sheet.now.rows (length c.loop-i.band.rests.items) k c.deref.result.now c.deref-2.result.now) (sym last)
    (unmerged-rows t m c.loop-i.i c.args.sheet.now.rows (length c.loop-i.band.rests.items) c.deref.result.now c.deref-2.result.now c.requires.sheet.rows c.loop-i.invariant.band.long c.requires.sheet.fits c.requires.high c.requires.wide
    (none-left _ _ _ c.rectangles.ensures.rectangles c.is_empty-is_unmerged.ensures empty) (omega (arith, i)) over under)

pub returns : goal.returns
returns g c =
    let rests = c.loop-i.band.rests.items in
    let sheet = c.args.sheet.now in
    let t = map_grid g.R.Cell.CellText.text_of (g.R.GridStore.grid c.args.records.now) in
    let m = c.args.cfg.now in
    let i : c.loop-i.i ≡ t.rows = omega (arith, c.loop-i-test.false, c.loop-i.auto.i-end, c.requires.sheet.rows) in
    let over : IsOwnerRow t.rows t.columns (rectangles m) c.loop-i.i c.deref.result.now = rw c.deref.ensures.value c.loop-i.invariant.band.above in
    let under : IsOwnerRow t.rows t.columns (rectangles m) (c.loop-i.i + 1) c.deref-2.result.now = rw c.deref-2.ensures.value (row-outside t.rows t.columns m (c.loop-i.i + 1) c.clear-2.new.row.items (λ j. owner-below t.rows t.columns (rectangles m) (c.loop-i.i + 1) j (omega (arith, i))) (c.clear-2.ensures.long ∙ c.loop-i.invariant.band.here) c.clear-2.ensures.none) in
    let style = sheet.look.style in
    let aligns = sheet.look.alignments.now in
    let plan = plan_on sheet t c.args.cfg.now in
    let last : sheet.rows ≡ c.loop-i.i = c.requires.sheet.rows ∙ sym i in
    let drawn : Draws g.W.Write.contents c.loop-i.pen c.write_border.new.pen (drawn_border sheet c.loop-i.i c.deref.result.now c.deref-2.result.now (length rests) (bytes_in rests)) =
    draws-as (ap (λ k. drawn_border sheet k c.deref.result.now c.deref-2.result.now (length rests) (bytes_in rests)) last) c.write_border.ensures.draws in
    draws-as (all-rows plan aligns c.loop-i.i i c.requires.high c.requires.wide) (draws-then c.loop-i.invariant.drawn
    (draws-as (border-text sheet t m c.requires.sheet.fits c.requires.sheet.edges c.loop-i.i (top plan c.loop-i.i) c.deref.result.now c.deref-2.result.now rests c.requires.sheet.rows refl over under c.loop-i.invariant.band.left c.loop-i.invariant.band.long
    ∙ ap (λ k. with_newlines (border_line plan aligns k)) i)
    drawn))
